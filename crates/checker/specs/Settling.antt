-- What settling a file looks up: the hashes of the files that its input rows name, and the first row that stands against it.
-- Source: this project's own rule (docs/CALLS.md, "Verdict" and "Calls").
use Rattle.std.specs.Prelude.{◌≡◌, ℕ, ◌+◌, ◌<◌, List, length, Some, None, Err, Option, slice_index_or}
use Rattle.aterm.specs.declared.file.Input.{Input}
use Rattle.aterm.specs.declared.rows.Placed.{Placed}
use Rattle.canonical.specs.Files.{said_in}
use Rattle.derivation.specs.Asked.{field_number}
use Rattle.derivation.specs.declared.field.Field.TheVariants.{Inputs}
use Rattle.derivation.specs.declared.spot.Spot.{Spot}
use Rattle.canonical.specs.Meanings.{Meaning}
use Rattle.file_meaning.specs.Reads.{Reads}
use Rattle.hash_modulo.specs.Sets.{Bytes, Row, Names}
use Rattle.hash_rows.specs.declared.hash.Hash.{Hash}
use Rattle.links.specs.declared.link.Links.{Links}
use Rattle.right_paths.specs.Worked.{FileWorked}
use Rattle.right_paths.specs.declared.hashes.FileHashes.{FileHashes}
use Rattle.sink.specs.Digest.{AllWide}
use Rattle.sink.specs.Write.{Step}
use Rattle.sink.specs.Write as sinks
use Rattle.verdict.specs.Judged.{PathsJudged}
use Rattle.verdict.specs.declared.fault.Fault.{Fault}
use Rattle.checker.specs.Calls.{Kind, D, Decides}
use Rattle.verdict.specs.declared.fault.Fault.TheVariants as fault
use Rattle.checker.specs.Soundness.{SoundView}
use Rattle.checker.specs.Standings.{FirstLink}
use Rattle.checker.specs.Views.{View, files, path_at, NumberOf, TakenAt, HashedAt}
use Rattle.checker.specs.declared.standing.Standing.{Standing}
use Rattle.checker.specs.declared.standing.Standing.TheVariants.{Absent, Unowned, Unhashed, Waiting}
use Rattle.checker.specs.declared.state.Hashes.{Hashes}
use Rattle.checker.specs.declared.state.Settlement.{Settlement}
use Rattle.checker.specs.declared.state.State.{State}
use Rattle.checker.specs.declared.state.State.TheVariants.{Pending, Taken, Settled}

-- ---- the hashes of the inputs

abbrev pub hash_if : Option Hashes → Option Hash
hash_if None = None
hash_if (Some h) = Some h.hash

-- the hash of a file in a state, where it is settled with one
abbrev pub hash_kept : State → Option Hash
hash_kept Pending = None
hash_kept Taken = None
hash_kept (Settled s) = hash_if s.hashes

-- r has the hash of the file at p, if that is settled with one
abbrev pub HashFound : View → Bytes → Option Hash → Type 0
HashFound v p r = (k : ℕ) (h : Hashes) → NumberOf v p k → HashedAt v k h → r ≡ Some h.hash

-- the same of a hash
pub record HashFor (v : View) (p : Bytes) (x : Hash) : Type 0 where
  pub right : (k : ℕ) (h : Hashes) → NumberOf v p k → HashedAt v k h → x ≡ h.hash

-- beside each row is the hash of the file that it names
abbrev pub HashesFor : View → Bytes → List (Placed Input) → List Hash → Type 0
HashesFor v text rows hashes = (i : ℕ) (r : Placed Input) (x : Hash) → i < length rows
    → HashFor v (said_in text (slice_index_or rows i r).value.path) (slice_index_or hashes i x)

-- ---- questions 18 to 20, by the links of the rows and the states of the files that they name

-- where the first row is whose file stands so, or none
abbrev pub FirstSpot : (ℕ → State) → Links → List (Placed Input) → Standing → Option Spot → Type 0
FirstSpot row l inputs wanted None = FirstLink row l wanted None
FirstSpot row l inputs wanted (Some w) =
    (i : ℕ) × FirstLink row l wanted (Some i) × ((v : Placed Input) → w ≡ record { field = field_number Inputs; row = i + 1; place = (slice_index_or inputs i v).place })

-- the first of the questions with the answer no; of 20 a row whose file is settled without a hash or, if there is none, one whose file is not settled
pub data LinksAsked (row : ℕ → State) (l : Links) (inputs : List (Placed Input)) (r : Option Fault) : Type 0 where
  absent : (w : Spot) → FirstSpot row l inputs Absent (Some w) → r ≡ Some (fault.Absent w) → LinksAsked row l inputs r
  unowned : FirstSpot row l inputs Absent None → (w : Spot) → FirstSpot row l inputs Unowned (Some w) → r ≡ Some (fault.Unowned w) → LinksAsked row l inputs r
  unhashed : FirstSpot row l inputs Absent None → FirstSpot row l inputs Unowned None → (w : Spot) → FirstSpot row l inputs Unhashed (Some w)
      → r ≡ Some (fault.Unhashed w) → LinksAsked row l inputs r
  waiting : FirstSpot row l inputs Absent None → FirstSpot row l inputs Unowned None → FirstSpot row l inputs Unhashed None
      → (w : Spot) → FirstSpot row l inputs Waiting (Some w) → r ≡ Some (fault.Unhashed w) → LinksAsked row l inputs r
  hashed : FirstSpot row l inputs Absent None → FirstSpot row l inputs Unowned None → FirstSpot row l inputs Unhashed None
      → FirstSpot row l inputs Waiting None → r ≡ None → LinksAsked row l inputs r

-- ---- a file whose inputs are settled with hashes

abbrev pub kind_of : Step → List ℕ → ℕ → (answer : List ℕ → List ℕ) → AllWide answer → Kind
kind_of step start capacity answer wide = record { step = step; start = start; capacity = capacity; answer = answer; wide = wide }

-- what is worked out for the file at `path` with this text from the hashes of its inputs, each of which is the kept one where the input is settled with one,
-- and what it is judged by them
pub record HashedFile (kind : Kind) (v : View) (path text : Bytes) (before : sinks.Meaning) (s : Settlement) (n : ℕ) (after : sinks.Meaning) : Type 0 where
  pub meaning : Meaning
  pub reads : Reads path text meaning
  pub given : Bytes → Bytes
  pub known : (r : Row) → Names meaning r → (k : ℕ) (h : Hashes) → NumberOf v r.0 k → HashedAt v k h → given r.0 ≡ h.hash.bytes
  pub hashes : FileHashes
  pub worked : FileWorked kind.step kind.start kind.capacity kind.answer path given meaning before hashes after
  pub kept : s.hashes ≡ Some (record { hash = hashes.hash; masked = hashes.masked })
  pub count : n ≡ hashes.count
  pub verdict : PathsJudged (D kind) path text reads.tree given meaning s.verdict

-- what a file with this fault is settled with
abbrev pub faulted : Fault → Settlement
faulted f = record { verdict = Err f; hashes = None }

-- what a file that reads is settled with, where these are its links and input rows
pub data ReadSettled (kind : Kind) (v : View) (l : Links) (inputs : List (Placed Input)) (path text : Bytes) (before : sinks.Meaning) (s : Settlement) (n : ℕ)
    (after : sinks.Meaning) : Type 0 where
  faulty : (f : Fault) → LinksAsked v.row l inputs (Some f) → s ≡ faulted f → n ≡ 0 → after ≡ before
      → ReadSettled kind v l inputs path text before s n after
  sure : LinksAsked v.row l inputs None → HashedFile kind v path text before s n after → ReadSettled kind v l inputs path text before s n after

-- of a file of a sound view that is taken it is what is decided
abbrev pub ReadDecided : Kind → View → Bytes → Bytes → sinks.Meaning → Settlement → ℕ → sinks.Meaning → Type 0
ReadDecided kind v path text before s n after = SoundView kind v → (k : ℕ) → TakenAt v k → path_at v k ≡ path
    → files v path ≡ Some text → Decides kind (files v) path s before n after
