-- What a checker stands for: the files of an image by their numbers, and the state of each; which files are ready.
-- Source: this project's own rule (docs/CALLS.md, "Calls").
use Rattle.std.specs.Prelude.{◌≡◌, ℕ, ◌<◌, ◌≤◌, Bool, true, Some, None, Option, ◌≢◌}
use Rattle.canonical.specs.Meanings.{Meaning}
use Rattle.hash_modulo.specs.Sets as sets
use Rattle.hash_modulo.specs.Sets.{Bytes, Files, Means, Row, Names}
use Rattle.image.specs.Layout.{file_path}
use Rattle.links.specs.Sets.{set_of}
use Rattle.verdict.specs.Verdicts.{Verdict}
use Rattle.checker.specs.declared.state.Hashes.{Hashes}
use Rattle.checker.specs.declared.state.Settlement.{Settlement}
use Rattle.checker.specs.declared.state.State.{State}
use Rattle.checker.specs.declared.state.State.TheVariants.{Pending, Taken, Settled}

-- whether a set is opened, the image and the number of its files, and the state of each file by its number, from 1
pub record View : Type 0 where
  pub opened : Bool
  pub image : Bytes
  pub count : ℕ
  pub row : ℕ → State

-- a set that was just opened: every file is pending
abbrev pub fresh : Bytes → ℕ → View
fresh img n = record { opened = true; image = img; count = n; row = λ k. Pending }

abbrev pub Open : View → Type 0
Open v = v.opened ≡ true

-- the set of files, and the path of the file k
abbrev pub files : View → Files
files v = set_of v.image v.count

abbrev pub path_at : View → ℕ → Bytes
path_at v k = file_path v.image k

-- there is a file k
abbrev pub Exists : View → ℕ → Type 0
Exists v k = (1 ≤ k) × (k ≤ v.count)

-- k is the number of the file at p
pub record NumberOf (v : View) (p : Bytes) (k : ℕ) : Type 0 where
  pub exists : Exists v k
  pub is : path_at v k ≡ p

pub record PendingAt (v : View) (k : ℕ) : Type 0 where
  pub exists : Exists v k
  pub is : v.row k ≡ Pending

pub record TakenAt (v : View) (k : ℕ) : Type 0 where
  pub exists : Exists v k
  pub is : v.row k ≡ Taken

-- the file k is settled with the hashes h
pub record HashedAt (v : View) (k : ℕ) (h : Hashes) : Type 0 where
  pub exists : Exists v k
  pub settlement : Settlement
  pub settled : v.row k ≡ Settled settlement
  pub is : settlement.hashes ≡ Some h

-- the file k is settled without a hash
pub record UnhashedAt (v : View) (k : ℕ) : Type 0 where
  pub exists : Exists v k
  pub settlement : Settlement
  pub settled : v.row k ≡ Settled settlement
  pub is : settlement.hashes ≡ None

-- a file fails a question up to 19: it does not read, or some input is absent or does not own what is wanted of it
abbrev pub Early : Files → Bytes → Type 0
Early set p = (m : Meaning) → Means set p m → sets.Ready set m → ⊥

-- a file is ready that fails a question up to 19, has an input settled without a hash, or has every input settled with a hash
pub data ReadyFile (v : View) (k : ℕ) : Type 0 where
  early : Early (files v) (path_at v k) → ReadyFile v k
  spoilt : (m : Meaning) → Means (files v) (path_at v k) m → (r : Row) → Names m r → (j : ℕ) → NumberOf v r.0 j → UnhashedAt v j → ReadyFile v k
  supplied : (m : Meaning) → Means (files v) (path_at v k) m
      → ((r : Row) → Names m r → (j : ℕ) × (h : Hashes) × NumberOf v r.0 j × HashedAt v j h) → ReadyFile v k

-- pending and ready
abbrev pub ReadyAt : View → ℕ → Type 0
ReadyAt v k = PendingAt v k × ReadyFile v k

-- the lowest number of which it holds, or none where it holds of none
abbrev pub Lowest : (ℕ → Type 0) → Option ℕ → Type 0
Lowest Holds None = (k : ℕ) → Holds k → ⊥
Lowest Holds (Some k) = Holds k × ((j : ℕ) → j < k → Holds j → ⊥)

-- w is v with the file k in the state s
pub record Changes (v : View) (k : ℕ) (s : State) (w : View) : Type 0 where
  pub opened : w.opened ≡ v.opened
  pub image : w.image ≡ v.image
  pub count : w.count ≡ v.count
  pub here : w.row k ≡ s
  pub others : (j : ℕ) → (j ≢ k) → w.row j ≡ v.row j

-- what is told of a file in a state: nothing before it is settled
abbrev pub told : State → Option Verdict
told Pending = None
told Taken = None
told (Settled s) = Some s.verdict
