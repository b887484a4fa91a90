-- What each call answers, and what it leaves of the checker, the sink and the buffer: one relation a call, every refusal included.
-- Source: this project's own rule (docs/CALLS.md, "Calls").
use Rattle.std.specs.Prelude.{◌≡◌, ℕ, zero, suc, ◌+◌, ◌<◌, ◌≤◌, ◌⊎◌, List, [], ◌∷◌, ◌++◌, length, drop, Some, None, Ok, Err, Option, Result, slice_index_or}
use Rattle.canonical.specs.Meanings.{Meaning, canonical}
use Rattle.derivation.specs.declared.told.Told.{Told}
use Rattle.file_meaning.specs.Reads.{Reads}
use Rattle.hash_modulo.specs.Hashes.{Digest, Fixed, Hashed}
use Rattle.hash_modulo.specs.Paths.{References, MaskedString}
use Rattle.hash_modulo.specs.Sets.{Bytes, Files, Means, Readable, Rests, Hashable}
use Rattle.hash_modulo.specs.Strings.{own_strings, fixed_strings, output_string, all_lengths, InputsHashed, Digested, no_output, RightPath}
use Rattle.hash_rows.specs.declared.hash.Hash.{Hash}
use Rattle.report.specs.Texts.{line_text, tail_text}
use Rattle.right_paths.specs.Worked.{HoldsLast}
use Rattle.sink.specs.Digest.{digest, AllWide}
use Rattle.sink.specs.Write.{Step}
use Rattle.sink.specs.Write as sinks
use Rattle.verdict.specs.Judged.{Judged}
use Rattle.verdict.specs.Verdicts.{Verdict, verdict_details}
use Rattle.checker.specs.Refusals.{Ask, Done}
use Rattle.checker.specs.Views.{View, Open, files, path_at, Exists, PendingAt, TakenAt, HashedAt, ReadyFile, Changes, told}
use Rattle.checker.specs.declared.refused.CallRefusal.{CallRefusal}
use Rattle.checker.specs.declared.refused.CallRefusal.TheVariants.{NotOpened, VisitOut, NonePending, NotTaken, NoFile, NoHash, NoOutput, NotRead, Short}
use Rattle.checker.specs.declared.state.Hashes.{Hashes}
use Rattle.checker.specs.declared.state.Settlement.{Settlement}
use Rattle.checker.specs.declared.state.State.{State}
use Rattle.checker.specs.declared.state.State.TheVariants.{Pending, Taken, Settled}

-- a kind of digest sink: its step, start, capacity and answer, which has 32 bytes whatever the state
pub record Kind : Type 0 where
  pub step : Step
  pub start : List ℕ
  pub capacity : ℕ
  pub answer : List ℕ → List ℕ
  pub wide : AllWide answer

abbrev pub D : Kind → Digest
D kind = digest kind.step kind.start kind.answer

-- the sink has digested the strings, and holds the last of them
abbrev pub Holds : Kind → sinks.Meaning → List Bytes → sinks.Meaning → Type 0
Holds kind before ss after = HoldsLast kind.step kind.start kind.capacity kind.answer before ss after

-- bytes are written to a buffer from its start, and later bytes stay
pub record Put (bs out : List ℕ) (n : ℕ) (after : List ℕ) : Type 0 where
  pub fits : length bs ≤ length out
  pub count : n ≡ length bs
  pub is : after ≡ bs ++ drop n out

-- bytes are put, or the buffer is too short for them and what it was
abbrev pub Written : List ℕ → List ℕ → Result ℕ CallRefusal → List ℕ → Type 0
Written bs out (Ok n) after = Put bs out n after
Written bs out (Err e) after = Ask (length bs ≤ length out) Short Done e × (after ≡ out)

-- ---- take

abbrev pub NoneTaken : View → Type 0
NoneTaken v = (k : ℕ) → TakenAt v k → ⊥

abbrev pub SomeTaken : View → Type 0
SomeTaken v = (k : ℕ) × TakenAt v k

abbrev pub SomePending : View → Type 0
SomePending v = (k : ℕ) × PendingAt v k

-- the file that is handed out: the lowest pending one that is ready, or, if none is, the lowest pending one
pub data Chosen (v : View) (k : ℕ) : Type 0 where
  first_ready : PendingAt v k → ReadyFile v k → ((j : ℕ) → j < k → PendingAt v j → ReadyFile v j → ⊥) → Chosen v k
  first_pending : PendingAt v k → ((j : ℕ) → PendingAt v j → ReadyFile v j → ⊥) → ((j : ℕ) → j < k → PendingAt v j → ⊥) → Chosen v k

-- what is chosen, or none where none is pending
abbrev pub Choice : View → Option ℕ → Type 0
Choice v None = SomePending v → ⊥
Choice v (Some k) = Chosen v k

abbrev pub TakeRefused : View → CallRefusal → Type 0
TakeRefused v = Ask (Open v) NotOpened (Ask (NoneTaken v) VisitOut (Ask (SomePending v) NonePending Done))

abbrev pub Takes : View → Result ℕ CallRefusal → View → Type 0
Takes v (Ok k) w = Open v × NoneTaken v × Chosen v k × Changes v k Taken w
Takes v (Err e) w = TakeRefused v e × (w ≡ v)

-- ---- settle and put back

abbrev pub VisitRefused : View → ℕ → CallRefusal → Type 0
VisitRefused v k = Ask (Open v) NotOpened (Ask (TakenAt v k) NotTaken Done)

-- x is the masked hash of the file at p, or none where that is fixed
pub record MaskedHash (set : Files) (d : Digest) (p : Bytes) (x : Option Hash) : Type 0 where
  pub meaning : Meaning
  pub means : Means set p meaning
  pub hashes : Bytes → Bytes
  pub inputs : InputsHashed set d meaning hashes
  pub masked : (Fixed meaning → ⊥) → (t : Bytes) × MaskedString hashes meaning t × (h : Hash) × (x ≡ Some h) × (h.bytes ≡ d t)
  pub none : Fixed meaning → x ≡ None

-- the hashes that a settle keeps, how many bytes it digests, and what it leaves of the sink
pub data Outcome (kind : Kind) (set : Files) (p : Bytes) (before : sinks.Meaning) (n : ℕ) (after : sinks.Meaning) : Option Hashes → Type 0 where
  with_hash : {o : Option Hashes} (h : Hashes) (ss : List Bytes) → o ≡ Some h → Hashed set (D kind) p h.hash.bytes → MaskedHash set (D kind) p h.masked
      → Digested set (D kind) p ss → n ≡ all_lengths ss → Holds kind before ss after → Outcome kind set p before n after o
  without : {o : Option Hashes} → o ≡ None → (Hashable set p → ⊥) → n ≡ 0 → after ≡ before → Outcome kind set p before n after o

-- what settling the file at p decides
pub record Decides (kind : Kind) (set : Files) (p : Bytes) (s : Settlement) (before : sinks.Meaning) (n : ℕ) (after : sinks.Meaning) : Type 0 where
  pub verdict : Judged set (D kind) p s.verdict
  pub outcome : Outcome kind set p before n after s.hashes

abbrev pub Settles : Kind → View → ℕ → sinks.Meaning → Result ℕ CallRefusal → View → sinks.Meaning → Type 0
Settles kind v k before (Ok n) w after = (s : Settlement) × Open v × TakenAt v k × Changes v k (Settled s) w × Decides kind (files v) (path_at v k) s before n after
Settles kind v k before (Err e) w after = VisitRefused v k e × (w ≡ v) × (after ≡ before)

-- what a settle does whatever was settled before: a file that was taken is settled, and no other changes
abbrev pub SomeSettled : View → ℕ → View → Type 0
SomeSettled v k w = (s : Settlement) × Open v × TakenAt v k × Changes v k (Settled s) w

abbrev pub PutsBack : {T : Type 0} → View → ℕ → Result T CallRefusal → View → Type 0
PutsBack v k (Ok _) w = Open v × TakenAt v k × Changes v k Pending w
PutsBack v k (Err e) w = VisitRefused v k e × (w ≡ v)

-- ---- verdict, line, tail

abbrev pub FileRefused : View → ℕ → CallRefusal → Type 0
FileRefused v k = Ask (Open v) NotOpened (Ask (Exists v k) NoFile Done)

abbrev pub Tells : View → ℕ → Result (Option Verdict) CallRefusal → Type 0
Tells v k (Ok o) = Open v × Exists v k × (o ≡ told (v.row k))
Tells v k (Err e) = FileRefused v k e

-- a verdict as it is told in a line
abbrev pub shown : Option Verdict → Option Told
shown None = None
shown (Some w) = Some (verdict_details w)

abbrev pub file_line : View → ℕ → List ℕ
file_line v k = line_text k (shown (told (v.row k)))

abbrev pub Lines : View → ℕ → List ℕ → Result ℕ CallRefusal → List ℕ → Type 0
Lines v k out (Ok n) after = Open v × Exists v k × Put (file_line v k) out n after
Lines v k out (Err e) after = Ask (Open v) NotOpened (Ask (Exists v k) NoFile (Ask (length (file_line v k) ≤ length out) Short Done)) e × (after ≡ out)

-- 1 for a file that is accepted, 0 for any other
abbrev pub one_accepted : State → ℕ
one_accepted Pending = 0
one_accepted Taken = 0
one_accepted (Settled s) = elim s.verdict [ Ok u ↦ 1 | Err f ↦ 0 ]

-- how many of the first n files are accepted
abbrev pub accepted : (ℕ → State) → ℕ → ℕ
accepted row zero = 0
accepted row (suc n) = accepted row n + one_accepted (row (suc n))

abbrev pub summary : View → List ℕ
summary v = tail_text v.count (accepted v.row v.count)

abbrev pub Tails : View → List ℕ → Result ℕ CallRefusal → List ℕ → Type 0
Tails v out (Ok n) after = Open v × Put (summary v) out n after
Tails v out (Err e) after = Ask (Open v) NotOpened (Ask (length (summary v) ≤ length out) Short Done) e × (after ≡ out)

-- ---- rewrite

abbrev pub Rewritable : View → ℕ → ℕ → Type 0
Rewritable v k room = (m : Meaning) → Means (files v) (path_at v k) m → length (canonical m) ≤ room

abbrev pub Rewrites : View → ℕ → List ℕ → Result ℕ CallRefusal → List ℕ → Type 0
Rewrites v k out (Ok n) after = (m : Meaning) × Open v × Exists v k × Means (files v) (path_at v k) m × Put (canonical m) out n after
Rewrites v k out (Err e) after =
    Ask (Open v) NotOpened (Ask (Exists v k) NoFile (Ask (Readable (files v) (path_at v k)) NotRead (Ask (Rewritable v k (length out)) Short Done))) e × (after ≡ out)

-- the same of one file by its path and text, whatever set has it
abbrev pub ReadsTo : Bytes → Bytes → Type 0
ReadsTo path text = (m : Meaning) × Reads path text m

abbrev pub FitsAll : Bytes → Bytes → ℕ → Type 0
FitsAll path text room = (m : Meaning) → Reads path text m → length (canonical m) ≤ room

abbrev pub FileRewritten : Bytes → Bytes → List ℕ → Result ℕ CallRefusal → List ℕ → Type 0
FileRewritten path text out (Ok n) after = (m : Meaning) × Reads path text m × Put (canonical m) out n after
FileRewritten path text out (Err e) after = Ask (ReadsTo path text) NotRead (Ask (FitsAll path text (length out)) Short Done) e × (after ≡ out)

-- ---- path

-- the strings that are digested for right path j alone
pub data PathStrings (set : Files) (d : Digest) (p : Bytes) : ℕ → List Bytes → Type 0 where
  own : {ss : List Bytes} (m : Meaning) → Means set p m → (rs : List Bytes) → References m rs → ss ≡ own_strings d p m rs → PathStrings set d p zero ss
  fixed : {i : ℕ} {ss : List Bytes} (m : Meaning) → Means set p m → (f : Fixed m) → ss ≡ fixed_strings d p f.only → PathStrings set d p (suc i) ss
  masked : {i : ℕ} {ss : List Bytes} (m : Meaning) → Means set p m → (Fixed m → ⊥) → (g : Bytes → Bytes) → InputsHashed set d m g
      → (t : Bytes) → MaskedString g m t → ss ≡ t ∷ output_string d p t (slice_index_or m.0 i no_output) ∷ [] → PathStrings set d p (suc i) ss

abbrev pub HasHash : View → ℕ → Type 0
HasHash v k = (h : Hashes) × HashedAt v k h

-- there is an output j; 0 is the file itself
abbrev pub HasOutput : View → ℕ → ℕ → Type 0
HasOutput v k j = (m : Meaning) × Means (files v) (path_at v k) m × (j ≤ length m.0)

abbrev pub PathFits : Kind → View → ℕ → ℕ → ℕ → Type 0
PathFits kind v k j room = (q : Bytes) → RightPath (files v) (D kind) (path_at v k) j q → length q ≤ room

pub record Locates (kind : Kind) (v : View) (k j : ℕ) (out : List ℕ) (before : sinks.Meaning) (n : ℕ) (after : List ℕ) (sink : sinks.Meaning) : Type 0 where
  pub right : Bytes
  pub is : RightPath (files v) (D kind) (path_at v k) j right
  pub put : Put right out n after
  pub strings : List Bytes
  pub needed : PathStrings (files v) (D kind) (path_at v k) j strings
  pub holds : Holds kind before strings sink

abbrev pub Paths : Kind → View → ℕ → ℕ → List ℕ → sinks.Meaning → Result ℕ CallRefusal → List ℕ → sinks.Meaning → Type 0
Paths kind v k j out before (Ok n) after sink = Open v × Exists v k × HasHash v k × HasOutput v k j × Locates kind v k j out before n after sink
Paths kind v k j out before (Err e) after sink =
    Ask (Open v) NotOpened (Ask (Exists v k) NoFile (Ask (HasHash v k) NoHash (Ask (HasOutput v k j) NoOutput (Ask (PathFits kind v k j (length out)) Short Done)))) e
    × (after ≡ out) × (sink ≡ before)

-- ---- circle

-- c is a file that rests on itself, or 0 where there is none
abbrev pub OnCycle : View → ℕ → Type 0
OnCycle v c = ((c ≡ 0) × ((p : Bytes) → Rests (files v) p p → ⊥)) ⊎ (Exists v c × Rests (files v) (path_at v c) (path_at v c))

abbrev pub Circles : View → Result ℕ CallRefusal → Type 0
Circles v (Ok c) = Open v × OnCycle v c
Circles v (Err e) = Ask (Open v) NotOpened Done e
