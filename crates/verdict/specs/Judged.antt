-- The verdict of a file of a set, as a relation that puts the questions in their order.
-- Source: this project's own rule (docs/CALLS.md, "Verdict"), over the hashes and right paths of E. Dolstra,
-- The Purely Functional Software Deployment Model (2006), section 5.5.
use Rattle.std.specs.Prelude.{◌≡◌, ℕ, List, map, Some, None, ◌≢◌, Ok, Err}
use Rattle.aterm.specs.Files.{output, input, variable, derivation}
use Rattle.aterm.specs.Grammar.{Tree, meaning}
use Rattle.canonical.specs.Differences.{DifferAt}
use Rattle.canonical.specs.Kinds.{Value}
use Rattle.canonical.specs.Meanings.{an_output, Meaning, canonical}
use Rattle.canonical.specs.Order.{Member}
use Rattle.derivation.specs.Asked.{field_number, FirstNo, First}
use Rattle.derivation.specs.Judgement.{IsFileFault}
use Rattle.derivation.specs.Questions.{output_rows, input_rows, variable_rows}
use Rattle.derivation.specs.declared.fault.FileFault.{FileFault}
use Rattle.derivation.specs.declared.field.Field.TheVariants.{Environment}
use Rattle.derivation.specs.declared.spot.Spot.{Spot}
use Rattle.hash_modulo.specs.Hashes.{Digest}
use Rattle.hash_modulo.specs.Paths.{OwnPath, OutputPath}
use Rattle.hash_modulo.specs.Sets.{Bytes, Files, Present, Means, Row, Owned, Hashable}
use Rattle.hash_modulo.specs.Strings.{InputsHashed}
use Rattle.verdict.specs.declared.fault.Fault.TheVariants.{Reading, Absent, Unowned, Unhashed, WrongPath, WrongOutput, WrongVariable, NotCanonical}
use Rattle.verdict.specs.Verdicts.{Verdict}

-- a row of a list, with the rows before it
abbrev pub Behind : Type 0 → Type 0
Behind X = List X × X

-- what an input row says: the path of a file, and the names of outputs in the order of the text
abbrev pub row_of : Tree input → Row
row_of t = (meaning t.0, map meaning t.1)

-- what an output row says
abbrev pub output_of : Tree output → Value an_output
output_of t = (meaning t.0, (meaning t.1.0, (meaning t.1.1.0, meaning t.1.1.1)))

-- 18: the file that an input row names is in the set
abbrev pub there : Files → Behind (Tree input) → Type 0
there set e = Present set (meaning e.1.0)

-- 19: it owns the outputs named, if it reads
abbrev pub owning : Files → Behind (Tree input) → Type 0
owning set e = Owned set (row_of e.1)

-- 20: w is the row that is told: one whose file has no hash. Which of them is chosen is said here and nowhere else.
pub record UnhashedRow (set : Files) (x : Tree derivation) (w : Spot) : Type 0 where
  pub row : Behind (Tree input)
  pub stands : Member (w, row) (input_rows x)
  pub without : Hashable set (meaning row.1.0) → ⊥

-- of a file at p that means m, where g has the hashes of its inputs
module _ (d : Digest) (p : Bytes) (g : Bytes → Bytes) (m : Meaning) where
  -- 22: the path that an output row states is the right one
  abbrev pub right_output : Behind (Tree output) → Type 0
  right_output e = OutputPath d p g m (output_of e.1) (meaning e.1.1.0)

  -- 23: the environment has an output's name with the right path
  abbrev pub in_environment : Tree derivation → Behind (Tree output) → Type 0
  in_environment x e = (v : Tree variable) × Member v x.1.1.1.1.1.1 × (meaning v.0 ≡ meaning e.1.0) × OutputPath d p g m (output_of e.1) (meaning v.1)

-- where the environment has a name: at its row, or nowhere, which is told as row 0
pub data VariableAt (x : Tree derivation) (n : Bytes) : Spot → Type 0 where
  at : {w : Spot} (e : Behind (Tree variable)) → Member (w, e) (variable_rows x) → meaning e.1.0 ≡ n → VariableAt x n w
  nowhere : {w : Spot} → ((v : Tree variable) → Member v x.1.1.1.1.1.1 → meaning v.0 ≢ n)
      → w ≡ record { field = field_number Environment; row = 0; place = 0 } → VariableAt x n w

-- questions 21 to 24 to the file at p with the text and the tree x that means m, where g has the hashes of its inputs
pub data PathsJudged (d : Digest) (p text : Bytes) (x : Tree derivation) (g : Bytes → Bytes) (m : Meaning) : Verdict → Type 0 where
  wrong_path : {v : Verdict} → (OwnPath d p m p → ⊥) → v ≡ Err WrongPath → PathsJudged d p text x g m v
  wrong_output : {v : Verdict} → OwnPath d p m p → (w : Spot) → FirstNo (right_output d p g m) (output_rows x) w
      → v ≡ Err (WrongOutput w) → PathsJudged d p text x g m v
  wrong_variable : {v : Verdict} → OwnPath d p m p → First (right_output d p g m) (output_rows x) None
      → (o : Spot) (first : FirstNo (in_environment d p g m x) (output_rows x) o) (w : Spot) → VariableAt x (meaning first.row.1.0) w
      → v ≡ Err (WrongVariable w) → PathsJudged d p text x g m v
  not_canonical : {v : Verdict} → OwnPath d p m p → First (right_output d p g m) (output_rows x) None → First (in_environment d p g m x) (output_rows x) None
      → (place : ℕ) → DifferAt text (canonical m) place → v ≡ Err (NotCanonical place) → PathsJudged d p text x g m v
  right : {v : Verdict} → OwnPath d p m p → First (right_output d p g m) (output_rows x) None → First (in_environment d p g m x) (output_rows x) None
      → text ≡ canonical m → v ≡ Ok tt → PathsJudged d p text x g m v

-- the verdict of the file at p
pub data Judged (set : Files) (d : Digest) (p : Bytes) : Verdict → Type 0 where
  unread : {v : Verdict} (text : Bytes) → set p ≡ Some text → (f : FileFault) → IsFileFault p text f → v ≡ Err (Reading f) → Judged set d p v
  absent : {v : Verdict} (m : Meaning) (f : Means set p m) (w : Spot) → FirstNo (there set) (input_rows f.reads.tree) w
      → v ≡ Err (Absent w) → Judged set d p v
  unowned : {v : Verdict} (m : Meaning) (f : Means set p m) → First (there set) (input_rows f.reads.tree) None
      → (w : Spot) → FirstNo (owning set) (input_rows f.reads.tree) w → v ≡ Err (Unowned w) → Judged set d p v
  unhashed : {v : Verdict} (m : Meaning) (f : Means set p m) → First (there set) (input_rows f.reads.tree) None
      → First (owning set) (input_rows f.reads.tree) None → (w : Spot) → UnhashedRow set f.reads.tree w
      → v ≡ Err (Unhashed w) → Judged set d p v
  hashed : {v : Verdict} (m : Meaning) (f : Means set p m) → First (there set) (input_rows f.reads.tree) None
      → First (owning set) (input_rows f.reads.tree) None → (g : Bytes → Bytes) → InputsHashed set d m g
      → PathsJudged d p f.text f.reads.tree g m v → Judged set d p v
