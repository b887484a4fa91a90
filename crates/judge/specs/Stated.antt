-- Output rows and environment rows held against right paths that are told by their digits.
-- Source: this project's own rule (docs/CALLS.md, "Verdict").
use Rattle.std.specs.Prelude.{◌≡◌, ℕ, ◌<◌, List, [], length, Some, None, Option, ◌≢◌, slice_index_or}
use Rattle.aterm.specs.Files.{output, variable, in_output, in_variable}
use Rattle.aterm.specs.Grammar.{Tree, meaning}
use Rattle.aterm.specs.Reads.{Each}
use Rattle.aterm.specs.declared.file.Output.{Output}
use Rattle.aterm.specs.declared.file.Variable.{Variable}
use Rattle.aterm.specs.declared.rows.Placed.{Placed}
use Rattle.canonical.specs.Kinds.{Value}
use Rattle.canonical.specs.Meanings.{an_output}
use Rattle.canonical.specs.Order.{Member, Different}
use Rattle.derivation.specs.Asked.{field_number, FirstNo, First, rows_at}
use Rattle.derivation.specs.Questions.{output_name}
use Rattle.derivation.specs.declared.field.Field.TheVariants.{Outputs, Environment}
use Rattle.derivation.specs.declared.spot.Spot.{Spot}
use Rattle.hash_modulo.specs.Sets.{Bytes}
use Rattle.hash_modulo.specs.Strings.{no_output}
use Rattle.right_paths.specs.Views.{file_by}
use Rattle.right_paths.specs.Worked.{full_store_path, no_digits}
use Rattle.right_paths.specs.declared.hashes.Digits.{Digits}
use Rattle.verdict.specs.Judged.{Behind}
use Rattle.judge.specs.declared.right_outputs.RightOutputs.{RightOutputs}

-- where the environment has a name, among rows of which the first begins at a place
pub data StandsAt (at : ℕ) (vs : List (Tree variable)) (n : Bytes) : Spot → Type 0 where
  here : {w : Spot} (e : Behind (Tree variable)) → Member (w, e) (rows_at variable Environment at [] vs) → meaning e.1.0 ≡ n → StandsAt at vs n w
  nowhere : {w : Spot} → ((v : Tree variable) → Member v vs → meaning v.0 ≢ n) → w ≡ record { field = field_number Environment; row = 0; place = 0 } → StandsAt at vs n w

-- of the file at a path with these outputs, rising, and the digits beside them
module _ (path : Bytes) (os : List (Value an_output)) (ds : List Digits) where
  -- the output k has the name n, and q is the path with its digits
  abbrev pub RightAt : Bytes → Bytes → ℕ → Type 0
  RightAt n q k = ((slice_index_or os k no_output).0 ≡ n) × (q ≡ full_store_path (slice_index_or ds k no_digits).bytes (output_name path n))

  pub record RightFor (n q : Bytes) : Type 0 where
    pub index : ℕ
    pub within : index < length os
    pub right : RightAt n q index

  -- some of these rows has the name n with the right path
  abbrev pub VariableRight : List (Tree variable) → Bytes → Type 0
  VariableRight vs n = (v : Tree variable) × Member v vs × (meaning v.0 ≡ n) × RightFor n (meaning v.1)

  abbrev pub VariableTold : ℕ → List (Tree variable) → Bytes → Option Spot → Type 0
  VariableTold at vs n None = VariableRight vs n
  VariableTold at vs n (Some w) = (VariableRight vs n → ⊥) × StandsAt at vs n w

  abbrev pub VariablesTold : ℕ → List (Tree variable) → List (Spot × Behind (Tree output)) → Option Spot → Type 0
  VariablesTold at vs rows None = First (λ e. VariableRight vs (meaning e.1.0)) rows None
  VariablesTold at vs rows (Some w) = (o : Spot) × (f : FirstNo (λ e. VariableRight vs (meaning e.1.0)) rows o) × StandsAt at vs (meaning f.row.1.0) w

-- the outputs that are told, rising
abbrev pub told_outputs : RightOutputs → List (Value an_output)
told_outputs r = (file_by r.of).0

-- q is the path told for an output with the name n
abbrev pub Told : RightOutputs → Bytes → Bytes → Type 0
Told r n q = RightFor r.of.path.now (told_outputs r) r.digits.now n q

-- the answer says where the environment has the name n with another path, or not at all
abbrev pub VariableAsked : RightOutputs → List (Placed Variable) → Bytes → Option Spot → Type 0
VariableAsked r us n answer =
    (at : ℕ) (vs : List (Tree variable)) → Each variable (in_variable r.of.text.now) at us vs → Different (λ v. meaning v.0) vs
    → VariableTold r.of.path.now (told_outputs r) r.digits.now at vs n answer

-- the same of the first output row for which it is so
abbrev pub VariablesAsked : RightOutputs → List (Placed Variable) → List (Placed Output) → Option Spot → Type 0
VariablesAsked r us rows answer =
    (at : ℕ) (vs : List (Tree variable)) → Each variable (in_variable r.of.text.now) at us vs → Different (λ v. meaning v.0) vs
    → (from : ℕ) (xs : List (Tree output)) → Each output (in_output r.of.text.now) from rows xs
    → VariablesTold r.of.path.now (told_outputs r) r.digits.now at vs (rows_at output Outputs from [] xs) answer
