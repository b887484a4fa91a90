-- The shape of a derivation, what a text reads as, and the one fault of a text that does not read.
-- Source: E. Dolstra, The Purely Functional Software Deployment Model (2006), section 5.4 (derivations in ATerm form), and the Nix manual, "Derivations".
-- The limits of the lists and the fault are this project's own rule (docs/CALLS.md).
use Rattle.std.specs.Prelude.{◌≡◌, ℕ, List, [], ◌∷◌, ◌++◌, map, Ok, Err, Result}
use Rattle.aterm.specs.declared.fault.Fault.{Fault}
use Rattle.aterm.specs.declared.file.Output.{Output}
use Rattle.aterm.specs.declared.file.Input.{Input}
use Rattle.aterm.specs.declared.file.Variable.{Variable}
use Rattle.aterm.specs.declared.file.Derivation.{Derivation}
use Rattle.aterm.specs.declared.part.Span.{Span}
use Rattle.aterm.specs.declared.rows.Placed.{Placed}
use Rattle.aterm.specs.Grammar.{Sign, byte, end, signs, Shape, string, row, list, Fields, last, field, Tree, Trees, Within, write}
use Rattle.aterm.specs.Tables.{rows_of}
use Rattle.aterm.specs.Reads.{Stops, Spans, Each, Last, Both}

-- (name,path,algorithm,hash)
abbrev pub output : Shape
output = row (field string (field string (field string (last string))))

-- (path,names)
abbrev pub input : Shape
input = row (field string (last (list 16 string)))

-- (name,value)
abbrev pub variable : Shape
variable = row (field string (last string))

-- outputs, input files, input sources, system, builder, arguments, environment
abbrev pub derivation : Shape
derivation = row (field (list 16 output) (field (list 64 input) (field (list 64 string) (field string (field string (field (list 64 string) (last (list 128 variable))))))))

-- `Derive(`
abbrev pub word : List ℕ
word = 68 ∷ 101 ∷ 114 ∷ 105 ∷ 118 ∷ 101 ∷ 40 ∷ []

-- a whole text, with its end
abbrev pub whole : Tree derivation → List Sign
whole x = map byte word ++ write derivation x ++ end ∷ []

abbrev pub span : List ℕ → Span → ℕ → Tree string → Type 0
span text v at cs = Spans text at v.start v.end cs

abbrev pub spans : List ℕ → List (Placed Span) → ℕ → List (Tree string) → Type 0
spans text vs at xs = Each string (λ p v. span text v p) at vs xs

-- what a row holds of the text from the place `at` on, where its first field begins
abbrev pub output_3 : List ℕ → Output → ℕ → Tree string → Type 0
output_3 text v = Last (span text v.hash)

abbrev pub output_2 : List ℕ → Output → ℕ → Tree string × Tree string → Type 0
output_2 text v = Both string (span text v.algorithm) (output_3 text v)

abbrev pub output_1 : List ℕ → Output → ℕ → Tree string × (Tree string × Tree string) → Type 0
output_1 text v = Both string (span text v.path) (output_2 text v)

abbrev pub in_output : List ℕ → ℕ → Output → Tree output → Type 0
in_output text at v = Both string (span text v.name) (output_1 text v) at

abbrev pub input_1 : List ℕ → Input → ℕ → List (Tree string) → Type 0
input_1 text v = Last (spans text (rows_of v.names))

abbrev pub in_input : List ℕ → ℕ → Input → Tree input → Type 0
in_input text at v = Both string (span text v.path) (input_1 text v) at

abbrev pub variable_1 : List ℕ → Variable → ℕ → Tree string → Type 0
variable_1 text v = Last (span text v.value)

abbrev pub in_variable : List ℕ → ℕ → Variable → Tree variable → Type 0
in_variable text at v = Both string (span text v.name) (variable_1 text v) at

abbrev pub outputs : List ℕ → List (Placed Output) → ℕ → List (Tree output) → Type 0
outputs text vs at xs = Each output (in_output text) at vs xs

abbrev pub inputs : List ℕ → List (Placed Input) → ℕ → List (Tree input) → Type 0
inputs text vs at xs = Each input (in_input text) at vs xs

abbrev pub variables : List ℕ → List (Placed Variable) → ℕ → List (Tree variable) → Type 0
variables text vs at xs = Each variable (in_variable text) at vs xs

abbrev pub from_6 : Fields
from_6 = last (list 128 variable)

abbrev pub from_5 : Fields
from_5 = field (list 64 string) from_6

abbrev pub from_4 : Fields
from_4 = field string from_5

abbrev pub from_3 : Fields
from_3 = field string from_4

abbrev pub from_2 : Fields
from_2 = field (list 64 string) from_3

abbrev pub from_1 : Fields
from_1 = field (list 64 input) from_2

abbrev pub file_6 : List ℕ → Derivation → ℕ → Trees from_6 → Type 0
file_6 text v = Last (variables text (rows_of v.environment))

abbrev pub file_5 : List ℕ → Derivation → ℕ → Trees from_5 → Type 0
file_5 text v = Both (list 64 string) (spans text (rows_of v.arguments)) (file_6 text v)

abbrev pub file_4 : List ℕ → Derivation → ℕ → Trees from_4 → Type 0
file_4 text v = Both string (span text v.builder) (file_5 text v)

abbrev pub file_3 : List ℕ → Derivation → ℕ → Trees from_3 → Type 0
file_3 text v = Both string (span text v.system) (file_4 text v)

abbrev pub file_2 : List ℕ → Derivation → ℕ → Trees from_2 → Type 0
file_2 text v = Both (list 64 string) (spans text (rows_of v.sources)) (file_3 text v)

abbrev pub file_1 : List ℕ → Derivation → ℕ → Trees from_1 → Type 0
file_1 text v = Both (list 64 input) (inputs text (rows_of v.inputs)) (file_2 text v)

abbrev pub in_derivation : List ℕ → ℕ → Derivation → Tree derivation → Type 0
in_derivation text at v = Both (list 16 output) (outputs text (rows_of v.outputs)) (file_1 text v) at

-- the fault of a text
abbrev pub IsFault : List ℕ → Fault → Type 0
IsFault text f = Stops whole (signs text) 0 f.place f.cause

pub record Reading (text : List ℕ) (d : Derivation) : Type 0 where
  pub tree : Tree derivation
  pub written : signs text ≡ whole tree
  pub only : (y : Tree derivation) → signs text ≡ whole y → y ≡ tree
  pub within : Within derivation tree
  pub held : in_derivation text 7 d tree

abbrev pub Judged : List ℕ → Result Derivation Fault → Type 0
Judged text (Ok d) = Reading text d × ((g : Fault) → IsFault text g → ⊥)
Judged text (Err f) = IsFault text f × ((g : Fault) → IsFault text g → g ≡ f)
