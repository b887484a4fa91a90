-- What the spans of a derivation mean, with its rows in the order in which it has them.
-- Source: E. Dolstra, The Purely Functional Software Deployment Model (2006), section 5.4; the Nix manual, "Derivations".
use Rattle.std.specs.Prelude.{ℕ, List, map}
use Rattle.aterm.specs.declared.part.Span.{Span}
use Rattle.aterm.specs.declared.rows.Placed.{Placed}
use Rattle.aterm.specs.declared.file.Output.{Output}
use Rattle.aterm.specs.declared.file.Input.{Input}
use Rattle.aterm.specs.declared.file.Variable.{Variable}
use Rattle.aterm.specs.declared.file.Derivation.{Derivation}
use Rattle.aterm.specs.Tables.{rows_of}
use Rattle.canonical.specs.Decode.{said}
use Rattle.canonical.specs.Kinds.{Kind, rising, Value}
use Rattle.canonical.specs.Meanings.{an_output, an_input, a_variable, a_file, a_derivation}

abbrev pub said_in : List ℕ → Span → List ℕ
said_in t v = said t v.start v.«end»

-- rows, whatever their places
abbrev pub values : {X Y : Type 0} → (X → Y) → List (Placed X) → List Y
values f vs = map (λ v. f v.value) vs

abbrev pub output_value : List ℕ → Output → Value an_output
output_value t v = (said_in t v.name, (said_in t v.path, (said_in t v.algorithm, said_in t v.hash)))

abbrev pub input_value : List ℕ → Input → Value an_input
input_value t v = (said_in t v.path, values (said_in t) (rows_of v.names))

abbrev pub variable_value : List ℕ → Variable → Value a_variable
variable_value t v = (said_in t v.name, said_in t v.value)

-- a derivation with other outputs, inputs and environment in place of its own
abbrev pub file_value : (o i e : Kind) → List ℕ → Value o → Value i → Derivation → Value e → Value (a_file o i e)
file_value o i e t outputs inputs v environment = (
  outputs,
  (
    inputs,
    (
      values (said_in t) (rows_of v.sources),
      (
        said_in t v.system,
        (said_in t v.builder, (values (said_in t) (rows_of v.arguments), environment)),
      ),
    ),
  ),
)

abbrev pub derivation_value : List ℕ → Derivation → Value a_derivation
derivation_value t v =
    file_value (rising 16 an_output) (rising 64 an_input) (rising 128 a_variable) t
    (values (output_value t) (rows_of v.outputs))
    (values (input_value t) (rows_of v.inputs))
    v
    (values (variable_value t) (rows_of v.environment))
