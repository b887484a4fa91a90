-- The text that is written is the masked one: its outputs and its environment are those of the two masks.
use Rattle.std.proofs.Common.{◌≡◌, ℕ, List, map, ap, ◌∙◌}
use Rattle.aterm.specs.Tables.{rows_of}
use Rattle.aterm.specs.declared.file.Derivation.{Derivation}
use Rattle.aterm.specs.declared.file.Output.{Output}
use Rattle.aterm.specs.declared.rows.Placed.{Placed}
use Rattle.canonical.specs.Files.{values, output_value, variable_value, file_value, derivation_value}
use Rattle.canonical.specs.Kinds.{Value, rising}
use Rattle.canonical.specs.Meanings.{an_output, an_input, a_variable, a_derivation, derive, canonical}
use Rattle.hash_modulo.specs.Hashes.{with_inputs}
use Rattle.hash_modulo.specs.Paths.{mask_output, mask_variable, masked}
use Rattle.hash_modulo.specs.Sets.{Row}
use Rattle.sink.proofs.Writing.{as_text}
use Rattle.right_paths.specs.Inputs.{hash_input_value}
use Rattle.right_paths.proofs.texts.HashTexttrueToSink.write_to.Goals as goal

-- the text of a file with these outputs, inputs and environment
abbrev told : List ℕ → Derivation → List Row → List (Value an_output) → List (Value a_variable) → List ℕ
told t v rows os es = derive a_derivation (file_value (rising 16 an_output) (rising 64 an_input) (rising 128 a_variable) t os rows v es)

masked_text : (t : List ℕ) (v : Derivation) (rows : List Row) (os : List (Value an_output)) (es : List (Value a_variable)) (outputs : List (Placed Output))
    → outputs ≡ rows_of v.outputs
    → os ≡ map mask_output (values (output_value t) (rows_of v.outputs))
    → es ≡ map (mask_variable (values (output_value t) outputs)) (values (variable_value t) (rows_of v.environment))
    → told t v rows os es ≡ canonical (with_inputs (masked (derivation_value t v)) rows)
masked_text t v rows os es outputs whole p q =
    ap (λ (x : List (Value an_output)). told t v rows x es) p
    ∙ ap (told t v rows (map mask_output (values (output_value t) (rows_of v.outputs))))
    (q ∙ ap (λ (x : List (Placed Output)). map (mask_variable (values (output_value t) x)) (values (variable_value t) (rows_of v.environment))) whole)

pub returns : goal.returns
returns g c =
    let s = c.args.self.now in
    let t = s.of.text.now in
    as_text
    (masked_text t s.of.file.now (values (hash_input_value t) (rows_of s.inputs.now)) _ _ c.as_slice.result.now
    c.as_slice.ensures (c.mask_outputs-outputs.ensures t) c.mask_environment-environment.ensures)
    c.write_fields.ensures
