use Rattle.std.proofs.lemmas.Result.{err_from_is_err_and}
use Rattle.std.proofs.Common.{ℕ, ◌≤◌, List, length, drop}
use Rattle.aterm.specs.declared.fault.Cause.{Cause}
use Rattle.aterm.specs.Grammar.{signs, Fields, field, Tree, string, list, writes}
use Rattle.aterm.specs.Reads.{Stops, Written, written_field}
use Rattle.aterm.specs.declared.file.Derivation.{Derivation}
use Rattle.aterm.specs.Files.{output, input, from_1, from_2, from_3, from_4, from_5, from_6, file_1, file_2, file_3, file_4, file_5, file_6}
use Rattle.aterm.proofs.Fields.{field_stops, later_stops, both}
use Rattle.aterm.proofs.Reading.{within_text}
use Rattle.aterm.proofs.file.DerivationPart.rest.Goals as goal

-- the fields fs of the text t stop at a fault, read from a place
abbrev Stopped : List ℕ → Fields → ℕ → ℕ → Cause → Type 0
Stopped t fs from place k = Stops (writes fs) (drop from (signs t)) from place k

-- a fault after the first fields is one of all of them: stops_n where n fields were read
module _ {t : List ℕ} {at : ℕ} (h : at ≤ length t) where
  module _ {H1 : Tree (list 16 output) → Type 0} {to_1 : ℕ} (outputs : Written (written_field (list 16 output) 44) H1 t at to_1) where
    stops_1 : {place : ℕ} {k : Cause} → Stopped t from_1 to_1 place k → Stopped t (field (list 16 output) from_1) at place k
    stops_1 st = later_stops (list 16 output) from_1 h outputs st

    module _ {H2 : Tree (list 64 input) → Type 0} {to_2 : ℕ} (inputs : Written (written_field (list 64 input) 44) H2 t to_1 to_2) where
      stops_2 : {place : ℕ} {k : Cause} → Stopped t from_2 to_2 place k → Stopped t (field (list 16 output) from_1) at place k
      stops_2 st = stops_1 (later_stops (list 64 input) from_2 outputs.inside inputs st)

      module _ {H3 : Tree (list 64 string) → Type 0} {to_3 : ℕ} (sources : Written (written_field (list 64 string) 44) H3 t to_2 to_3) where
        stops_3 : {place : ℕ} {k : Cause} → Stopped t from_3 to_3 place k → Stopped t (field (list 16 output) from_1) at place k
        stops_3 st = stops_2 (later_stops (list 64 string) from_3 inputs.inside sources st)

        module _ {H4 : Tree string → Type 0} {to_4 : ℕ} (system : Written (written_field string 44) H4 t to_3 to_4) where
          stops_4 : {place : ℕ} {k : Cause} → Stopped t from_4 to_4 place k → Stopped t (field (list 16 output) from_1) at place k
          stops_4 st = stops_3 (later_stops string from_4 sources.inside system st)

          module _ {H5 : Tree string → Type 0} {to_5 : ℕ} (builder : Written (written_field string 44) H5 t to_4 to_5) where
            stops_5 : {place : ℕ} {k : Cause} → Stopped t from_5 to_5 place k → Stopped t (field (list 16 output) from_1) at place k
            stops_5 st = stops_4 (later_stops string from_5 system.inside builder st)

            module _ {H6 : Tree (list 64 string) → Type 0} {to_6 : ℕ} (arguments : Written (written_field (list 64 string) 44) H6 t to_5 to_6) where
              stops_6 : {place : ℕ} {k : Cause} → Stopped t from_6 to_6 place k → Stopped t (field (list 16 output) from_1) at place k
              stops_6 st = stops_5 (later_stops (list 64 string) from_6 builder.inside arguments st)

pub returns-in_err-outputs : goal.returns-in_err-outputs
returns-in_err-outputs c = λ t e.
    let p = err_from_is_err_and c.from_residual.result c.from_residual.ensures.1 in
    let h = within_text _ t _ e c.args.reader.now.inside in
    let outputs1 = c.in_err-outputs.ensures t e in
    (outputs1.0, rw (p.1, p.2) (field_stops (list 16 output) from_1 outputs1.1))

pub returns-in_err-inputs : goal.returns-in_err-inputs
returns-in_err-inputs c = λ t e.
    let p = err_from_is_err_and c.from_residual-in_err-inputs.result c.from_residual-in_err-inputs.ensures.1 in
    let h = within_text _ t _ e c.args.reader.now.inside in
    let outputs1 = c.in_ok-outputs.ensures t e in
    let inputs1 = c.in_err-inputs.ensures t outputs1.0 in
    (inputs1.0, rw (p.1, p.2) (stops_1 h outputs1.1 (field_stops (list 64 input) from_2 inputs1.1)))

pub returns-in_err-sources : goal.returns-in_err-sources
returns-in_err-sources c = λ t e.
    let p = err_from_is_err_and c.from_residual-in_err-sources.result c.from_residual-in_err-sources.ensures.1 in
    let h = within_text _ t _ e c.args.reader.now.inside in
    let outputs1 = c.in_ok-outputs.ensures t e in
    let inputs1 = c.in_ok-inputs.ensures t outputs1.0 in
    let sources1 = c.in_err-sources.ensures t inputs1.0 in
    (sources1.0, rw (p.1, p.2) (stops_2 h outputs1.1 inputs1.1 (field_stops (list 64 string) from_3 sources1.1)))

pub returns-in_err-system : goal.returns-in_err-system
returns-in_err-system c = λ t e.
    let p = err_from_is_err_and c.from_residual-in_err-system.result c.from_residual-in_err-system.ensures.1 in
    let h = within_text _ t _ e c.args.reader.now.inside in
    let outputs1 = c.in_ok-outputs.ensures t e in
    let inputs1 = c.in_ok-inputs.ensures t outputs1.0 in
    let sources1 = c.in_ok-sources.ensures t inputs1.0 in
    let system1 = c.in_err-system.ensures t sources1.0 in
    (system1.0, rw (p.1, p.2) (stops_3 h outputs1.1 inputs1.1 sources1.1 (field_stops string from_4 system1.1)))

pub returns-in_err-builder : goal.returns-in_err-builder
returns-in_err-builder c = λ t e.
    let p = err_from_is_err_and c.from_residual-in_err-builder.result c.from_residual-in_err-builder.ensures.1 in
    let h = within_text _ t _ e c.args.reader.now.inside in
    let outputs1 = c.in_ok-outputs.ensures t e in
    let inputs1 = c.in_ok-inputs.ensures t outputs1.0 in
    let sources1 = c.in_ok-sources.ensures t inputs1.0 in
    let system1 = c.in_ok-system.ensures t sources1.0 in
    let builder1 = c.in_err-builder.ensures t system1.0 in
    (builder1.0, rw (p.1, p.2) (stops_4 h outputs1.1 inputs1.1 sources1.1 system1.1 (field_stops string from_5 builder1.1)))

pub returns-in_err-arguments : goal.returns-in_err-arguments
returns-in_err-arguments c = λ t e.
    let p = err_from_is_err_and c.from_residual-in_err-arguments.result c.from_residual-in_err-arguments.ensures.1 in
    let h = within_text _ t _ e c.args.reader.now.inside in
    let outputs1 = c.in_ok-outputs.ensures t e in
    let inputs1 = c.in_ok-inputs.ensures t outputs1.0 in
    let sources1 = c.in_ok-sources.ensures t inputs1.0 in
    let system1 = c.in_ok-system.ensures t sources1.0 in
    let builder1 = c.in_ok-builder.ensures t system1.0 in
    let arguments1 = c.in_err-arguments.ensures t builder1.0 in
    (arguments1.0, rw (p.1, p.2) (stops_5 h outputs1.1 inputs1.1 sources1.1 system1.1 builder1.1 (field_stops (list 64 string) from_6 arguments1.1)))

pub returns-in_err-environment : goal.returns-in_err-environment
returns-in_err-environment c = λ t e.
    let p = err_from_is_err_and c.from_residual-in_err-environment.result c.from_residual-in_err-environment.ensures.1 in
    let h = within_text _ t _ e c.args.reader.now.inside in
    let outputs1 = c.in_ok-outputs.ensures t e in
    let inputs1 = c.in_ok-inputs.ensures t outputs1.0 in
    let sources1 = c.in_ok-sources.ensures t inputs1.0 in
    let system1 = c.in_ok-system.ensures t sources1.0 in
    let builder1 = c.in_ok-builder.ensures t system1.0 in
    let arguments1 = c.in_ok-arguments.ensures t builder1.0 in
    let environment1 = c.in_err-environment.ensures t arguments1.0 in
    (environment1.0, rw (p.1, p.2) (stops_6 h outputs1.1 inputs1.1 sources1.1 system1.1 builder1.1 arguments1.1 environment1.1))

pub returns : goal.returns
returns c = λ t e.
    let v : Derivation = record { outputs = c.in_ok-outputs.outputs; inputs = c.in_ok-inputs.inputs; sources = c.in_ok-sources.sources; system = c.in_ok-system.system; builder = c.in_ok-builder.builder; arguments = c.in_ok-arguments.arguments; environment = c.in_ok-environment.environment } in
    let h = within_text _ t _ e c.args.reader.now.inside in
    let outputs1 = c.in_ok-outputs.ensures t e in
    let inputs1 = c.in_ok-inputs.ensures t outputs1.0 in
    let sources1 = c.in_ok-sources.ensures t inputs1.0 in
    let system1 = c.in_ok-system.ensures t sources1.0 in
    let builder1 = c.in_ok-builder.ensures t system1.0 in
    let arguments1 = c.in_ok-arguments.ensures t builder1.0 in
    let environment1 = c.in_ok-environment.ensures t arguments1.0 in
    (environment1.0, both (list 16 output) from_1 h outputs1.1 (file_1 t v) (both (list 64 input) from_2 outputs1.1.inside inputs1.1 (file_2 t v) (both (list 64 string) from_3 inputs1.1.inside sources1.1 (file_3 t v) (both string from_4 sources1.1.inside system1.1 (file_4 t v) (both string from_5 system1.1.inside builder1.1 (file_5 t v) (both (list 64 string) from_6 builder1.1.inside arguments1.1 (file_6 t v) environment1.1))))))
