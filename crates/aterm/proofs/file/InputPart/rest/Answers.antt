use Rattle.std.proofs.lemmas.Result.{err_from_is_err_and}
use Rattle.aterm.specs.Grammar.{Fields, string, list, last}
use Rattle.aterm.specs.declared.file.Input.{Input}
use Rattle.aterm.specs.Files.{input_1}
use Rattle.aterm.proofs.Fields.{field_stops, later_stops, both}
use Rattle.aterm.proofs.Reading.{within_text}
use Rattle.aterm.proofs.file.InputPart.rest.Goals as goal

abbrev from_1 : Fields
from_1 = last (list 16 string)

pub returns-in_err-path : goal.returns-in_err-path
returns-in_err-path c = λ t e.
    let p = err_from_is_err_and c.from_residual.result c.from_residual.ensures.1 in
    let h = within_text _ t _ e c.args.reader.now.inside in
    let path1 = c.in_err-path.ensures t e in
    (path1.0, rw (p.1, p.2) (field_stops string from_1 path1.1))

pub returns-in_err-names : goal.returns-in_err-names
returns-in_err-names c = λ t e.
    let p = err_from_is_err_and c.from_residual-in_err-names.result c.from_residual-in_err-names.ensures.1 in
    let h = within_text _ t _ e c.args.reader.now.inside in
    let path1 = c.in_ok-path.ensures t e in
    let names1 = c.in_err-names.ensures t path1.0 in
    (names1.0, rw (p.1, p.2) (later_stops string from_1 h path1.1 names1.1))

pub returns : goal.returns
returns c = λ t e.
    let v : Input = record { path = c.in_ok-path.path; names = c.in_ok-names.names } in
    let h = within_text _ t _ e c.args.reader.now.inside in
    let path1 = c.in_ok-path.ensures t e in
    let names1 = c.in_ok-names.ensures t path1.0 in
    (names1.0, both string from_1 h path1.1 (input_1 t v) names1.1)
