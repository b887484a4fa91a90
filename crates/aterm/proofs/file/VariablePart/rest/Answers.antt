use Rattle.std.proofs.lemmas.Result.{err_from_is_err_and}
use Rattle.aterm.specs.Grammar.{Fields, string, last}
use Rattle.aterm.specs.declared.file.Variable.{Variable}
use Rattle.aterm.specs.Files.{variable_1}
use Rattle.aterm.proofs.Fields.{field_stops, later_stops, both}
use Rattle.aterm.proofs.Reading.{within_text}
use Rattle.aterm.proofs.file.VariablePart.rest.Goals as goal

abbrev from_1 : Fields
from_1 = last string

pub returns-in_err-name : goal.returns-in_err-name
returns-in_err-name c = λ t e.
    let p = err_from_is_err_and c.from_residual.result c.from_residual.ensures.1 in
    let h = within_text _ t _ e c.args.reader.now.inside in
    let name1 = c.in_err-name.ensures t e in
    (name1.0, rw (p.1, p.2) (field_stops string from_1 name1.1))

pub returns-in_err-value : goal.returns-in_err-value
returns-in_err-value c = λ t e.
    let p = err_from_is_err_and c.from_residual-in_err-value.result c.from_residual-in_err-value.ensures.1 in
    let h = within_text _ t _ e c.args.reader.now.inside in
    let name1 = c.in_ok-name.ensures t e in
    let value1 = c.in_err-value.ensures t name1.0 in
    (value1.0, rw (p.1, p.2) (later_stops string from_1 h name1.1 value1.1))

pub returns : goal.returns
returns c = λ t e.
    let v : Variable = record { name = c.in_ok-name.name; value = c.in_ok-value.value } in
    let h = within_text _ t _ e c.args.reader.now.inside in
    let name1 = c.in_ok-name.ensures t e in
    let value1 = c.in_ok-value.ensures t name1.0 in
    (value1.0, both string from_1 h name1.1 (variable_1 t v) value1.1)
