use Rattle.std.proofs.lemmas.Result.{err_from_is_err_and}
use Rattle.aterm.specs.Grammar.{Fields, string, field, last}
use Rattle.aterm.specs.declared.file.Output.{Output}
use Rattle.aterm.specs.Files.{output_1, output_2, output_3}
use Rattle.aterm.proofs.Fields.{field_stops, later_stops, both}
use Rattle.aterm.proofs.Reading.{within_text}
use Rattle.aterm.proofs.file.OutputPart.rest.Goals as goal

abbrev from_3 : Fields
from_3 = last string

abbrev from_2 : Fields
from_2 = field string from_3

abbrev from_1 : Fields
from_1 = field string from_2

pub returns-in_err-name : goal.returns-in_err-name
returns-in_err-name c = λ t e.
    let p = err_from_is_err_and c.from_residual.result c.from_residual.ensures.1 in
    let h = within_text _ t _ e c.args.reader.now.inside in
    let name1 = c.in_err-name.ensures t e in
    (name1.0, rw (p.1, p.2) (field_stops string from_1 name1.1))

pub returns-in_err-path : goal.returns-in_err-path
returns-in_err-path c = λ t e.
    let p = err_from_is_err_and c.from_residual-in_err-path.result c.from_residual-in_err-path.ensures.1 in
    let h = within_text _ t _ e c.args.reader.now.inside in
    let name1 = c.in_ok-name.ensures t e in
    let path1 = c.in_err-path.ensures t name1.0 in
    (path1.0, rw (p.1, p.2) (later_stops string from_1 h name1.1 (field_stops string from_2 path1.1)))

pub returns-in_err-algorithm : goal.returns-in_err-algorithm
returns-in_err-algorithm c = λ t e.
    let p = err_from_is_err_and c.from_residual-in_err-algorithm.result c.from_residual-in_err-algorithm.ensures.1 in
    let h = within_text _ t _ e c.args.reader.now.inside in
    let name1 = c.in_ok-name.ensures t e in
    let path1 = c.in_ok-path.ensures t name1.0 in
    let algorithm1 = c.in_err-algorithm.ensures t path1.0 in
    (algorithm1.0, rw (p.1, p.2) (later_stops string from_1 h name1.1 (later_stops string from_2 name1.1.inside path1.1 (field_stops string from_3 algorithm1.1))))

pub returns-in_err-hash : goal.returns-in_err-hash
returns-in_err-hash c = λ t e.
    let p = err_from_is_err_and c.from_residual-in_err-hash.result c.from_residual-in_err-hash.ensures.1 in
    let h = within_text _ t _ e c.args.reader.now.inside in
    let name1 = c.in_ok-name.ensures t e in
    let path1 = c.in_ok-path.ensures t name1.0 in
    let algorithm1 = c.in_ok-algorithm.ensures t path1.0 in
    let hash1 = c.in_err-hash.ensures t algorithm1.0 in
    (hash1.0, rw (p.1, p.2) (later_stops string from_1 h name1.1 (later_stops string from_2 name1.1.inside path1.1 (later_stops string from_3 path1.1.inside algorithm1.1 hash1.1))))

pub returns : goal.returns
returns c = λ t e.
    let v : Output = record { name = c.in_ok-name.name; path = c.in_ok-path.path; algorithm = c.in_ok-algorithm.algorithm; hash = c.in_ok-hash.hash } in
    let h = within_text _ t _ e c.args.reader.now.inside in
    let name1 = c.in_ok-name.ensures t e in
    let path1 = c.in_ok-path.ensures t name1.0 in
    let algorithm1 = c.in_ok-algorithm.ensures t path1.0 in
    let hash1 = c.in_ok-hash.ensures t algorithm1.0 in
    (hash1.0, both string from_1 h name1.1 (output_1 t v) (both string from_2 name1.1.inside path1.1 (output_2 t v) (both string from_3 path1.1.inside algorithm1.1 (output_3 t v) hash1.1)))
