use Rattle.std.proofs.Common.{◌≡◌, ◌-◌, ◌<◌, length, get_or, sym, ap, arith, rules}
use Rattle.aterm.specs.declared.file.Output.{Output}
use Rattle.aterm.specs.declared.rows.Placed.{Placed}
use Rattle.canonical.specs.Files.{values, output_value}
use Rattle.right_paths.specs.Views.{file_by}
use Rattle.checker.specs.Seen.{view_in}
use Rattle.checker.specs.Settling.{kind_of}
use Rattle.checker.proofs.Placing.{output_there, output_located}
use Rattle.checker.proofs.checker.OpenSet.write_right_path.Goals as goal

pub write_output_path-requires-clause-there : goal.write_output_path-requires-clause-there
write_output_path-requires-clause-there g c =
    let of = c.args.of in
    let t = of.text.now in
    let rows = c.as_slice-rows.result.now in
    let row = c.in-Some.row.now in
    let here : row ≡ get_or rows (c.args.j - 1) row = search rules in
    let less : c.args.j - 1 < length rows = search rules in
    output_there (λ (w : Placed Output). output_value t w.value) (file_by of) rows (c.args.j - 1) row (ap (values (output_value t)) (sym c.as_slice-rows.ensures)) less here

pub returns-clause-located : goal.returns-clause-located
returns-clause-located g c =
    let s = g.S.Sink in
    let d = g.S.DigestSink in
    let of = c.args.of in
    let t = of.text.now in
    let rows = c.as_slice-rows.result.now in
    let row = c.in-Some.row.now in
    let here : row ≡ get_or rows (c.args.j - 1) row = search rules in
    let less : c.args.j - 1 < length rows = search rules in
    output_located (λ (w : Placed Output). output_value t w.value) (file_by of) rows (c.args.j - 1) row (ap (values (output_value t)) (sym c.as_slice-rows.ensures)) less here
    (kind_of s.step d.start d.capacity d.answered d.wide) (view_in c.args.self.now) of.path.now c.args.out.now (s.held c.args.sink.now).meaning
    c.write_output_path.result c.write_output_path.new.out (s.held c.write_output_path.new.sink).meaning c.write_output_path.ensures.put c.args.j (omega (arith, c.if-j-eq0.false))
