use Rattle.std.proofs.Common.{◌≡◌, length, refl, subst, arith}
use Rattle.std.proofs.lemmas.Bool.Decides.{not_from_Decides}
use Rattle.aterm.specs.Tables.{rows_of}
use Rattle.canonical.specs.Files.{values, output_value}
use Rattle.canonical.specs.Meanings.{canonical}
use Rattle.hash_modulo.specs.Hashes.{with_inputs}
use Rattle.hash_modulo.specs.Paths.{masked}
use Rattle.hash_modulo.proofs.Lengths.{output_short, hex_length}
use Rattle.right_paths.specs.Inputs.{hash_input_value}
use Rattle.right_paths.specs.Views.{file_by}
use Rattle.right_paths.specs.Worked.{FixedShort}
use Rattle.right_paths.proofs.Aligning.{masked_short}
use Rattle.right_paths.proofs.Fixing.{paths_short}
use Rattle.checker.specs.Seen.{view_in}
use Rattle.checker.specs.Settling.{kind_of}
use Rattle.checker.proofs.Looking.{known_of, short_rows, workable_of}
use Rattle.checker.proofs.Placing.{only_output, fixed_located, masked_located}
use Rattle.checker.proofs.checker.OpenSet.output_digits.Goals as goal

pub fixed_path-requires : goal.fixed_path-requires
fixed_path-requires g c =
    let of = c.args.of in
    let o = output_value of.text.now c.args.output in
    let x = c.is_fixed.ensures.0 c.if-is_fixed.true in
    subst (FixedShort of.path.now) (only_output (file_by of) o x c.requires.there) (paths_short c.requires.limits x)

pub returns-then-is_fixed : goal.returns-then-is_fixed
returns-then-is_fixed g c =
    let s = g.S.Sink in
    let d = g.S.DigestSink in
    let of = c.args.of in
    fixed_located (kind_of s.step d.start d.capacity d.answered d.wide) (view_in c.args.self.now) of.path.now (file_by of) (output_value of.text.now c.args.output)
    (s.held c.args.sink.now).meaning (s.held c.fixed_path.new.sink).meaning c.fixed_path.result.value.bytes c.fixed_path.result.count
    (c.is_fixed.ensures.0 c.if-is_fixed.true) c.fixed_path.ensures

pub pour-requires : goal.pour-requires
pour-requires g c =
    let of = c.args.of in
    let w = workable_of of.path.now of.text.now of.file.now c.as_slice-rows.result.now c.input_hashes-hashes.result c.as_slice-rows.ensures c.requires.limits c.requires.lawful (omega arith) in
    masked_short w (c.hash_inputs.ensures of.text.now w.given w.aligned)

pub path_by-requires : goal.path_by-requires
path_by-requires g c =
    let of = c.args.of in
    let h = c.pour.result.value in
    let wide : length h ≡ 32 = omega arith in
    output_short c.requires.limits (output_value of.text.now c.args.output) c.requires.there _ (omega (arith, hex_length h, wide))

pub returns : goal.returns
returns g c =
    let s = g.S.Sink in
    let d = g.S.DigestSink in
    let of = c.args.of in
    let text = of.text.now in
    let v = view_in c.args.self.now in
    let m = file_by of in
    let vs = c.as_slice-rows.result.now in
    let hashes = c.input_hashes-hashes.result in
    let w = workable_of of.path.now text of.file.now vs hashes c.as_slice-rows.ensures c.requires.limits c.requires.lawful (omega arith) in
    let each = c.input_hashes-hashes.ensures (short_rows text of.file.now vs c.as_slice-rows.ensures c.requires.limits.inputs) in
    let right = c.hash_inputs.ensures text w.given w.aligned in
    let rows = values (hash_input_value text) (rows_of c.hash_inputs.result) in
    masked_located (kind_of s.step d.start d.capacity d.answered d.wide) v of.path.now m (output_value text c.args.output)
    (s.held c.args.sink.now).meaning (s.held c.path_by.new.sink).meaning c.path_by.result.value.bytes
    (not_from_Decides c.is_fixed.result c.is_fixed.ensures c.if-is_fixed.false)
    w.given (known_of v of.path.now text of.file.now vs hashes c.as_slice-rows.ensures each w)
    (canonical (with_inputs (masked m) rows)) (record { rows = rows; rises = right.rises; gathered = right.gathered; is = refl })
    c.pour.result.value c.pour.result.count c.path_by.result.count (s.held c.pour.new.sink).meaning c.pour.ensures c.path_by.ensures
