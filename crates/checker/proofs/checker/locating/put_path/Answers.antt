use Rattle.std.proofs.Common.{◌≡◌, length, arith}
use Rattle.right_paths.specs.Worked.{full_store_path}
use Rattle.checker.proofs.Placing.{long, put_ok}
use Rattle.checker.proofs.checker.locating.put_path.Goals as goal

pub unwrap-requires : goal.unwrap-requires
unwrap-requires g c =
    let digits = c.args.digits.bytes in
    let name = g.N.ToSink.bytes c.args.name in
    let wide : length digits ≡ 32 = omega arith in
    let l = long digits name wide in
    put_ok (full_store_path digits name) c.args.out.now c.write_text.result c.write_text.new.out (omega (arith, l, c.requires)) c.write_text.ensures
