use Rattle.std.proofs.Common.{refl, arith}
use Rattle.canonical.specs.Files.{derivation_value}
use Rattle.sink.specs.Digest.{digest}
use Rattle.checker.specs.Seen.{view_in}
use Rattle.checker.proofs.Looking.{known_of, short_rows, workable_of}
use Rattle.checker.proofs.checker.OpenSet.settle_hashed.Goals as goal

pub hash-worked-requires : goal.hash-worked-requires
hash-worked-requires g c =
    let p = c.sorted_file-sorted.ensures in
    workable_of c.args.path.now c.args.text.now c.sorted_file-sorted.result c.as_slice-rows.result.now c.input_hashes-hashes.result c.as_slice-rows.ensures p.limits p.lawful (omega arith)

pub returns : goal.returns
returns g c =
    let path = c.args.path.now in
    let text = c.args.text.now in
    let sorted = c.sorted_file-sorted.result in
    let vs = c.as_slice-rows.result.now in
    let hashes = c.input_hashes-hashes.result in
    let p = c.sorted_file-sorted.ensures in
    let w = workable_of path text sorted vs hashes c.as_slice-rows.ensures p.limits p.lawful (omega arith) in
    let m = derivation_value text sorted in
    let few = p.limits.inputs in
    let worked = c.hash-worked.ensures w.given w.aligned in
    record {
      meaning = m;
      reads = p.reads;
      given = w.given;
      known = known_of (view_in c.args.self.now) path text sorted vs hashes c.as_slice-rows.ensures (c.input_hashes-hashes.ensures (short_rows text sorted vs c.as_slice-rows.ensures few)) w;
      hashes = c.hash-worked.result;
      worked = worked;
      kept = refl;
      count = refl;
      verdict = c.judge_paths-verdict.ensures (digest g.S.Sink.step g.S.DigestSink.start g.S.DigestSink.answered) w.given p.reads.tree p.reads.written worked.paths;
    }
