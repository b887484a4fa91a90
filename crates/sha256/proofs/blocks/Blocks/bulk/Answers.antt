use Rattle.std.proofs.Common.{◌≡◌, ◌+◌, ◌*◌, ◌/◌, length, take, drop, ap, ◌∙◌, arith, rules}
use Rattle.std.specs.List.{fold}
use Rattle.sha256.specs.Fips.{block}
use Rattle.sha256.specs.Taking.{laid}
use Rattle.sha256.proofs.Steps.{blocks_fold, bulk_is}
use Rattle.sha256.proofs.blocks.Blocks.bulk.Goals as goal

pub returns : goal.returns
returns c =
    let s = c.args.self.now in
    let xs = c.args.bytes.now in
    let k = length xs / 64 in
    let cut : k * 64 ≡ 64 * k = omega arith in
    let e = c.put.new.dst in
    let v = c.compress_all-next.result in
    record {
      state = λ n.
          ap (λ (f : _). laid v (n + length xs) (take f e)) c.as_chunks.ensures.back_len
          ∙ bulk_is s.words s.block e n _ xs (search rules) (search rules) v c.as_chunks.result.1.now (omega arith)
          (c.compress_all-next.ensures ∙ ap (fold block s.words) c.as_chunks.ensures.front ∙ blocks_fold k s.words xs)
          (c.as_chunks.ensures.back ∙ ap (λ m. drop m xs) cut) c.put.ensures;
      filled = omega (arith, c.as_chunks.ensures.back_len);
    }
