use Rattle.std.proofs.Common.{◌≡◌, ◌+◌, length, take, ap, ◌∙◌, arith, length-take-le, rules}
use Rattle.sha256.specs.Fips.{spelled}
use Rattle.sha256.proofs.Ends.{tail_is}
use Rattle.sha256.proofs.Steps.{takes_then, answer_from}
use Rattle.sha256.proofs.hasher.stream.Sha256DigestSink.answer.Goals as goal

pub returns : goal.returns
returns c =
    let b = c.args.self.now.blocks in
    let p = take b.filled b.block in
    let n = c.args.self.now.count in
    let long : length b.block ≡ 64 = search rules in
    let last = c.absorb-2.new.self in
    let t = takes_then (tail_is n _ _ c.filler.ensures.bytes c.bits.ensures) c.absorb.ensures c.absorb-2.ensures in
    record { answers = answer_from b.words p last.words _ _ _ n (search rules) (search rules) (omega (arith, b.within, length-take-le b.filled b.block (omega (arith, b.within)))) (t.state (0 + length p)) (c.spell.ensures ∙ ap spelled c.words.ensures) }
