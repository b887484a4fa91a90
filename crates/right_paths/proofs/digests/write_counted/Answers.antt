use Rattle.std.proofs.Common.{◌^◌, ◌<◌, ap, ◌∙◌, arith, rules}
use Rattle.right_paths.proofs.Counts.{counted_from_new}
use Rattle.right_paths.proofs.digests.write_counted.Goals as goal

-- the last fact: when the loan ends the lent sink holds what the layer's does, if that is still the same loan
pub returns : goal.returns
returns g c =
    let w = c.new-counting.ensures in
    let l = c.write_to.new.sink in
    let small : l.count < 2 ^ 64 = omega (arith, c.count.ensures, c.count.type_inv) in
    let e = counted_from_new g.S.Sink.held g.S.Sink.step _ _ _ l.count c.args.sink.now c.new-counting.result.below.now l.below.now _ (g.T.ToSink.bytes c.args.what.now)
    (ap (λ b. b.now) w.0) (ap (λ b. b.ghost_name) w.0) w.1 _ c.in_ok-write_to.ensures.told small (search rules) in
    (c.count.ensures ∙ e.0, e.1)
