use Rattle.std.proofs.Common.{◌+◌, arith, length-set, rules}
use Rattle.sha256.proofs.Rounds.{schedule_more, schedule_at, late}
use Rattle.sha256.proofs.block.extend.Goals as goal

pub loop-t-init : goal.loop-t-init
loop-t-init c = (search rules, λ b e. e)

pub loop-t-preserved : goal.loop-t-preserved
loop-t-preserved c =
    let w = c.loop-t.w in
    let t = c.loop-t.t in (
      omega (arith, c.loop-t.invariant.0, length-set w t c.mixed-next.result),
      λ b e. schedule_more b w t c.mixed-next.result (omega (arith, c.loop-t.invariant.0)) (c.loop-t.invariant.1 b e) (late b w t c.mixed-next.result (omega arith) c.mixed-next.ensures),
    )

pub returns : goal.returns
returns c b e = schedule_at b c.loop-t.w c.loop-t.t (c.args.at + 8) (omega arith) (c.loop-t.invariant.1 b e)
