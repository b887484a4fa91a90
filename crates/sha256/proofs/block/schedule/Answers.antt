use Rattle.std.proofs.Common.{◌+◌, ◌*◌, [], refl, arith, length-set, rules}
use Rattle.sha256.proofs.Rounds.{schedule_none, schedule_more, schedule_all, schedule_at, early}
use Rattle.sha256.proofs.block.schedule.Goals as goal

pub first-init : goal.first-init
first-init c = (refl, schedule_none c.args.block.now [])

pub first-preserved : goal.first-preserved
first-preserved c =
    let few = c.as_chunks.ensures.front_len in (
      omega (arith, c.first.invariant.0, length-set c.first.w c.first.t c.from_be_bytes.result),
      schedule_more c.args.block.now c.first.w c.first.t c.from_be_bytes.result (omega (arith, c.first.invariant.0)) c.first.invariant.1
          (early _ _ _ _ _ _ (omega arith) (omega arith) c.as_chunks.ensures.front c.from_be_bytes.ensures),
    )

pub rest-init : goal.rest-init
rest-init c = (c.first.invariant.0, schedule_at c.args.block.now c.first.w c.first.t (8 * 2) (let few = c.as_chunks.ensures.front_len in omega arith) c.first.invariant.1)

pub rest-preserved : goal.rest-preserved
rest-preserved c = (
  search rules,
  schedule_at c.args.block.now _ (8 * c.rest.q + 8) (8 * (c.rest.q + 1)) (omega arith) (c.extend.ensures c.args.block.now c.rest.invariant.1),
)

pub returns : goal.returns
returns c = schedule_all c.args.block.now c.rest.w (8 * c.rest.q) (omega arith) c.rest.invariant.0 c.rest.invariant.1
