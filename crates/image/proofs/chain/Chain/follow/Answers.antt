use Rattle.std.proofs.Common.{arith, rules}
use Rattle.image.specs.Chain.{Good}
use Rattle.image.proofs.Chains.{room, test_good, test_bad, walk_none, walk_more}
use Rattle.image.proofs.chain.Chain.follow.Goals as goal
use Rattle.image.proofs.chain.Chain.follow.Goals.{Else-not-may_follow}

-- the index may follow, so that one more slot fits the table
good : (c : Else-not-may_follow) → Good c.args.bytes.now c.loop-index.count
good c =
    test_good c.args.bytes.now c.loop-index.slots c.loop-index.count c.loop-index.slot c.loop-index.index _ c.may_follow.result
    c.requires.1 c.loop-index.invariant.0 (omega (arith, c.loop-index-test.true)) c.loop-index.invariant.1 (search (rules, c.bytes_at.ensures)) c.may_follow.ensures c.if-not-may_follow.false

pub loop-index-init : goal.loop-index-init
loop-index-init c = (walk_none c.args.bytes.now _ _ (search rules) (search (rules, c.bytes_at-2.ensures)), omega arith)

pub returns-then-not-may_follow : goal.returns-then-not-may_follow
returns-then-not-may_follow c = (
  c.requires.0,
  c.requires.1,
  test_bad c.args.bytes.now c.loop-index.slots c.loop-index.count c.loop-index.slot c.loop-index.index _ c.may_follow.result
      c.requires.1 c.loop-index.invariant.0 (omega (arith, c.loop-index-test.true)) c.loop-index.invariant.1 (search (rules, c.bytes_at.ensures)) c.may_follow.ensures c.if-not-may_follow.true,
)

pub bounds-slots-count : goal.bounds-slots-count
bounds-slots-count c = omega (arith, room c.args.bytes.now c.loop-index.count c.loop-index.invariant.0.good (good c), c.requires.1.few)

pub loop-index-smaller : goal.loop-index-smaller
loop-index-smaller c = omega (arith, room c.args.bytes.now c.loop-index.count c.loop-index.invariant.0.good (good (goal.at.loop-index-smaller c).Else-not-may_follow), c.requires.1.few)

pub loop-index-preserved : goal.loop-index-preserved
loop-index-preserved c =
    let g = good (goal.at.loop-index-preserved c).Else-not-may_follow in
    let h = room c.args.bytes.now c.loop-index.count c.loop-index.invariant.0.good g in (
      walk_more c.args.bytes.now c.loop-index.slots c.loop-index.count c.loop-index.slot c.loop-index.index _ (omega (arith, h, c.requires.1.few)) c.loop-index.invariant.0 g c.next-index.ensures,
      omega (arith, h, c.requires.1.few),
    )
