use Rattle.std.proofs.Common.{◌-◌, ◌≤◌}
use Rattle.image.proofs.Chains.{Walk}
use Rattle.image.proofs.chain.Chain.follow.Given as goal

abbrev pub invariant-loop-index : goal.invariant-loop-index
invariant-loop-index l = Walk l.bytes l.slots l.count l.slot l.index × (l.count ≤ 256)

abbrev pub decreases-loop-index : goal.decreases-loop-index
decreases-loop-index l = 256 - l.count
