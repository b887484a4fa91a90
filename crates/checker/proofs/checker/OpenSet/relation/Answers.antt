use Rattle.std.proofs.Common.{ℕ, subst, arith}
use Rattle.checker.specs.Ways.{Way, AllSay}
use Rattle.checker.proofs.Ways.{all_through}
use Rattle.checker.proofs.checker.OpenSet.relation.Goals as goal

pub turns-init : goal.turns-init
turns-init c = c.edges-relation.ensures

pub turns-preserved : goal.turns-preserved
turns-preserved c = all_through c.args.self.now.files.links c.turns.middle c.turns.relation.rows _ (omega arith) c.turns.invariant c.through-relation.ensures

pub returns : goal.returns
returns c =
    subst (λ (m : ℕ). AllSay c.turns.relation.rows (Way c.args.self.now.files.links m)) {x = c.turns.middle} (omega (arith, c.turns.auto.middle-end, c.turns-test.false, c.count-middle-end.ensures.value)) c.turns.invariant
