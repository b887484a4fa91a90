use Rattle.std.proofs.Common.{ℕ, ap, arith, rules, tests}
use Rattle.std.specs.declared.ops.Range.{Range}
use Rattle.std.proofs.lemmas.Iterator.{first_from_Range}
use Rattle.checker.specs.Seen.{view_in}
use Rattle.checker.specs.Views.{PendingAt}
use Rattle.checker.proofs.Choosing.{lowest}
use Rattle.checker.proofs.checker.OpenSet.first_pending.Goals as goal

pub returns : goal.returns
returns c =
    let v = view_in c.args.self.now in
    lowest c.numbers.result (PendingAt v) (PendingAt v) (λ k. PendingAt v k → ⊥)
    (λ k p. (omega (arith, ap (λ (r : Range ℕ). r.start) c.numbers.ensures, p.exists.0), omega (arith, ap (λ (r : Range ℕ). r.end) c.numbers.ensures, p.exists.1)))
    (λ k p. p) (λ k n. n) c.find.result
    (first_from_Range c.numbers.result c.find.new.self _ c.find.result (PendingAt v) (λ k. PendingAt v k → ⊥) c.find.ensures.ran (λ x q k. search (rules, tests)) (λ x q k. (search (rules, tests), search (rules, tests))))
