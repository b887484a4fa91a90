use Rattle.std.proofs.Common.{ℕ, true, false, refl, ap, arith, rules, tests}
use Rattle.std.specs.declared.ops.Range.{Range}
use Rattle.std.proofs.lemmas.Iterator.{first_from_Range}
use Rattle.std.proofs.lemmas.Bool.Decides.{not_from_Decides}
use Rattle.checker.specs.Seen.{view_in, SaysReady}
use Rattle.checker.specs.Views.{ReadyAt}
use Rattle.checker.proofs.Choosing.{lowest}
use Rattle.checker.proofs.checker.OpenSet.first_ready.Goals as goal

pub returns : goal.returns
returns c =
    let s = c.args.self.now in
    lowest c.numbers.result (ReadyAt (view_in s)) (λ k. SaysReady s k true) (λ k. SaysReady s k false)
    (λ k p. (omega (arith, ap (λ (r : Range ℕ). r.start) c.numbers.ensures, p.0.exists.0), omega (arith, ap (λ (r : Range ℕ). r.end) c.numbers.ensures, p.0.exists.1)))
    (λ k y. y.says.0 refl) (λ k n. not_from_Decides false n.says refl) c.find.result
    (first_from_Range c.numbers.result c.find.new.self _ c.find.result (λ k. SaysReady s k true) (λ k. SaysReady s k false) c.find.ensures.ran (λ x q k. search (rules, tests)) (λ x q k. (search (rules, tests), search (rules, tests))))
