use Rattle.std.proofs.Common.{ℕ, ◌+◌, ◌-◌, ◌<◌, Bool, true, false, length, get_or, MatchBool, Decides, refl, subst, arith, rules, tests}
use Rattle.std.specs.List.{range_with_len, AllWithin, HoldsAt}
use Rattle.std.proofs.lemmas.Iterator.{cases_from_any, YieldsList-from_range}
use Rattle.std.proofs.lemmas.List.FromFn.{length-range_with_len, get_or-range_with_len}
use Rattle.checker.specs.Calls.{SomeTaken}
use Rattle.checker.specs.Seen.{view_in}
use Rattle.checker.specs.Views.{View, TakenAt}
use Rattle.checker.proofs.checker.OpenSet.has_taken.Goals as goal

module _ (v : View) where
  taken_by : (b : Bool) → MatchBool b ((i : ℕ) × (i < length (range_with_len 1 v.count)) × HoldsAt (TakenAt v) (range_with_len 1 v.count) i) (AllWithin (λ k. TakenAt v k → ⊥) (range_with_len 1 v.count) 0 (length (range_with_len 1 v.count)))
      → Decides b (SomeTaken v)
  taken_by true (i, less, here) = (λ e. (get_or (range_with_len 1 v.count) i 0, here 0), λ s. refl)
  taken_by false none = (
    λ e. cc,
    λ (k, t). absurd (
        let x = t.exists in
        let less : k - 1 < length (range_with_len 1 v.count) = omega (arith, length-range_with_len 1 v.count) in
        none (k - 1) 0 (omega arith) less
        (subst (TakenAt v) {x = k} {y = get_or (range_with_len 1 v.count) (k - 1) 0} (omega (arith, get_or-range_with_len 1 v.count (k - 1) 0 (omega arith))) t)),
  )

pub returns : goal.returns
returns c =
    let v = view_in c.args.self.now in
    taken_by v c.any.result
    (cases_from_any c.any.new.self _ c.any.result (TakenAt v) (λ k. TakenAt v k → ⊥) c.any.ensures.ran (YieldsList-from_range 1 (v.count + 1) v.count c.numbers.ensures (omega arith)) (λ x q k. search (rules, tests)) (λ x q k. (search (rules, tests), search (rules, tests))))
