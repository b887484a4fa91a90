-- The lowest file of which something holds, and which file is chosen.
use Rattle.std.proofs.Common.{ℕ, ◌<◌, ◌≤◌, None, Some, Option, MatchOption}
use Rattle.std.specs.declared.ops.Range.{Range}
use Rattle.checker.specs.Calls.{Chosen, first_ready, first_pending, Choice}
use Rattle.checker.specs.Views.{View, PendingAt, ReadyAt, Lowest}

-- the lowest of a range is the lowest of all, where it holds in the range alone
pub lowest : (s : Range ℕ) (Holds Yes No : ℕ → Type 0) → ((k : ℕ) → Holds k → (s.start ≤ k) × (k < s.end)) → ((k : ℕ) → Yes k → Holds k) → ((k : ℕ) → No k → Holds k → ⊥) → (r : Option ℕ)
    → MatchOption r ((k : ℕ) → s.start ≤ k → k < s.end → No k) (λ i. (s.start ≤ i) × (i < s.end) × Yes i × ((k : ℕ) → s.start ≤ k → k < i → No k))
    → Lowest Holds r
lowest s Holds Yes No within y n None none = λ k h. (let w = within k h in n k (none k w.0 w.1) h)
lowest s Holds Yes No within y n (Some i) (from, to, here, before) = (y i here, λ j less h. n j (before j (within j h).0 less) h)

-- the lowest ready one, or the lowest pending one where none is ready
module _ (v : View) where
  pub chosen_ready : (k : ℕ) → Lowest (ReadyAt v) (Some k) → Chosen v k
  chosen_ready k (y, before) = first_ready y.0 y.1 (λ j less p q. before j less (p, q))

  pub chosen_pending : (r : Option ℕ) → Lowest (ReadyAt v) None → Lowest (PendingAt v) r → Choice v r
  chosen_pending None none low = λ p. low p.0 p.1
  chosen_pending (Some k) none (p, before) = first_pending p (λ j q r. none j (q, r)) before
