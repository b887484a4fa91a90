use Rattle.std.proofs.Common.{Bor, List, ℕ, ap}
use Rattle.image.proofs.Opened.{opens_empty}
use Rattle.image.proofs.image.Image.empty.Goals as goal

pub invariant_of-result : goal.invariant_of-result
invariant_of-result c = record { opens = ∣ opens_empty _ _ (ap (λ (b : Bor (List ℕ)). b.now) c.empty.ensures.bytes) c.empty.ensures.count ∣₁ }
