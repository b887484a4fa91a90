-- Byte order as a test.
use Rattle.std.proofs.Common.{◌≡◌, ℕ, true, List, subst}
use Rattle.canonical.specs.Order.{Under}
use Rattle.canonical.proofs.Orders.{under_not_self, under_from_less, less_from_under}
use Rattle.hash_rows.specs.Order.{before}

pub before_not_same : (a b : List ℕ) → Under a b → a ≡ b → ⊥
before_not_same a b h e = under_not_self b (subst (λ (x : List ℕ). Under x b) e h)

pub test_before : (a b : List ℕ) → before a b ≡ true → Under a b
test_before = under_from_less

pub before_test : (a b : List ℕ) → Under a b → before a b ≡ true
before_test = less_from_under
