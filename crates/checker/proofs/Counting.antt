-- Each settle's count is the rise of the sink's total, modulo 2 ^ 64.
use Rattle.std.proofs.Common.{◌≡◌, ℕ, ◌+◌, ◌%◌, ◌^◌, ◌<◌, Option, ap, ◌∙◌, sym, arith}
use Rattle.hash_modulo.specs.Sets.{Bytes, Files}
use Rattle.sink.specs.Write as sinks
use Rattle.checker.specs.Calls.{Kind, Outcome, with_hash, without}
use Rattle.checker.specs.Theorem.{CountIsRise}
use Rattle.checker.specs.declared.state.Hashes.{Hashes}

-- nothing is added to a total below 2 ^ 64
pub stays : (a b n : ℕ) → a < 2 ^ 64 → b ≡ a → n ≡ 0 → b ≡ (a + n) % (2 ^ 64)
stays a b n low same none = omega arith

-- with a hash the strings' lengths are added, and without one the sink stays as it was
pub risen : (kind : Kind) (set : Files) (p : Bytes) (before after : sinks.Meaning) (n : ℕ) (o : Option Hashes) → before.total < 2 ^ 64
    → Outcome kind set p before n after o → after.total ≡ (before.total + n) % (2 ^ 64)
risen kind set p before after n o low (with_hash h ss e x m g c l) = l.total ∙ ap (λ (k : ℕ). (before.total + k) % (2 ^ 64)) (sym c)
risen kind set p before after n o low (without e none c same) = stays before.total after.total n low (ap (λ (m : sinks.Meaning). m.total) same) c

pub count_is_rise : CountIsRise
count_is_rise kind v w k n before after low (s, o, taken, changes, decides) = risen kind _ _ before after n s.hashes low decides.outcome
