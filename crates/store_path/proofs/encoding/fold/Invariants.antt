use Rattle.std.proofs.Common.{◌≡◌, ℕ, ◌<◌, length, get_or}
use Rattle.store_path.specs.Base32.{folded}
use Rattle.store_path.proofs.encoding.fold.Given as goal

abbrev pub invariant-loop-k : goal.invariant-loop-k
invariant-loop-k l = (length l.out ≡ 20) × ((i : ℕ) → i < 20 → get_or l.out i 0 ≡ folded l.bytes l.k i)
