use Rattle.std.proofs.Common.{◌≡◌, ℕ, List, length, take}
use Rattle.sha256.specs.Fips.{schedule}
use Rattle.sha256.proofs.block.extend.Given as goal

abbrev pub invariant-loop-t : goal.invariant-loop-t
invariant-loop-t l = (length l.w ≡ 64) × ((b : List ℕ) → take l.at l.initial.w ≡ schedule l.at b → take l.t l.w ≡ schedule l.t b)
