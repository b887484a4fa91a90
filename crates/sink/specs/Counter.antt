-- The meaning of a sink that only counts: it keeps no byte, and takes as many as a count of 64 bits holds.
use Rattle.std.specs.Prelude.{ℕ, ◌-◌, ◌%◌, ◌^◌, ◌<◌, []}
use Rattle.std.proofs.Common.{arith}
use Rattle.sink.specs.Write.{Step, Held}

abbrev pub forgetting : Step
forgetting s b = []

-- a sink that keeps nothing of the bytes but their number
abbrev pub numbered : ℕ → ℕ → Held
numbered left total = record { meaning = record { state = []; remaining = left; total = total % (2 ^ 64) }; space = []; loan = 0 }

pub numbered_wraps : (left total : ℕ) → (numbered left total).meaning.total < 2 ^ 64
numbered_wraps left total = omega arith

abbrev pub counted : ℕ → Held
counted n = numbered (2 ^ 64 - 1 - n) n
