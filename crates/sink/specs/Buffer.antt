-- The meaning of a writer over a lent buffer: its state is the bytes written, its remaining the space left, its total their number.
use Rattle.std.specs.Prelude.{ℕ, ◌-◌, ◌%◌, ◌^◌, ◌<◌, List, [], ◌∷◌, ◌++◌, length, take, drop}
use Rattle.std.proofs.Common.{arith}
use Rattle.sink.specs.Write.{Step, Held}

abbrev pub pushing : Step
pushing s b = s ++ (b ∷ [])

-- a writer over a buffer that holds xs, lent under the name a, of which the first n bytes are written
abbrev pub buffered : List ℕ → ℕ → ℕ → Held
buffered xs a n = record {
  meaning = record { state = take n xs; remaining = length xs - n; total = n % (2 ^ 64) };
  space = drop n xs;
  loan = a;
}

pub buffered_wraps : (xs : List ℕ) (a n : ℕ) → (buffered xs a n).meaning.total < 2 ^ 64
buffered_wraps xs a n = omega arith
