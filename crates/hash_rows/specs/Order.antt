-- Byte order, a prefix first, as a test.
-- Source: this project's own rule (docs/FORMATS.md, "Meaning and canonical text").
use Rattle.std.specs.Prelude.{ℕ, Bool, List}
use Rattle.std.specs.Cmp.Lexicographic.{slice_cmp}
use Rattle.std.specs.Ordering.{nat_cmp, is_lt}

-- whether a string stands before another, in the order of std
abbrev pub before : List ℕ → List ℕ → Bool
before a b = is_lt (slice_cmp nat_cmp a b)
