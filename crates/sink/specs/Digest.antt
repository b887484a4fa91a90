-- What a digest sink means: its start, its capacity, its answer, and D, the digest of a string.
-- Source: this project's own definition of a digest sink (docs/FORMATS.md, "Sinks").
use Rattle.std.specs.Prelude.{◌≡◌, ℕ, ◌<◌, ◌≤◌, List, length, Ok, Err, Result}
use Rattle.sink.specs.Write.{Step, Meaning, steps, written}

-- the meaning after begin: the total stays
abbrev pub begun : List ℕ → ℕ → Meaning → Meaning
begun start capacity m = record { state = start; remaining = capacity; total = m.total }

-- what begin promises, where m was the meaning before it and n is the one after
pub record Begins (start : List ℕ) (capacity : ℕ) (m n : Meaning) : Type 0 where
  pub is : n ≡ begun start capacity m
  pub large : 1048576 ≤ capacity

-- every answer has 32 numbers, as a digest of 32 bytes has
abbrev pub AllWide : (List ℕ → List ℕ) → Type 0
AllWide answer = (s : List ℕ) → length (answer s) ≡ 32

-- D: the answer after stepping from the start through the bytes
abbrev pub digest : Step → List ℕ → (List ℕ → List ℕ) → List ℕ → List ℕ
digest f start answer bs = answer (steps f start bs)

-- a digest of bs, asked from the meaning m, answers r and leaves the meaning n; a string longer than the capacity is refused
abbrev pub Digests : {E : Type 0} → Step → List ℕ → ℕ → (List ℕ → List ℕ) → Meaning → List ℕ → Result (List ℕ) E → Meaning → Type 0
Digests f start capacity answer m bs (Ok d) n = (length bs ≤ capacity) × (d ≡ digest f start answer bs) × (n ≡ written f (begun start capacity m) bs)
Digests f start capacity answer m bs (Err _) n = (capacity < length bs) × (n ≡ begun start capacity m)
