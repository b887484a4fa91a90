-- The recorder's meaning: its state is a count, a table of the first 4,096 bytes, and then the state of the sink below.
-- Source: this project's own definition of a recorder (docs/FORMATS.md, "Sinks").
use Rattle.std.specs.Prelude.{◌≡◌, ℕ, ◌+◌, ◌<◌, ◌≤◌, min, List, [], ◌∷◌, ◌++◌, length, take, drop, replicate, Ok, Err, Result, slice_index, slice_set}
use Rattle.sink.specs.Digest.{digest}
use Rattle.sink.specs.Write.{Step, Held, steps}

-- one more, up to the largest number of 32 bits
abbrev pub counted : ℕ → ℕ
counted c = min (c + 1) 4294967295

-- the step of a recorder with a table of n bytes over a sink with the step f; a byte past the table's end leaves the table as it is
abbrev pub recording : ℕ → Step → Step
recording n f [] b = []
recording n f (c ∷ ts) b = counted c ∷ (slice_set (take n ts) c b ++ f (drop n ts) b)

-- the count and the table after some bytes
abbrev pub counts : ℕ → List ℕ → ℕ
counts c [] = c
counts c (b ∷ bs) = counts (counted c) bs

abbrev pub laid : List ℕ → ℕ → List ℕ → List ℕ
laid t c [] = t
laid t c (b ∷ bs) = laid (slice_set t c b) (counted c) bs

-- what a recorder holds, over a sink that holds h
abbrev pub recorded : ℕ → List ℕ → Held → Held
recorded c t h = record {
  meaning = record { state = c ∷ (t ++ h.meaning.state); remaining = h.meaning.remaining; total = h.meaning.total };
  space = h.space;
  loan = h.loan;
}

-- n zeros
unfoldable pub zeros : ℕ → List ℕ
zeros n = replicate n 0

abbrev pub recorded_start : List ℕ → List ℕ
recorded_start start = 0 ∷ (zeros 4096 ++ start)

abbrev pub recorded_answer : (List ℕ → List ℕ) → List ℕ → List ℕ
recorded_answer answer state = answer (drop 4097 state)

-- D of a recorder is D of the sink below
abbrev pub SameDigest : Step → List ℕ → (List ℕ → List ℕ) → Type 0
SameDigest f start answer = (bs : List ℕ) → digest (recording 4096 f) (recorded_start start) (recorded_answer answer) bs ≡ digest f start answer bs

-- the first bytes of a table, as many as were counted, are copied to the front of a buffer, whose later bytes stay; or it is short and stays
abbrev pub Copied : {E : Type 0} → ℕ → List ℕ → List ℕ → Result ℕ E → List ℕ → Type 0
Copied c t out (Ok n) after = (min c 4096 ≤ length out) × (n ≡ min c 4096) × (after ≡ take n t ++ drop n out)
Copied c t out (Err _) after = (length out < min c 4096) × (after ≡ out)

-- the same by a recorder's state: the count stands first, the table next
abbrev pub Kept : {E : Type 0} → List ℕ → List ℕ → Result ℕ E → List ℕ → Type 0
Kept state out r after = Copied (slice_index state 0) (take 4096 (drop 1 state)) out r after

-- the same by what was taken: the first 4,096 of the bytes bs
abbrev pub First : {E : Type 0} → List ℕ → List ℕ → Result ℕ E → List ℕ → Type 0
First bs out (Ok n) after = (min (length bs) 4096 ≤ length out) × (n ≡ min (length bs) 4096) × (after ≡ take 4096 bs ++ drop n out)
First bs out (Err _) after = (length out < min (length bs) 4096) × (after ≡ out)

-- whatever was taken since begin, its first 4,096 bytes are answered
abbrev pub TakenKept : {E : Type 0} → Step → List ℕ → List ℕ → Result ℕ E → List ℕ → Type 0
TakenKept f state out r after = (below bs : List ℕ) → state ≡ steps (recording 4096 f) (recorded_start below) bs → First bs out r after
