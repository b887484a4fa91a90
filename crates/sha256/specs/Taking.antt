-- A message taken one byte at a time: the state of its blocks, and the step of one byte.
-- Source: FIPS 180-4, sections 5.2.1 and 6.2 (block by block); how the state is laid out is this project's own.
use Rattle.std.specs.Prelude.{◌≡◌, ℕ, ◌+◌, ◌%◌, cond, List, [], ◌∷◌, ◌++◌, length, take, drop, ◌==◌, slice_index}
use Rattle.sink.specs.Write.{steps}
use Rattle.sha256.specs.Fips.{block}
use Rattle.sha256.specs.declared.blocks.Blocks.{Blocks}

-- a state: the eight words, the length of the message, and the bytes of the unfinished block
abbrev pub laid : List ℕ → ℕ → List ℕ → List ℕ
laid w n p = w ++ n ∷ p

-- the state of the blocks of a message of n bytes
abbrev pub unfinished : Blocks → ℕ → List ℕ
unfinished b n = laid b.words n (take b.filled b.block)

-- p is the unfinished block with the new byte: a whole one is hashed
abbrev pub stepped : List ℕ → ℕ → List ℕ → List ℕ
stepped w n p = cond (length p == 64) (laid (block w p) (n + 1) []) (laid w (n + 1) p)

unfoldable pub step : List ℕ → ℕ → List ℕ
step s b = stepped (take 8 s) (slice_index s 8) (drop 9 s ++ b ∷ [])

-- b is a with the bytes taken, however long the message was
pub record Takes (a : Blocks) (bytes : List ℕ) (b : Blocks) : Type 0 where
  pub state : (n : ℕ) → unfinished b (n + length bytes) ≡ steps step (unfinished a n) bytes
  pub filled : b.filled ≡ (a.filled + length bytes) % 64
