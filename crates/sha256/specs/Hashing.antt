-- SHA-256 taken one byte at a time: the state of a hasher, its start, its step and its answer, and what the hasher means as a sink.
-- Source: FIPS 180-4, sections 5.2.1 and 6.2 (block by block) and 5.1.1 (padding); how the state is laid out is this project's own.
use Rattle.std.specs.Prelude.{ℕ, ◌-◌, ◌/◌, ◌%◌, ◌^◌, ◌<◌, List, [], ◌++◌, length, take, drop, slice_index}
use Rattle.std.proofs.Common.{arith}
use Rattle.sink.specs.Write.{Meaning, Held}
use Rattle.sha256.specs.Fips.{H0, blocks, tail, spelled}
pub use Rattle.sha256.specs.Taking.{laid, unfinished, stepped, step}
use Rattle.sha256.specs.declared.hasher.Sha256.{Sha256}

abbrev pub state : Sha256 → List ℕ
state s = unfinished s.blocks s.count

abbrev pub start : List ℕ
start = laid H0 0 []

-- the words after the padding's blocks, spelled
abbrev pub finished : List ℕ → ℕ → List ℕ → List ℕ
finished w n p = spelled (blocks (length (p ++ tail n) / 64) w (p ++ tail n))

unfoldable pub answer : List ℕ → List ℕ
answer s = finished (take 8 s) (slice_index s 8) (drop 9 s)

-- what a hasher means as a sink, from its state, the length of the message and the total; it is lent no buffer
abbrev pub held : List ℕ → ℕ → ℕ → Held
held x n t = record {
  meaning = record { state = x; remaining = 16777216 - n; total = t % 2 ^ 64 };
  space = [];
  loan = 0;
}

abbrev pub hashed : Sha256 → Held
hashed s = held (state s) s.count s.total

pub hashed_wraps : (s : Sha256) → (hashed s).meaning.total < 2 ^ 64
hashed_wraps s = omega arith

-- the meaning of a new hasher
abbrev pub fresh : Meaning
fresh = record { state = start; remaining = 16777216; total = 0 }
