-- What a sink means in which a value watches the bytes that are written.
-- Source: this project's own rule (docs/FORMATS.md, "Sinks").
use Rattle.std.specs.Prelude.{ℕ, ◌-◌, ◌%◌, ◌^◌, ◌<◌, List, []}
use Rattle.std.proofs.Common.{arith}
use Rattle.sink.specs.Write.{Held}

-- a sink whose value has this state, and that took so many bytes; it takes as many as a count of 128 bits holds
abbrev pub watched : List ℕ → ℕ → Held
watched state count = record {
  meaning = record { state = state; remaining = 2 ^ 128 - 1 - count; total = count % (2 ^ 64) };
  space = [];
  loan = 0;
}

pub watched_wraps : (state : List ℕ) (count : ℕ) → (watched state count).meaning.total < 2 ^ 64
watched_wraps state count = omega arith
