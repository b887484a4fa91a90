-- The meaning of a layer that counts the bytes it passes on: its state is a count, and then the state of the sink below.
-- Source: this project's own definition of a sink (docs/FORMATS.md, "Sinks").
use Rattle.std.specs.Prelude.{ℕ, ◌+◌, ◌%◌, ◌^◌, [], ◌∷◌}
use Rattle.sink.specs.Write.{Step, Held}

-- the count wraps at 64 bits, as a total does
abbrev pub counting : Step → Step
counting f [] b = []
counting f (c ∷ s) b = ((c + 1) % (2 ^ 64)) ∷ f s b

-- over a sink that holds h, lent under the name a, where c bytes were counted
abbrev pub counted : Held → ℕ → ℕ → Held
counted h a c = record {
  meaning = record { state = (c % (2 ^ 64)) ∷ h.meaning.state; remaining = h.meaning.remaining; total = h.meaning.total };
  space = h.space;
  loan = a;
}
