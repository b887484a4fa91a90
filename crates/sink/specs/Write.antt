-- What a byte sink means, and what writing a string to it does.
-- Source: this project's own definition of a sink (docs/FORMATS.md, "Sinks").
use Rattle.std.specs.Prelude.{◌≡◌, ℕ, ◌+◌, ◌-◌, ◌%◌, ◌^◌, ◌<◌, ◌≤◌, List, [], ◌∷◌, ◌++◌, length, take, drop, Result, MatchResult}

-- the number of the refusal of a string that does not fit
abbrev pub full_number : ℕ
full_number = 39

-- from a state and a byte to the next state; a state is a list of numbers
abbrev pub Step : Type 0
Step = List ℕ → ℕ → List ℕ

-- what a sink means: its state, how many bytes it still takes, and how many it ever took, modulo 2 ^ 64
pub record Meaning : Type 0 where
  pub state : List ℕ
  pub remaining : ℕ
  pub total : ℕ

-- a sink's meaning, and what only a writer over a lent buffer has besides: the bytes of the buffer not yet written, and the name of the loan
pub record Held : Type 0 where
  pub meaning : Meaning
  pub space : List ℕ
  pub loan : ℕ

-- the state after stepping through the bytes in turn
abbrev pub steps : Step → List ℕ → List ℕ → List ℕ
steps f s [] = s
steps f s (b ∷ bs) = steps f (f s b) bs

-- the meaning after a string that fits
abbrev pub written : Step → Meaning → List ℕ → Meaning
written f m bs = record {
  state = steps f m.state bs;
  remaining = m.remaining - length bs;
  total = (m.total + length bs) % (2 ^ 64);
}

unfoldable pub filled : Step → Held → List ℕ → Held
filled f h bs = record {
  meaning = written f h.meaning bs;
  space = drop (length bs) h.space;
  loan = h.loan;
}

-- bs fits, and k is what h is after it
abbrev pub Taken : Step → Held → List ℕ → Held → Type 0
Taken f h bs k = (k.meaning.remaining + length bs ≡ h.meaning.remaining) × (k ≡ filled f h bs)

-- bs does not fit: of its bytes only the first n went in, and k is what h is after those
pub record Stopped (f : Step) (h : Held) (bs : List ℕ) (k : Held) : Type 0 where
  pub count : ℕ
  pub over : h.meaning.remaining < length bs
  pub within : count ≤ h.meaning.remaining
  pub front : Taken f h (take count bs) k

-- from h a call that writes bs answers r and leaves k: Ok exactly where bs fits
pub record Writes {T E : Type 0} (f : Step) (h : Held) (bs : List ℕ) (r : Result T E) (k : Held) : Type 0 where
  pub told : MatchResult r (λ _. Taken f h bs k) (λ _. Stopped f h bs k)

-- to write b from k on is to write a from h on: what a loop keeps
pub record Leads (T E : Type 0) (f : Step) (h : Held) (a : List ℕ) (k : Held) (b : List ℕ) : Type 0 where
  pub on : (r : Result T E) (l : Held) → Writes f k b r l → Writes f h a r l

-- where a fits, writing a and then b is writing the two joined: they fit together exactly where b fits after a, and leave the same
abbrev pub Joins : Type 0
Joins = (f : Step) (h k l : Held) (a b : List ℕ) → Taken f h a k → (Taken f k b l → Taken f h (a ++ b) l) × (Taken f h (a ++ b) l → Taken f k b l)
