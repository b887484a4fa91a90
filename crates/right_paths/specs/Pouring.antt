-- What it is to digest strings one after the other with one digest sink.
-- Source: this project's own definition of a digest sink (docs/FORMATS.md, "Sinks").
use Rattle.std.specs.Prelude.{◌≡◌, ℕ, ◌%◌, ◌^◌, ◌<◌, List, [], ◌∷◌, length, Ok, Err, Result}
use Rattle.sink.specs.Digest.{begun, digest}
use Rattle.sink.specs.Write.{Step, Meaning, written}

-- every digest sink takes it: a sink's capacity is a mebibyte at least
abbrev pub Short : List ℕ → Type 0
Short s = length s < 1048576

-- a string is written from the meaning m on and its length answered, modulo 2 ^ 64; or it does not fit
abbrev pub Counts : {E : Type 0} → Step → Meaning → List ℕ → Result ℕ E → Meaning → Type 0
Counts f m bs (Ok n) k = (n ≡ length bs % (2 ^ 64)) × (k ≡ written f m bs)
Counts f m bs (Err _) k = m.remaining < length bs

-- the meaning of a digest sink after it has digested some strings in turn
abbrev pub poured : Step → List ℕ → ℕ → Meaning → List (List ℕ) → Meaning
poured f start capacity m [] = m
poured f start capacity m (s ∷ ss) = poured f start capacity (written f (begun start capacity m) s) ss

-- one string s is digested from the meaning m on: h is its digest, n its length, k the meaning after it
pub record Pours (f : Step) (start : List ℕ) (capacity : ℕ) (answer : List ℕ → List ℕ) (m : Meaning) (s h : List ℕ) (n : ℕ) (k : Meaning) : Type 0 where
  pub hash : h ≡ digest f start answer s
  pub count : n ≡ length s
  pub after : k ≡ written f (begun start capacity m) s
