-- What a buffer holds after a text was written from its start, all of it or none.
-- Source: this project's own rule (docs/CALLS.md, "All numbers", number 39).
use Rattle.std.specs.Prelude.{◌≡◌, ℕ, ◌<◌, ◌≤◌, List, ◌++◌, length, drop, Ok, Err, Result}

-- a text that fits: its length is the answer, and the later bytes stay; a buffer that is too short is left as it was
abbrev pub Whole : {E : Type 0} → List ℕ → List ℕ → Result ℕ E → List ℕ → Type 0
Whole bs out (Ok n) after = (n ≡ length bs) × (length bs ≤ length out) × (after ≡ bs ++ drop n out)
Whole bs out (Err _) after = (length out < length bs) × (after ≡ out)
