-- Where two texts first differ, and what a sink means that compares a text with what is written to it.
-- Source: this project's own rule (docs/FORMATS.md).
use Rattle.std.specs.Prelude.{◌≡◌, ℕ, zero, suc, ◌+◌, cond, List, [], ◌∷◌, ◌++◌, length, drop, Some, None, Ok, Err, Option, Result, ◌==◌}
use Rattle.sink.specs.Write.{Step}

-- two texts that differ at once: other first bytes, or only one has ended
abbrev pub Parted : List ℕ → List ℕ → Type 0
Parted [] [] = ⊥
Parted [] (y ∷ ys) = Unit {0}
Parted (x ∷ xs) [] = Unit {0}
Parted (x ∷ xs) (y ∷ ys) = x ≡ y → ⊥

-- two texts differ from the place on, and not before
pub record DifferAt (a b : List ℕ) (place : ℕ) : Type 0 where
  pub front : List ℕ
  pub rest : List ℕ
  pub other : List ℕ
  pub one : a ≡ front ++ rest
  pub two : b ≡ front ++ other
  pub here : length front ≡ place
  pub parted : Parted rest other

-- the first place at which two texts differ, if there is one
abbrev pub FirstDifference : List ℕ → List ℕ → Option ℕ → Type 0
FirstDifference a b None = a ≡ b
FirstDifference a b (Some place) = DifferAt a b place

-- a state has 0 as long as nothing differs, the number of bytes that were the same, and the text after those
abbrev pub comparing : Step
comparing [] b = []
comparing (f ∷ []) b = f ∷ []
comparing (zero ∷ n ∷ []) b = 1 ∷ n ∷ []
comparing (zero ∷ n ∷ x ∷ xs) b = cond (x == b) (0 ∷ (n + 1) ∷ xs) (1 ∷ n ∷ x ∷ xs)
comparing (suc f ∷ n ∷ xs) b = suc f ∷ n ∷ xs

-- where the text goes on while all is the same, or the first place where it is not
abbrev pub progress : List ℕ → Result ℕ ℕ → List ℕ
progress t (Ok at) = 0 ∷ at ∷ drop at t
progress t (Err at) = 1 ∷ at ∷ drop at t
