-- The lines of a text, and a step that is taken at each.
-- Source: this project's own choice.
use Rattle.std.specs.Prelude.{◌≡◌, ℕ, ◌<◌, List, [], ◌∷◌, length, Ok}
use Rattle.std.specs.declared.result.Result.{Result}
use denote.Ref.{Bor}
use Rattle.std.specs.Fn.{Mut, CalledAt}
use Rattle.std.specs.List.{FoldsTo}
use Rattle.std.specs.Io.BufRead.{first_line, drop_through}

-- they are all that the text holds, in order, each without the bytes that end it
abbrev pub LinesOf : List ℕ → List (List ℕ) → Type 0
LinesOf text [] = text ≡ []
LinesOf text (line ∷ rest) = (0 < length text) × (line ≡ first_line text) × LinesOf (drop_through 10 text) rest

-- f was called at each line of the text, in order, and each call succeeded
abbrev pub LinesTaken : {F E : Type 0} → Mut F (Bor (List ℕ) × Unit {0}) (Result (Unit {0}) E) → F → List ℕ → Type 0
LinesTaken {F} g f text = (lines : List (List ℕ)) × (last : F) × LinesOf text lines × FoldsTo (λ p line q. CalledAt g p line (Ok tt) q) f lines last
