-- A string of bytes put over another, from a place on.
-- Source: this project's own definition.
use Rattle.std.specs.Prelude.{ℕ, ◌+◌, List, ◌++◌, length, take, drop}

-- what d holds after the bytes src are put over it, from a place on
abbrev pub wrote : List ℕ → ℕ → List ℕ → List ℕ
wrote d at src = take at d ++ (src ++ drop (at + length src) d)
