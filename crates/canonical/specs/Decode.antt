-- What the bytes between two quotes mean: a backslash gives the next byte another meaning.
-- Source: the Nix manual, "Derivations" (the ATerm form of a store derivation).
use Rattle.std.specs.Prelude.{ℕ, false, List}
use Rattle.aterm.specs.Meaning.{meant, cut}

-- what the string from one place of a text to another means
abbrev pub said : List ℕ → ℕ → ℕ → List ℕ
said t from stop = meant false (cut t from stop)
