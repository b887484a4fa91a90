-- The canonical text of a string: which bytes are escaped, and how.
-- Source: the Nix manual, "Derivations" (the ATerm form of a store derivation), and E. Dolstra,
-- The Purely Functional Software Deployment Model (2006), section 5.4.
use Rattle.std.specs.Prelude.{ℕ, cond, List, [], ◌∷◌, ◌++◌, ◌==◌}
use Rattle.std.specs.List.{flat_map}

-- only the double quote, the backslash and the bytes 10, 13 and 9 are escaped
abbrev pub escaped : ℕ → List ℕ
escaped b =
    cond (b == 34) (92 ∷ 34 ∷ [])
    (cond (b == 92) (92 ∷ 92 ∷ [])
    (cond (b == 10) (92 ∷ 110 ∷ [])
    (cond (b == 13) (92 ∷ 114 ∷ [])
    (cond (b == 9) (92 ∷ 116 ∷ []) (b ∷ [])))))

-- a string between double quotes
abbrev pub quoted : List ℕ → List ℕ
quoted bs = 34 ∷ (flat_map escaped bs ++ (34 ∷ []))
