-- What a string's bytes mean, byte by byte, with their escapes resolved.
-- Source: E. Dolstra, The Purely Functional Software Deployment Model (2006), section 5.4 (derivations in ATerm form), and the Nix manual, "Derivations".
use Rattle.std.specs.Prelude.{ℕ, ◌-◌, Bool, true, false, cond, List, [], ◌∷◌, take, drop, ◌==◌}
use Rattle.aterm.specs.declared.meant.Meant.{Meant}
use Rattle.aterm.specs.Grammar.{escape}

-- `true`: just past a backslash
abbrev pub meant : Bool → List ℕ → List ℕ
meant b [] = []
meant true (c ∷ s) = escape c ∷ meant false s
meant false (c ∷ s) = cond (c == 92) (meant true s) (c ∷ meant false s)

-- what the bytes from one place of a text to another are, as far as the text reaches
abbrev pub cut : List ℕ → ℕ → ℕ → List ℕ
cut text from stop = take (stop - from) (drop from text)

-- what is still to come
abbrev pub meant_left : Meant → List ℕ
meant_left it = meant false it.rest.now
