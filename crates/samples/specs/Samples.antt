-- Worked examples of the definitions: what is found by them, and what is wanted, as one table.
-- Source: the rules of base 32 and of the fold as `store_path` states them, worked by hand.
use Rattle.std.specs.Prelude.{◌≡◌, ℕ, List, [], ◌∷◌, ◌++◌, replicate, codes}
use Rattle.std.specs.List.{AllByRecursion}
use Rattle.store_path.specs.Base32.{base32, fold}

-- one example
pub record Sample : Type 0 where
  pub found : List ℕ
  pub wanted : List ℕ

abbrev pub sample : List ℕ → List ℕ → Sample
sample found wanted = record { found = found; wanted = wanted }

unfoldable pub samples : List Sample
samples =
    sample (base32 (replicate 20 0)) (codes "00000000000000000000000000000000")
    ∷ sample (base32 (1 ∷ replicate 19 0)) (codes "00000000000000000000000000000001")
    ∷ sample (base32 (replicate 19 0 ++ (128 ∷ []))) (codes "h0000000000000000000000000000000")
    ∷ sample (base32 (replicate 20 255)) (codes "zzzzzzzzzzzzzzzzzzzzzzzzzzzzzzzz")
    ∷ sample (fold (replicate 32 1)) (replicate 12 0 ++ replicate 8 1)
    ∷ []

-- each is as it is wanted
abbrev pub Samples : Type 0
Samples = AllByRecursion (λ s. s.found ≡ s.wanted) samples
