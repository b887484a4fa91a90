-- The output of a fixed file is its first row, and the strings of a fixed file are short.
use Rattle.std.proofs.Common.{◌≡◌, ℕ, zero, suc, ◌≤◌, ◌⊎◌, Bool, true, false, not, List, [], ◌∷◌, map, length, get_or, take, codes, Some, Decides, MatchOption, sym, refl, ap, ◌∙◌, subst, inl, inr, arith}
use Rattle.std.specs.List.{AllByRecursion, slice_get}
use Rattle.std.specs.Bool.{then_some}
use Rattle.canonical.specs.Kinds.{Value}
use Rattle.canonical.specs.Meanings.{an_output, Meaning}
use Rattle.derivation.specs.Questions.{Kind, md5, sha1, sha256, sha512, spelt, GivenAs}
use Rattle.hash_modulo.specs.Hashes.{Fixed}
use Rattle.hash_modulo.specs.Sets.{Bytes}
use Rattle.hash_modulo.specs.Strings.{Blank, Limits}
use Rattle.hash_modulo.proofs.Lengths.{inner_short, fixed_path_short}
use Rattle.right_paths.specs.Worked.{FixedBy, FixedShort}

other : ◌≡◌ {A = Bool} false true → ⊥
other e = cc

clash : ◌≡◌ {A = ℕ} 0 1 → ⊥
clash e = omega arith

-- an algorithm has a name
some_name : (k : Kind) → 1 ≤ length (spelt k)
some_name md5 = omega arith
some_name sha1 = omega arith
some_name sha256 = omega arith
some_name sha512 = omega arith

named : (a h : List ℕ) (k : Kind) → GivenAs k a h → a ≡ [] → ⊥
named a h k g e = elim g.named [
  | inl n ↦ omega (arith, ap length (sym e ∙ n), some_name k)
  | inr n ↦ omega (arith, ap length (sym e ∙ n))
]

module _ {X Y : Type 0} (of : X → Y) (F : Y → Value an_output) (m : Meaning) (xs : List X) (x : X) (rows : m.0 ≡ map (λ y. F (of y)) xs) (first : Some x ≡ slice_get xs 0) where
  first_row : (xs : List X) → Some x ≡ slice_get xs 0 → (rest : List X) × (xs ≡ x ∷ rest)
  first_row [] e = absurd (cc)
  first_row (y ∷ xs) e = (xs, cc)

  those : (rest : List X) × (m.0 ≡ F (of x) ∷ map (λ y. F (of y)) rest)
  those = let r = first_row xs first in (r.0, rows ∙ ap (map (λ y. F (of y))) r.1)

  same : (z : Fixed m) → z.only ≡ F (of x)
  same z = let e : z.only ∷ [] ≡ F (of x) ∷ map (λ y. F (of y)) those.0 = sym z.whole ∙ those.1 in cc

  -- the output of the first row is the file's only one when it has an algorithm, and else the file is not fixed
  pub first_fixes : (b : Bool) → Fixed m ⊎ AllByRecursion Blank m.0 → Decides b ((F (of x)).1.1.0 ≡ [])
      → MatchOption (then_some (not b) (of x)) (Fixed m → ⊥) (λ y. FixedBy m (F y))
  first_fixes true choice blank = λ z. named z.only.1.1.0 z.only.1.1.1 z.given.0 z.given.1 (ap (λ (o : Value an_output). o.1.1.0) (same z) ∙ blank.0 refl)
  first_fixes false choice blank = elim choice [
    | inl z ↦ (z, same z)
    | inr all ↦ absurd (other (blank.1 (subst (AllByRecursion Blank) those.1 all).0.0))
  ]

module _ {X : Type 0} (F : X → Value an_output) where
  pub fixed_none : (m : Meaning) (xs : List X) → m.0 ≡ map F xs → length xs ≡ 0 → Fixed m → ⊥
  fixed_none m [] rows none x = let y = x.whole in let only = x.only in let z : ◌≡◌ {A = ℕ} 0 1 = cc in clash z
  fixed_none m (v ∷ xs) rows none x = omega arith

  -- the only output is the first row
  pub first_only : (n : ℕ) (xs : List X) (o : Value an_output) (d : X) → map F (take n xs) ≡ o ∷ [] → F (get_or xs 0 d) ≡ o
  first_only zero xs o d e = absurd (clash (cc))
  first_only (suc n) [] o d e = absurd (clash (cc))
  first_only (suc n) (x ∷ xs) o d e = cc

pub paths_short : {path : Bytes} {m : Meaning} → Limits path m → (x : Fixed m) → FixedShort path x.only
paths_short l x = record {
  inner = inner_short l x;
  source = fixed_path_short l x (codes "source") (omega arith) x.only.1.1.1 (inr refl);
  output = λ h w. fixed_path_short l x (codes "output:out") (omega arith) h (inl w);
}
