-- Two texts are the same, or differ from one place on.
use Rattle.std.proofs.Common.{◌≡◌, ℕ, suc, ◌⊎◌, List, [], ◌∷◌, ◌++◌, length, sym, refl, ap, ◌∙◌, inl, inr}
use Rattle.std.proofs.lemmas.Bool.{cases_eq}
use Rattle.std.proofs.lemmas.List.{append_cancel_left}
use Rattle.canonical.specs.Differences.{Parted, DifferAt}
use Rattle.aterm.proofs.Laws.{head_eq, tail_eq}

pub differ? : (a b : List ℕ) → (a ≡ b) ⊎ ((place : ℕ) × DifferAt a b place)
differ? [] [] = inl refl
differ? [] (y ∷ b) = inr (0, record { front = []; rest = []; other = y ∷ b; one = refl; two = refl; here = refl; parted = tt })
differ? (x ∷ a) [] = inr (0, record { front = []; rest = x ∷ a; other = []; one = refl; two = refl; here = refl; parted = tt })
differ? (x ∷ a) (y ∷ b) = elim (cases_eq x y) [
  | inr n ↦ inr (0, record { front = []; rest = x ∷ a; other = y ∷ b; one = refl; two = refl; here = refl; parted = n })
  | inl e ↦ elim (differ? a b) [
    | inl f ↦ inl (λ i. e i ∷ f i)
    | inr z ↦ inr (
      suc z.0,
      record {
        front = x ∷ z.1.front;
        rest = z.1.rest;
        other = z.1.other;
        one = ap (λ (l : List ℕ). x ∷ l) z.1.one;
        two = (λ i. sym e i ∷ z.1.two i);
        here = ap suc z.1.here;
        parted = z.1.parted;
      },
    )
  ]
]

not_parted : (a b : List ℕ) → a ≡ b → Parted a b → ⊥
not_parted [] [] e n = n
not_parted [] (y ∷ b) e n = cc
not_parted (x ∷ a) [] e n = cc
not_parted (x ∷ a) (y ∷ b) e n = n (head_eq e)

pub differ_not : (a b : List ℕ) (place : ℕ) → DifferAt a b place → a ≡ b → ⊥
differ_not a b place w e = not_parted w.rest w.other (append_cancel_left w.front w.rest w.other (sym w.one ∙ e ∙ w.two)) w.parted

not_apart : (r o : List ℕ) (y : ℕ) (a b : List ℕ) → r ≡ y ∷ a → o ≡ y ∷ b → Parted r o → ⊥
not_apart [] o y a b e k m = cc
not_apart (x ∷ r) [] y a b e k m = cc
not_apart (x ∷ r) (u ∷ o) y a b e k m = m (head_eq e ∙ sym (head_eq k))

-- what both fronts have in common ends at the same place
fronts : (f g r s o q : List ℕ) → f ++ r ≡ g ++ s → f ++ o ≡ g ++ q → Parted r o → Parted s q → length f ≡ length g
fronts [] [] r s o q e k m n = refl
fronts [] (y ∷ g) r s o q e k m n = absurd (not_apart r o y (g ++ s) (g ++ q) e k m)
fronts (x ∷ f) [] r s o q e k m n = absurd (not_apart s q x (f ++ r) (f ++ o) (sym e) (sym k) n)
fronts (x ∷ f) (y ∷ g) r s o q e k m n = ap suc (fronts f g r s o q (tail_eq e) (tail_eq k) m n)

pub one_place : (a b : List ℕ) (i j : ℕ) → DifferAt a b i → DifferAt a b j → i ≡ j
one_place a b i j v w =
    sym v.here ∙ fronts v.front w.front v.rest w.rest v.other w.other (sym v.one ∙ w.one) (sym v.two ∙ w.two) v.parted w.parted ∙ w.here
