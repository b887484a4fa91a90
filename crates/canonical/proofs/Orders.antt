-- Byte order is a strict order, and total.
use Rattle.std.proofs.Common.{◌≡◌, ℕ, ◌<◌, ◌⊎◌, List, [], ◌∷◌, true, Ordering, Less, Equal, Greater, sym, refl, ap, ◌∙◌, subst, inl, inr, ⊎_elim, arith}
use mathlib.Core.Bool.{false≢true}
use Rattle.std.specs.Cmp.Lexicographic.{slice_cmp}
use Rattle.std.specs.Ordering.{MatchOrdering, ordering_then, nat_cmp, is_lt}
use Rattle.std.specs.Str.{bytes_eq}
use Rattle.std.proofs.lemmas.Bool.{cases_order, cases_Bool}
use Rattle.std.proofs.lemmas.Slice.Eq.{bytes_eq-Decides}
use Rattle.std.proofs.lemmas.Cmp.{ranked}
use Rattle.canonical.specs.Order.{Under, Compared}

pub under_not_self : (a : List ℕ) → Under a a → ⊥
under_not_self [] h = h
under_not_self (x ∷ a) (inl h) = omega arith
under_not_self (x ∷ a) (inr h) = under_not_self a h.1

pub under_trans : (a b c : List ℕ) → Under a b → Under b c → Under a c
under_trans [] [] c h k = absurd h
under_trans [] (y ∷ b) [] h k = absurd k
under_trans [] (y ∷ b) (z ∷ c) h k = tt
under_trans (x ∷ a) [] c h k = absurd h
under_trans (x ∷ a) (y ∷ b) [] h k = absurd k
under_trans (x ∷ a) (y ∷ b) (z ∷ c) (inl h) (inl k) = inl (omega arith)
under_trans (x ∷ a) (y ∷ b) (z ∷ c) (inl h) (inr k) = inl (let e = k.0 in omega arith)
under_trans (x ∷ a) (y ∷ b) (z ∷ c) (inr h) (inl k) = inl (let e = h.0 in omega arith)
under_trans (x ∷ a) (y ∷ b) (z ∷ c) (inr h) (inr k) = inr (h.0 ∙ k.0, under_trans a b c h.1 k.1)

pub trichotomy : (a b : List ℕ) → Under a b ⊎ ((a ≡ b) ⊎ Under b a)
trichotomy [] [] = inr (inl refl)
trichotomy [] (y ∷ b) = inl tt
trichotomy (x ∷ a) [] = inr (inr tt)
trichotomy (x ∷ a) (y ∷ b) =
    ⊎_elim
    (λ e. ⊎_elim (λ u. inl (inr (e, u))) (λ r. inr (⊎_elim (λ f. inl (λ i. e i ∷ f i)) (λ u. inr (inr (sym e, u))) r)) (trichotomy a b))
    (λ r. ⊎_elim (λ l. inl (inl l)) (λ g. inr (inr (inl g))) r)
    (cases_order x y)

pub same_or_not : (a b : List ℕ) → (a ≡ b) ⊎ (a ≡ b → ⊥)
same_or_not a b = elim (cases_Bool (bytes_eq a b)) [
  | inl e ↦ inl ((bytes_eq-Decides a b).0 e)
  | inr n ↦ inr (λ e. false≢true (sym n ∙ (bytes_eq-Decides a b).1 e))
]

-- the order that std computes
then_compared : (x y : ℕ) (a b : List ℕ) (r s : Ordering) → MatchOrdering r (x < y) (x ≡ y) (y < x) → Compared a b s → Compared (x ∷ a) (y ∷ b) (ordering_then r s)
then_compared x y a b Less s h k = inl h
then_compared x y a b Equal Less h k = inr (h, k)
then_compared x y a b Equal Equal h k = cc
then_compared x y a b Equal Greater h k = inr (sym h, k)
then_compared x y a b Greater s h k = inl h

pub compared : (a b : List ℕ) → Compared a b (slice_cmp nat_cmp a b)
compared [] [] = refl
compared [] (y ∷ b) = tt
compared (x ∷ a) [] = tt
compared (x ∷ a) (y ∷ b) = then_compared x y a b (nat_cmp x y) (slice_cmp nat_cmp a b) (ranked x y (nat_cmp x y) refl) (compared a b)

-- strings have one order
same_order : (a b : List ℕ) (r s : Ordering) → Compared a b r → Compared a b s → r ≡ s
same_order a b Less Less h k = refl
same_order a b Less Equal h k = absurd (under_not_self b (subst (λ (x : List ℕ). Under x b) k h))
same_order a b Less Greater h k = absurd (under_not_self a (under_trans a b a h k))
same_order a b Equal Less h k = absurd (under_not_self b (subst (λ (x : List ℕ). Under x b) h k))
same_order a b Equal Equal h k = refl
same_order a b Equal Greater h k = absurd (under_not_self b (subst (Under b) h k))
same_order a b Greater Less h k = absurd (under_not_self a (under_trans a b a k h))
same_order a b Greater Equal h k = absurd (under_not_self b (subst (Under b) k h))
same_order a b Greater Greater h k = refl

pub compared_is : (a b : List ℕ) (r : Ordering) → Compared a b r → r ≡ slice_cmp nat_cmp a b
compared_is a b r h = same_order a b r (slice_cmp nat_cmp a b) h (compared a b)

-- the order as a test
less_so : (a b : List ℕ) (o : Ordering) → Compared a b o → is_lt o ≡ true → Under a b
less_so a b Less h e = h
less_so a b Equal h e = absurd (false≢true e)
less_so a b Greater h e = absurd (false≢true e)

pub under_from_less : (a b : List ℕ) → is_lt (slice_cmp nat_cmp a b) ≡ true → Under a b
under_from_less a b = less_so a b (slice_cmp nat_cmp a b) (compared a b)

pub less_from_under : (a b : List ℕ) → Under a b → is_lt (slice_cmp nat_cmp a b) ≡ true
less_from_under a b u = ap is_lt (sym (compared_is a b Less u))
