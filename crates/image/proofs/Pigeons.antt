-- More places than values: two of the places have one value.
use Rattle.std.proofs.Common.{◌≡◌, ℕ, zero, suc, ◌<◌, ◌≤◌, cond, eqb, ◌⊎◌, sym, ◌∙◌, inl, inr, arith}
use Rattle.std.proofs.lemmas.Bool.{cases_eq, eq-eqb, ne_eqb, cond-true, cond-false}

-- v in the place of the value t
swapped : ℕ → ℕ → ℕ → ℕ
swapped t v a = cond (eqb a t) v a

swapped_is : (t v a : ℕ) → ((a ≡ t) × (swapped t v a ≡ v)) ⊎ ((a ≡ t → ⊥) × (swapped t v a ≡ a))
unfolding swapped
swapped_is t v a =
    elim (cases_eq a t) [
      | inl e ↦ inl (e, cond-true (eqb a t) v a (eq-eqb a t e))
      | inr n ↦ inr (n, cond-false (eqb a t) v a (ne_eqb a t n))
    ]

module _ (c : ℕ) (f : ℕ → ℕ) (b : (m : ℕ) → m < suc (suc c) → (0 < f m) × (f m ≤ suc c)) (d : (l m : ℕ) → l < m → m < suc (suc c) → f l ≡ f m → ⊥) where
  less : (m : ℕ) → m < suc c → (0 < swapped (suc c) (f (suc c)) (f m)) × (swapped (suc c) (f (suc c)) (f m) ≤ c)
  less m h =
      let last = b (suc c) (omega arith) in
      let here = b m (omega arith) in
      elim (swapped_is (suc c) (f (suc c)) (f m)) [
        | inl x ↦
            let apart : f (suc c) ≡ suc c → ⊥ = λ e. d m (suc c) (omega arith) (omega arith) (x.0 ∙ sym e) in
            (omega (arith, x.1), omega (arith, x.1, apart))
        | inr x ↦ (omega (arith, x.1), omega (arith, x.1, x.0))
      ]

  still : (l m : ℕ) → l < m → m < suc c → swapped (suc c) (f (suc c)) (f l) ≡ swapped (suc c) (f (suc c)) (f m) → ⊥
  still l m h g e =
      elim (swapped_is (suc c) (f (suc c)) (f l)) [
        | inl x ↦
            elim (swapped_is (suc c) (f (suc c)) (f m)) [
              | inl y ↦ d l m h (omega arith) (x.0 ∙ sym y.0)
              | inr y ↦ d m (suc c) (omega arith) (omega arith) (sym y.1 ∙ sym e ∙ x.1)
            ]
        | inr x ↦
            elim (swapped_is (suc c) (f (suc c)) (f m)) [
              | inl y ↦ d l (suc c) (omega arith) (omega arith) (sym x.1 ∙ e ∙ y.1)
              | inr y ↦ d l m h (omega arith) (sym x.1 ∙ e ∙ y.1)
            ]
      ]

pub pigeons : (c : ℕ) (f : ℕ → ℕ) → ((m : ℕ) → m < suc c → (0 < f m) × (f m ≤ c)) → ((l m : ℕ) → l < m → m < suc c → f l ≡ f m → ⊥) → ⊥
pigeons zero f b d = omega (arith, b 0 (omega arith))
pigeons (suc c) f b d = pigeons c (λ m. swapped (suc c) (f (suc c)) (f m)) (less c f b d) (still c f b d)
