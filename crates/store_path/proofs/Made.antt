-- An array that a closure made, place by place.
use Rattle.std.proofs.Common.{◌≡◌, ℕ, zero, suc, ◌+◌, ◌<◌, ◌≤◌, List, get_or, sym, subst, inl, inr, arith}
use Rattle.std.specs.Array.{IsFromFnResult, IsFromFnResultFrom}
use Rattle.std.specs.Fn.{Called, Mut}
use Rattle.std.proofs.lemmas.Bool.{cases_eq}

module _ {F X : Type 0} {g : Mut F (ℕ × Unit {0}) X} {f : F} (ys : List X) (P : ℕ → X → Type 0) (m : ℕ) (d : X) (law : (i : ℕ) (y : X) (q : F) → i < m → Called g f (i, tt) y q → (q ≡ f) × P i y) where
  made_from : (n i : ℕ) → i + n ≡ m → IsFromFnResultFrom g f ys i n → (k : ℕ) → i ≤ k → k < m → P k (get_or ys k d)
  made_from zero i e t k low high = absurd (omega arith)
  made_from (suc n) i e (q, y, at, called, rest) k low high =
      let told = law i y q (omega arith) called in
      elim (cases_eq k i) [
        | inl same ↦ subst (λ (j : ℕ). P j (get_or ys j d)) (sym same) (subst (P i) (sym (at.1 d)) told.1)
        | inr other ↦ made_from n (i + 1) (omega arith) (subst (λ p. IsFromFnResultFrom g p ys (i + 1) n) told.0 rest) k (omega arith) high
      ]

  -- where P holds of each number and what the call with it answers, it holds at each place
  pub made : IsFromFnResult g f ys m → (k : ℕ) → k < m → P k (get_or ys k d)
  made t k high = made_from m 0 (omega arith) t.each k (omega arith) high
