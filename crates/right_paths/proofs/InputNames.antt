-- The rows of a table, each with its names, in an array that a closure made.
use Rattle.std.proofs.Common.{◌≡◌, ℕ, zero, suc, ◌+◌, ◌<◌, ◌≤◌, List, map, length, get_or, take, sym, ap, ◌∙◌, subst, inl, inr, arith}
use Rattle.std.specs.Array.{IsFromFnResult, IsFromFnResultFrom}
use Rattle.std.specs.Fn.{Called, Mut}
use Rattle.std.proofs.lemmas.Bool.{cases_eq}
use Rattle.std.proofs.lemmas.List.{ext_get_or, get_or-map, get_or-take, length-map, length-take-le}

-- what each call gives stands at its place
module _ {F X : Type 0} {g : Mut F (ℕ × Unit {0}) X} {f : F} (ys : List X) (P : ℕ → X → Type 0) (law : (i : ℕ) (y : X) (q : F) → Called g f (i, tt) y q → (q ≡ f) × P i y) (d : X) where
  made_from : (n i : ℕ) → IsFromFnResultFrom g f ys i n → (k : ℕ) → i ≤ k → k < i + n → P k (get_or ys k d)
  made_from zero i t k low high = absurd (omega arith)
  made_from (suc n) i (q, y, at, called, rest) k low high =
      let told = law i y q called in
      elim (cases_eq k i) [
        | inl same ↦ subst (λ (j : ℕ). P j (get_or ys j d)) (sym same) (subst (P i) (sym (at.1 d)) told.1)
        | inr other ↦ made_from n (i + 1) (subst (λ p. IsFromFnResultFrom g p ys (i + 1) n) told.0 rest) k (omega arith) (omega arith)
      ]

-- the first rows of an array, each with what it says, are those of a list
pub rows_made : {F X Y Z : Type 0} {g : Mut F (ℕ × Unit {0}) X} {f : F} {m : ℕ} (ys : List X) (xs : List Y) (h : X → Z) (k : Y → Z) (d : X) (e : Y) (z : Z) → length xs ≤ m
    → ((i : ℕ) (y : X) (q : F) → Called g f (i, tt) y q → (q ≡ f) × (i < length xs → h y ≡ k (get_or xs i e))) → IsFromFnResult g f ys m → map h (take (length xs) ys) ≡ map k xs
rows_made {m = m} ys xs h k d e z few law t =
    let n : length (take (length xs) ys) ≡ length xs = length-take-le (length xs) ys (omega (arith, t.long, few)) in
    ext_get_or z _ _ (length-map (take (length xs) ys) h ∙ n ∙ sym (length-map xs k))
    (λ i l.
    let b : i < length xs = omega (arith, l, n, length-map (take (length xs) ys) h) in
    get_or-map h (take (length xs) ys) i d z (omega (arith, b, n))
    ∙ ap h (get_or-take (length xs) ys i d b)
    ∙ made_from ys (λ j y. j < length xs → h y ≡ k (get_or xs j e)) law d m 0 t.each i (omega arith) (omega (arith, b, few)) b
    ∙ sym (get_or-map k xs i e z b))
