-- What a comparing sink knows after a text was written to it.
use Rattle.std.proofs.Common.{◌≡◌, ℕ, suc, ◌+◌, ◌<◌, ◌≤◌, Bool, eqb, ltb, ◌⊎◌, List, [], ◌∷◌, ◌++◌, length, sym, refl, ap, ◌∙◌, subst, inl, inr, ⊎_elim, Ok, Err, arith, length-append, eq-eqb, ne_eqb}
use Rattle.std.proofs.lemmas.List.{append-nil}
use Rattle.std.specs.Bool.{then_some}
use Rattle.std.proofs.lemmas.Bool.{cond-true, cond-false, cases_eq, cases_Bool, ltb-true, ltb-false}
use Rattle.sink.specs.Write.{steps}
use Rattle.canonical.specs.Differences.{DifferAt, FirstDifference, comparing, progress}

-- all of ys stood there, or the two parted
abbrev Ahead : ℕ → List ℕ → List ℕ → Type 0
Ahead n xs ys = (rest : List ℕ) × ((xs ≡ ys ++ rest) × (steps comparing (0 ∷ n ∷ xs) ys ≡ 0 ∷ (n + length ys) ∷ rest))

abbrev ApartAt : ℕ → List ℕ → List ℕ → Type 0
ApartAt n xs ys = (place : ℕ) × (DifferAt xs ys place × ((rest : List ℕ) × (steps comparing (0 ∷ n ∷ xs) ys ≡ 1 ∷ (n + place) ∷ rest)))

stays : (n : ℕ) (xs ys : List ℕ) → steps comparing (1 ∷ n ∷ xs) ys ≡ 1 ∷ n ∷ xs
stays n xs [] = refl
stays n xs (y ∷ ys) = stays n xs ys

goes : (n : ℕ) (xs ys : List ℕ) → Ahead n xs ys ⊎ ApartAt n xs ys
goes n xs [] = inl (xs, (refl, let e : n ≡ n + 0 = omega arith in ap (λ (k : ℕ). 0 ∷ k ∷ xs) e))
goes n [] (y ∷ ys) =
    inr (
      0,
      (
        record { front = []; rest = []; other = y ∷ ys; one = refl; two = refl; here = refl; parted = tt },
        ([], stays n [] ys ∙ (let e : n ≡ n + 0 = omega arith in ap (λ (k : ℕ). 1 ∷ k ∷ []) e)),
      ),
    )
goes n (x ∷ xs) (y ∷ ys) =
    ⊎_elim
    (λ e.
    let now : steps comparing (0 ∷ n ∷ x ∷ xs) (y ∷ ys) ≡ steps comparing (0 ∷ (n + 1) ∷ xs) ys =
    ap (λ (s : List ℕ). steps comparing s ys) (cond-true (eqb x y) (0 ∷ (n + 1) ∷ xs) (1 ∷ n ∷ x ∷ xs) (eq-eqb x y e)) in
    ⊎_elim
    (λ a. inl (a.0, ((λ i. e i ∷ a.1.0 i), now ∙ a.1.1 ∙ (let z : n + 1 + length ys ≡ n + length (y ∷ ys) = omega arith in ap (λ (k : ℕ). 0 ∷ k ∷ a.0) z))))
    (λ a. inr (
      suc a.0,
      (
        record {
          front = y ∷ a.1.0.front;
          rest = a.1.0.rest;
          other = a.1.0.other;
          one = (λ i. e i ∷ a.1.0.one i);
          two = ap (λ (l : List ℕ). y ∷ l) a.1.0.two;
          here = ap suc a.1.0.here;
          parted = a.1.0.parted;
        },
        (a.1.1.0, now ∙ a.1.1.1 ∙ (let z : n + 1 + a.0 ≡ n + suc a.0 = omega arith in ap (λ (k : ℕ). 1 ∷ k ∷ a.1.1.0) z)),
      ),
    ))
    (goes (n + 1) xs ys))
    (λ m. inr (
      0,
      (
        record { front = []; rest = x ∷ xs; other = y ∷ ys; one = refl; two = refl; here = refl; parted = m },
        (
          x ∷ xs,
          ap (λ (s : List ℕ). steps comparing s ys) (cond-false (eqb x y) (0 ∷ (n + 1) ∷ xs) (1 ∷ n ∷ x ∷ xs) (ne_eqb x y m))
              ∙ stays n (x ∷ xs) ys
              ∙ (let e : n ≡ n + 0 = omega arith in ap (λ (k : ℕ). 1 ∷ k ∷ x ∷ xs) e),
        ),
      ),
    ))
    (cases_eq x y)

heads : {a b c d : ℕ} {r s : List ℕ} → a ∷ b ∷ r ≡ c ∷ d ∷ s → (a ≡ c) × (b ≡ d)
heads e = (cc, cc)

module _ (t ys : List ℕ) where
  ends : (rest : List ℕ) → t ≡ ys ++ rest → length t ≤ length ys → t ≡ ys
  ends [] e l = e ∙ append-nil ys
  ends (z ∷ zs) e l = absurd (let a = ap length e in let b = length-append ys (z ∷ zs) in omega arith)

  goes_on : (rest : List ℕ) → t ≡ ys ++ rest → length ys < length t → DifferAt t ys (length ys)
  goes_on [] e n = absurd (let a = ap length (e ∙ append-nil ys) in omega arith)
  goes_on (z ∷ zs) e n = record { front = ys; rest = z ∷ zs; other = []; one = e; two = sym (append-nil ys); here = refl; parted = tt }

  module _ (u : List ℕ) (at : ℕ) where
    same_so_far : progress u (Ok at) ≡ steps comparing (progress t (Ok 0)) ys → (length t ≤ at → t ≡ ys) × (at < length t → DifferAt t ys at)
    same_so_far h =
        ⊎_elim
        (λ a.
        let q : at ≡ length ys = (let p = (heads (h ∙ a.1.1)).1 in omega arith) in
        (λ l. ends a.0 a.1.0 (omega arith), λ l. subst (DifferAt t ys) (sym q) (goes_on a.0 a.1.0 (omega arith))))
        (λ a. absurd (let p = (heads (h ∙ a.1.1.1)).0 in omega arith))
        (goes 0 t ys)

    -- all was the same, and the text ends or goes on
    pub whole_or_front : progress u (Ok at) ≡ steps comparing (progress t (Ok 0)) ys → FirstDifference t ys (then_some (ltb at (length t)) at)
    whole_or_front h = elim (cases_Bool (ltb at (length t))) [
      | inl e ↦ subst (λ (b : Bool). FirstDifference t ys (then_some b at)) (sym e) ((same_so_far h).1 (ltb-true at (length t) e))
      | inr e ↦ subst (λ (b : Bool). FirstDifference t ys (then_some b at)) (sym e) ((same_so_far h).0 (ltb-false at (length t) e))
    ]

    pub parted_there : progress u (Err at) ≡ steps comparing (progress t (Ok 0)) ys → DifferAt t ys at
    parted_there h =
        ⊎_elim
        (λ a. absurd (let p = (heads (h ∙ a.1.1)).0 in omega arith))
        (λ a.
        let q : at ≡ a.0 = (let r = (heads (h ∙ a.1.1.1)).1 in omega arith) in
        subst (DifferAt t ys) (sym q) a.1.0)
        (goes 0 t ys)
