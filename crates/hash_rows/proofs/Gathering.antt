-- From pairs to rows, one more pair at a time.
use Rattle.std.proofs.Common.{◌≡◌, ℕ, ◌⊎◌, List, [], ◌∷◌, ◌++◌, sym, refl, ap, ◌∙◌, subst, inl, inr}
use Rattle.std.proofs.lemmas.List.{append_assoc, same_from_push}
use Rattle.canonical.proofs.Orders.{same_or_not}
use Rattle.hash_rows.specs.Keyed.{In, Iff, Has, Placed, Last, Gathered}

module _ {X : Type 0} (key : X → List ℕ) where
  push_in : (x : X) (ps : List X) (y : X) → Iff (In y (ps ++ x ∷ [])) (In y ps ⊎ (y ≡ x))
  push_in x [] y = (λ m. elim m [ inl e ↦ inr e | inr k ↦ inl k ], λ m. elim m [ inl k ↦ inr k | inr e ↦ inl e ])
  push_in x (p ∷ ps) y = more x p ps (ps ++ x ∷ []) y (push_in x ps y)
    where
      more : (x p : X) (ps qs : List X) (y : X) → Iff (In y qs) (In y ps ⊎ (y ≡ x)) → Iff (In y (p ∷ qs)) (In y (p ∷ ps) ⊎ (y ≡ x))
      more x p ps qs y w = (there, back)
        where
          there : In y (p ∷ qs) → In y (p ∷ ps) ⊎ (y ≡ x)
          there (inl e) = inl (inl e)
          there (inr m) = elim (w.0 m) [ inl k ↦ inl (inr k) | inr e ↦ inr e ]

          back : In y (p ∷ ps) ⊎ (y ≡ x) → In y (p ∷ qs)
          back (inl (inl e)) = inl e
          back (inl (inr k)) = inr (w.1 (inl k))
          back (inr e) = inr (w.1 (inr e))

  -- a list is empty, or has a last element
  ends : (xs : List X) → (xs ≡ []) ⊎ ((ys : List X) × (z : X) × (xs ≡ ys ++ z ∷ []))
  ends [] = inl refl
  ends (x ∷ xs) = elim (ends xs)
      [ inl e ↦ inr ([], x, cc) | inr w ↦ inr (x ∷ w.0, w.1, ap (λ (q : List X). x ∷ q) w.2) ]

  last_none : (x : X) → Last key x [] → ⊥
  last_none x ([], a, e, n) = cc
  last_none x (b ∷ bs, a, e, n) = cc

  pub gathered_none : Gathered key [] []
  gathered_none = record {
    stands = λ h. (λ w. w, λ w. w);
    last = λ x. (λ m. absurd m, λ w. absurd (last_none x w));
  }

  last_here : (x : X) (ps : List X) → Last key x (ps ++ x ∷ [])
  last_here x ps = (ps, [], refl, λ y m. absurd m)

  last_on : (x : X) (ps : List X) (y : X) → (key y ≡ key x → ⊥) → Last key y ps → Last key y (ps ++ x ∷ [])
  last_on x ps y ne (b, a, e, n) = (
    b,
    a ++ x ∷ [],
    ap (λ (q : List X). q ++ x ∷ []) e ∙ append_assoc b (y ∷ a) (x ∷ []),
    λ z m. elim ((push_in x a z).0 m) [ inl k ↦ n z k | inr s ↦ (λ t. ne (sym t ∙ ap key s)) ],
  )

  last_back : (x : X) (ps : List X) (y : X) → Last key y (ps ++ x ∷ []) → (y ≡ x) ⊎ (Last key y ps × (key y ≡ key x → ⊥))
  last_back x ps y (b, a, e, n) = elim (ends a) [
    | inl s ↦ inl (sym (same_from_push ps b x y (e ∙ ap (λ (q : List X). b ++ y ∷ q) s)).1)
    | inr w ↦ (
        let f : ps ++ x ∷ [] ≡ (b ++ y ∷ w.0) ++ w.1 ∷ [] = e ∙ ap (λ (q : List X). b ++ y ∷ q) w.2 ∙ sym (append_assoc b (y ∷ w.0) (w.1 ∷ [])) in
        let g = same_from_push ps (b ++ y ∷ w.0) x w.1 f in
        let inside : (z : X) → In z w.0 ⊎ (z ≡ w.1) → In z a = λ z m. subst (In z) (sym w.2) ((push_in w.1 w.0 z).1 m) in
        inr ((b, w.0, g.0, λ z m. n z (inside z (inl m))), λ t. n x (inside x (inr g.1)) (sym t)))
  ]

  pub gathered_more : (ps xs ys : List X) (x : X) → Gathered key ps xs → Placed key xs x ys → Gathered key (ps ++ x ∷ []) ys
  gathered_more ps xs ys x g p = record { stands = λ h. (there h, back h); last = λ y. (is_last y, was_last y) }
    where
      there : (h : List ℕ) → Has key h ys → Has key h (ps ++ x ∷ [])
      there h (y, m, e) = elim ((p y).0 m) [
        | inl s ↦ (y, (push_in x ps y).1 (inr s), e)
        | inr k ↦ (let w = (g.stands h).0 (y, k.0, e) in (w.0, (push_in x ps w.0).1 (inl w.1), w.2))
      ]

      here : (h : List ℕ) → key x ≡ h → Has key h ys
      here h e = (x, (p x).1 (inl refl), e)

      kept : (h : List ℕ) → Has key h xs → Has key h ys
      kept h (y, m, e) = elim (same_or_not (key y) (key x))
          [ inl s ↦ here h (sym s ∙ e) | inr ne ↦ (y, (p y).1 (inr (m, ne)), e) ]

      back : (h : List ℕ) → Has key h (ps ++ x ∷ []) → Has key h ys
      back h (y, m, e) = elim ((push_in x ps y).0 m)
          [ inl k ↦ kept h ((g.stands h).1 (y, k, e)) | inr s ↦ here h (sym (ap key s) ∙ e) ]

      is_last : (y : X) → In y ys → Last key y (ps ++ x ∷ [])
      is_last y m = elim ((p y).0 m) [
        | inl s ↦ subst (λ (z : X). Last key z (ps ++ x ∷ [])) (sym s) (last_here x ps)
        | inr k ↦ last_on x ps y k.1 ((g.last y).0 k.0)
      ]

      was_last : (y : X) → Last key y (ps ++ x ∷ []) → In y ys
      was_last y w = elim (last_back x ps y w)
          [ inl s ↦ (p y).1 (inl s) | inr k ↦ (p y).1 (inr ((g.last y).1 k.0, k.1)) ]
