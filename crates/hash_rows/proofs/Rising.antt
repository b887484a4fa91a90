-- What a row put into rising rows leaves.
use Rattle.std.proofs.Common.{◌≡◌, ℕ, zero, suc, ◌<◌, ◌⊎◌, List, [], ◌∷◌, length, get_or, set, sym, refl, ap, ◌∙◌, subst, inl, inr, arith}
use Rattle.std.specs.List.{insert}
use Rattle.canonical.specs.Order.{Under}
use Rattle.canonical.proofs.Members.{member_all}
use Rattle.canonical.proofs.Orders.{under_trans}
use Rattle.hash_rows.proofs.Orders.{before_not_same, test_before, before_test}
use Rattle.hash_rows.specs.Keyed.{In, Iff, Above, Rising, key_at, Free, Rises, Placed}

module _ {X : Type 0} (key : X → List ℕ) (none : X) where
  above_trans : (g h : List ℕ) (xs : List X) → Under g h → Above key h xs → Above key g xs
  above_trans g h [] b a = tt
  above_trans g h (x ∷ xs) b a = (under_trans g h (key x) b a.0, above_trans g h xs b a.1)

  pub above_in : (h : List ℕ) (xs : List X) → Above key h xs → (y : X) → In y xs → Under h (key y)
  above_in h xs a y i = member_all (λ x. Under h (key x)) xs y a i

  -- a free place: h stands before all that is there
  free_first : (h : List ℕ) (xs : List X) → Rising key xs → Free key none xs h 0 → Above key h xs
  free_first h [] r f = tt
  free_first h (x ∷ xs) r f = let b : Under h (key x) = f.higher (omega arith) in (b, above_trans h (key x) xs b r.0)

  free_less : (h : List ℕ) (x : X) (xs : List X) (i : ℕ) → Free key none (x ∷ xs) h (suc i) → Free key none xs h i
  free_less h x xs i f = record {
    within = omega (arith, f.within);
    lower = λ k l. f.lower (suc k) (omega arith);
    higher = λ l. f.higher (omega arith);
  }

  -- into a free place
  above_inserted : (h : List ℕ) (x : X) (xs : List X) (i : ℕ) → Above key h xs → Under h (key x) → Above key h (insert xs i x)
  above_inserted h x xs zero a b = (b, a)
  above_inserted h x [] (suc i) a b = (b, tt)
  above_inserted h x (y ∷ xs) (suc i) a b = (a.0, above_inserted h x xs i a.1 b)

  pub rising_inserted : (x : X) (xs : List X) (i : ℕ) → Rising key xs → Free key none xs (key x) i → Rising key (insert xs i x)
  rising_inserted x xs zero r f = (free_first (key x) xs r f, r)
  rising_inserted x [] (suc i) r f = absurd (omega (arith, f.within))
  rising_inserted x (y ∷ xs) (suc i) r f =
      (above_inserted (key y) x xs i r.0 (f.lower 0 (omega arith)), rising_inserted x xs i r.1 (free_less (key x) y xs i f))

  free_apart : (h : List ℕ) (xs : List X) (i : ℕ) → Rising key xs → Free key none xs h i → (y : X) → In y xs → key y ≡ h → ⊥
  free_apart h xs zero r f y m e = before_not_same h (key y) (above_in h xs (free_first h xs r f) y m) (sym e)
  free_apart h [] (suc i) r f y m e = absurd m
  free_apart h (x ∷ xs) (suc i) r f y (inl s) e = before_not_same (key x) h (f.lower 0 (omega arith)) (sym (ap key s) ∙ e)
  free_apart h (x ∷ xs) (suc i) r f y (inr m) e = free_apart h xs i r.1 (free_less h x xs i f) y m e

  in_more : (x z : X) (xs ys : List X) (y : X) → Iff (In y ys) ((y ≡ x) ⊎ In y xs) → Iff (In y (z ∷ ys)) ((y ≡ x) ⊎ In y (z ∷ xs))
  in_more x z xs ys y rest = (there, back)
    where
      there : In y (z ∷ ys) → (y ≡ x) ⊎ In y (z ∷ xs)
      there (inl e) = inr (inl e)
      there (inr m) = elim (rest.0 m) [ inl e ↦ inl e | inr k ↦ inr (inr k) ]

      back : (y ≡ x) ⊎ In y (z ∷ xs) → In y (z ∷ ys)
      back (inl e) = inr (rest.1 (inl e))
      back (inr (inl e)) = inl e
      back (inr (inr m)) = inr (rest.1 (inr m))

  in_inserted : (x : X) (xs : List X) (i : ℕ) (y : X) → Iff (In y (insert xs i x)) ((y ≡ x) ⊎ In y xs)
  in_inserted x xs zero y = (λ m. m, λ m. m)
  in_inserted x [] (suc i) y = (λ m. m, λ m. m)
  in_inserted x (z ∷ xs) (suc i) y = in_more x z xs (insert xs i x) y (in_inserted x xs i y)

  pub placed_inserted : (x : X) (xs : List X) (i : ℕ) → Rising key xs → Free key none xs (key x) i → Placed key xs x (insert xs i x)
  placed_inserted x xs i r f y = (
    λ m. elim ((in_inserted x xs i y).0 m) [ inl e ↦ inl e | inr k ↦ inr (k, free_apart (key x) xs i r f y k) ],
    λ m. (in_inserted x xs i y).1 (elim m [ inl e ↦ inl e | inr k ↦ inr k.0 ]),
  )

  -- over the row of the same hash
  above_set : (h : List ℕ) (x : X) (xs : List X) (i : ℕ) → Above key h xs → i < length xs → key_at key none xs i ≡ key x → Above key h (set xs i x)
  above_set h x [] i a l e = tt
  above_set h x (y ∷ xs) zero a l e = (subst (Under h) e a.0, a.1)
  above_set h x (y ∷ xs) (suc i) a l e = (a.0, above_set h x xs i a.1 (omega arith) e)

  pub rising_set : (x : X) (xs : List X) (i : ℕ) → Rising key xs → i < length xs → key_at key none xs i ≡ key x → Rising key (set xs i x)
  rising_set x [] i r l e = tt
  rising_set x (y ∷ xs) zero r l e = (subst (λ (h : List ℕ). Above key h xs) e r.0, r.1)
  rising_set x (y ∷ xs) (suc i) r l e = (above_set (key y) x xs i r.0 (omega arith) e, rising_set x xs i r.1 (omega arith) e)

  at_in : (xs : List X) (i : ℕ) → i < length xs → In (get_or xs i none) xs
  at_in [] i l = absurd (omega arith)
  at_in (x ∷ xs) zero l = inl refl
  at_in (x ∷ xs) (suc i) l = inr (at_in xs i (omega arith))

  placed_first : (x z : X) (xs : List X) → Rising key (z ∷ xs) → key z ≡ key x → Placed key (z ∷ xs) x (x ∷ xs)
  placed_first x z xs r e y = (there, back)
    where
      there : In y (x ∷ xs) → (y ≡ x) ⊎ (In y (z ∷ xs) × (key y ≡ key x → ⊥))
      there (inl a) = inl a
      there (inr m) = inr (inr m, λ s. before_not_same (key z) (key y) (above_in (key z) xs r.0 y m) (e ∙ sym s))

      back : (y ≡ x) ⊎ (In y (z ∷ xs) × (key y ≡ key x → ⊥)) → In y (x ∷ xs)
      back (inl a) = inl a
      back (inr (inl a, n)) = absurd (n (ap key a ∙ e))
      back (inr (inr m, n)) = inr m

  placed_more : (x z : X) (xs ys : List X) → (key z ≡ key x → ⊥) → Placed key xs x ys → Placed key (z ∷ xs) x (z ∷ ys)
  placed_more x z xs ys apart rest y = (there, back)
    where
      there : In y (z ∷ ys) → (y ≡ x) ⊎ (In y (z ∷ xs) × (key y ≡ key x → ⊥))
      there (inl a) = inr (inl a, λ s. apart (sym (ap key a) ∙ s))
      there (inr m) = elim ((rest y).0 m) [ inl a ↦ inl a | inr k ↦ inr (inr k.0, k.1) ]

      back : (y ≡ x) ⊎ (In y (z ∷ xs) × (key y ≡ key x → ⊥)) → In y (z ∷ ys)
      back (inl a) = inr ((rest y).1 (inl a))
      back (inr (inl a, n)) = inl a
      back (inr (inr m, n)) = inr ((rest y).1 (inr (m, n)))

  pub placed_set : (x : X) (xs : List X) (i : ℕ) → Rising key xs → i < length xs → key_at key none xs i ≡ key x → Placed key xs x (set xs i x)
  placed_set x [] i r l e = absurd (omega arith)
  placed_set x (z ∷ xs) zero r l e = placed_first x z xs r e
  placed_set x (z ∷ xs) (suc i) r l e = placed_more x z xs (set xs i x)
      (λ s. before_not_same (key z) (key_at key none xs i) (above_in (key z) xs r.0 (get_or xs i none) (at_in xs i (omega arith))) (s ∙ sym e))
      (placed_set x xs i r.1 (omega arith) e)

  -- the same of neighbours, by the test
  pub rises_rising : (xs : List X) → Rises key none xs → Rising key xs
  rises_rising [] r = tt
  rises_rising (x ∷ []) r = (tt, tt)
  rises_rising (x ∷ y ∷ xs) r =
      let rest : Rising key (y ∷ xs) = rises_rising (y ∷ xs) (λ i l. r (suc i) (omega arith)) in
      let b : Under (key x) (key y) = test_before (key x) (key y) (r 0 (omega arith)) in
      ((b, above_trans (key x) (key y) xs b rest.0), rest)

  pub rising_rises : (xs : List X) → Rising key xs → Rises key none xs
  rising_rises [] r i l = absurd (omega arith)
  rising_rises (x ∷ []) r i l = absurd (omega arith)
  rising_rises (x ∷ y ∷ xs) r zero l = before_test (key x) (key y) r.0.0
  rising_rises (x ∷ y ∷ xs) r (suc i) l = rising_rises (y ∷ xs) r.1 i (omega arith)
