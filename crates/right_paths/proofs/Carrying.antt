-- Rising rows, and the last row of each key, seen through a function that keeps the order of keys.
use Rattle.std.proofs.Common.{◌≡◌, ℕ, List, [], ◌∷◌, ◌++◌, map, sym, refl, ap, ◌∙◌, subst, inl, inr, arith}
use Rattle.std.proofs.lemmas.List.{map-append}
use Rattle.canonical.specs.Order.{Under}
use Rattle.hash_rows.specs.Keyed.{In, Above, Rising, Has, Last, Gathered}

module _ {X Y : Type 0} (f : X → Y) where
  in_there : (x : X) (xs : List X) → In x xs → In (f x) (map f xs)
  in_there x [] m = absurd m
  in_there x (z ∷ xs) (inl e) = inl (ap f e)
  in_there x (z ∷ xs) (inr m) = inr (in_there x xs m)

  -- what stands among the images is one of them
  in_back : (y : Y) (xs : List X) → In y (map f xs) → (x : X) × In x xs × (y ≡ f x)
  in_back y [] m = absurd m
  in_back y (z ∷ xs) (inl e) = (z, inl refl, e)
  in_back y (z ∷ xs) (inr m) = let w = in_back y xs m in (w.0, inr w.1, w.2)

  -- the images fall into parts as the list does
  parts : (xs : List X) (b : List Y) (y : Y) (a : List Y) → map f xs ≡ b ++ y ∷ a
      → (p : List X) × (x : X) × (q : List X) × (xs ≡ p ++ x ∷ q) × (y ≡ f x) × (a ≡ map f q)
  parts [] [] y a e = let z : ◌≡◌ {A = ℕ} 0 1 = cc in absurd (omega arith)
  parts [] (z ∷ b) y a e = let c : ◌≡◌ {A = ℕ} 0 1 = cc in absurd (omega arith)
  parts (x ∷ xs) [] y a e = ([], x, xs, refl, cc, cc)
  parts (x ∷ xs) (z ∷ b) y a e =
      let w = parts xs b y a (cc) in
      (x ∷ w.0, w.1, w.2, ap (λ (v : List X). x ∷ v) w.3, w.4, w.5)

  module _ (key : X → List ℕ) (key' : Y → List ℕ) (keeps : (x z : X) → Under (key x) (key z) → Under (key' (f x)) (key' (f z))) where
    above_there : (x : X) (xs : List X) → Above key (key x) xs → Above key' (key' (f x)) (map f xs)
    above_there x [] a = tt
    above_there x (z ∷ xs) a = (keeps x z a.0, above_there x xs a.1)

    pub rising_there : (xs : List X) → Rising key xs → Rising key' (map f xs)
    rising_there [] r = tt
    rising_there (x ∷ xs) r = (above_there x xs r.0, rising_there xs r.1)

  module _ (key : X → List ℕ) (key' : Y → List ℕ) (same : (x z : X) → key x ≡ key z → key' (f x) ≡ key' (f z)) (apart : (x z : X) → key' (f x) ≡ key' (f z) → key x ≡ key z) where
    has_there : (h : List ℕ) (xs ps : List X) → ((k : List ℕ) → Has key k xs → Has key k ps) → Has key' h (map f xs) → Has key' h (map f ps)
    has_there h xs ps on (y, m, e) =
        let w = in_back y xs m in
        let v = on (key w.0) (w.0, w.1, refl) in
        (f v.0, in_there v.0 ps v.1, same v.0 w.0 v.2 ∙ sym (ap key' w.2) ∙ e)

    last_there : (x : X) (ps : List X) → Last key x ps → Last key' (f x) (map f ps)
    last_there x ps (b, a, e, n) = (
      map f b,
      map f a,
      ap (map f) e ∙ map-append f b (x ∷ a),
      λ z m s. let w = in_back z a m in n w.0 w.1 (apart w.0 x (sym (ap key' w.2) ∙ s)),
    )

    last_back : (y : Y) (ps : List X) → Last key' y (map f ps) → (x : X) × Last key x ps × (y ≡ f x)
    last_back y ps (b, a, e, n) =
        let w = parts ps b y a e in (
          w.1,
          (w.0, w.2, w.3, λ z m s. n (f z) (subst (In (f z)) (sym w.5) (in_there z w.2 m)) (same z w.1 s ∙ sym (ap key' w.4))),
          w.4,
        )

    pub gathered_there : (ps xs : List X) → Gathered key ps xs → Gathered key' (map f ps) (map f xs)
    gathered_there ps xs g = record {
      stands = λ h. (has_there h xs ps (λ k. (g.stands k).0), has_there h ps xs (λ k. (g.stands k).1));
      last = λ y. (is_last y, was_last y);
    }
      where
        is_last : (y : Y) → In y (map f xs) → Last key' y (map f ps)
        is_last y m =
            let w = in_back y xs m in
            subst (λ (v : Y). Last key' v (map f ps)) (sym w.2) (last_there w.0 ps ((g.last w.0).0 w.1))

        was_last : (y : Y) → Last key' y (map f ps) → In y (map f xs)
        was_last y l =
            let w = last_back y ps l in
            subst (λ (v : Y). In v (map f xs)) (sym w.2) (in_there w.0 xs ((g.last w.0).1 w.1))
