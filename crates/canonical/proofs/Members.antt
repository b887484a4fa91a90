-- Lists with the same rows.
use Rattle.std.proofs.Common.{◌≡◌, ℕ, zero, suc, ◌+◌, ◌<◌, ◌≤◌, List, [], ◌∷◌, length, get_or, sym, refl, ap, ◌∙◌, subst, inl, inr, ⊎_elim, arith}
use Rattle.std.specs.List.{AllByRecursion}
use Rattle.canonical.specs.Order.{Under, Member, Same, Rising}
use Rattle.canonical.proofs.Orders.{under_not_self, under_trans}

pub member_all : {X : Type 0} (P : X → Type 0) (xs : List X) (x : X) → AllByRecursion P xs → Member x xs → P x
member_all P [] x a m = absurd m
member_all P (y ∷ xs) x a (inl e) = subst P (sym e) a.0
member_all P (y ∷ xs) x a (inr m) = member_all P xs x a.1 m

pub all_from_member : {X : Type 0} (P : X → Type 0) (xs : List X) → ((x : X) → Member x xs → P x) → AllByRecursion P xs
all_from_member P [] h = tt
all_from_member P (x ∷ xs) h = (h x (inl refl), all_from_member P xs (λ y m. h y (inr m)))

pub member_at : {X : Type 0} (xs : List X) (i : ℕ) (d : X) → i < length xs → Member (get_or xs i d) xs
member_at [] i d h = absurd (omega arith)
member_at (x ∷ xs) zero d h = inl refl
member_at (x ∷ xs) (suc i) d h = inr (member_at xs i d (omega arith))

pub place_of : {X : Type 0} (xs : List X) (d x : X) → Member x xs → (i : ℕ) × (i < length xs) × (get_or xs i d ≡ x)
place_of [] d x m = absurd m
place_of (y ∷ xs) d x (inl e) = (0, omega arith, sym e)
place_of (y ∷ xs) d x (inr m) = let w = place_of xs d x m in (suc w.0, omega (arith, w.1), w.2)

pub same_refl : {X : Type 0} (xs : List X) → Same xs xs
same_refl xs = record { there = λ x m. m; back = λ x m. m }

pub same_sym : {X : Type 0} {xs ys : List X} → Same xs ys → Same ys xs
same_sym s = record { there = s.back; back = s.there }

pub same_trans : {X : Type 0} {xs ys zs : List X} → Same xs ys → Same ys zs → Same xs zs
same_trans s t = record { there = λ x m. t.there x (s.there x m); back = λ x m. s.back x (t.back x m) }

module _ {X : Type 0} (key : X → List ℕ) where
  -- a row is not among those after it
  not_later : (x : X) (xs : List X) → AllByRecursion (λ y. Under (key x) (key y)) xs → (z : X) → z ≡ x → Member z xs → ⊥
  not_later x xs a z e m = under_not_self (key x) (subst (λ (v : X). Under (key x) (key v)) e (member_all (λ y. Under (key x) (key y)) xs z a m))

  first : (x y : X) (xs ys : List X) → Rising key (x ∷ xs) → Rising key (y ∷ ys) → Same (x ∷ xs) (y ∷ ys) → x ≡ y
  first x y xs ys r s h =
      ⊎_elim (λ e. e)
      (λ m. ⊎_elim sym
      (λ n. absurd (under_not_self (key x) (under_trans (key x) (key y) (key x) (member_all (λ v. Under (key x) (key v)) xs y r.0 n) (member_all (λ v. Under (key y) (key v)) ys x s.0 m))))
      (h.back y (inl refl)))
      (h.there x (inl refl))

  rest : (x y : X) (xs ys : List X) → x ≡ y → Rising key (x ∷ xs) → Same (x ∷ xs) (y ∷ ys) → (z : X) → Member z xs → Member z ys
  rest x y xs ys e r h z m = ⊎_elim (λ f. absurd (not_later x xs r.0 z (f ∙ sym e) m)) (λ n. n) (h.there z (inr m))

  -- a rising list is told by its rows
  pub one_rising : (xs ys : List X) → Rising key xs → Rising key ys → Same xs ys → xs ≡ ys
  one_rising [] [] r s h = refl
  one_rising [] (y ∷ ys) r s h = absurd (h.back y (inl refl))
  one_rising (x ∷ xs) [] r s h = absurd (h.there x (inl refl))
  one_rising (x ∷ xs) (y ∷ ys) r s h =
      let e = first x y xs ys r s h in
      let tails : Same xs ys = record { there = rest x y xs ys e r h; back = rest y x ys xs (sym e) s (same_sym h) } in
      let f = one_rising xs ys r.1 s.1 tails in
      λ i. e i ∷ f i

-- a sum over a list
abbrev pub total : {X : Type 0} → (X → ℕ) → List X → ℕ
total f [] = 0
total f (x ∷ xs) = f x + total f xs

without : {X : Type 0} (x : X) (xs : List X) → Member x xs → List X
without x [] m = absurd m
without x (y ∷ xs) (inl e) = xs
without x (y ∷ xs) (inr m) = y ∷ without x xs m

total_without : {X : Type 0} (f : X → ℕ) (x : X) (xs : List X) (m : Member x xs) → total f xs ≡ f x + total f (without x xs m)
unfolding without
total_without f x [] m = absurd m
total_without f x (y ∷ xs) (inl e) = ap (λ (v : _). f v + total f xs) (sym e)
total_without f x (y ∷ xs) (inr m) = let h = total_without f x xs m in omega arith

member_without : {X : Type 0} (x : X) (xs : List X) (m : Member x xs) (z : X) → Member z xs → (z ≡ x → ⊥) → Member z (without x xs m)
unfolding without
member_without x [] m z n bar = absurd m
member_without x (y ∷ xs) (inl e) z (inl f) bar = absurd (bar (f ∙ sym e))
member_without x (y ∷ xs) (inl e) z (inr n) bar = n
member_without x (y ∷ xs) (inr m) z (inl f) bar = inl f
member_without x (y ∷ xs) (inr m) z (inr n) bar = inr (member_without x xs m z n bar)

pub total_rising : {X : Type 0} (key : X → List ℕ) (f : X → ℕ) (vs ws : List X) → Rising key vs → ((x : X) → Member x vs → Member x ws) → total f vs ≤ total f ws
total_rising key f [] ws r h = omega arith
total_rising key f (v ∷ vs) ws r h =
    let m = h v (inl refl) in
    let one = total_without f v ws m in
    let more = total_rising key f vs (without v ws m) r.1 (λ x n. member_without v ws m x (h x (inr n)) (λ e. not_later key v vs r.0 x e n)) in
    omega arith

pub total_ones : {X : Type 0} (xs : List X) → total (λ _. 1) xs ≡ length xs
total_ones [] = refl
total_ones (x ∷ xs) = let h = total_ones xs in omega arith
