-- Rows by property: there are some, and only one list of them.
use Rattle.std.proofs.Common.{◌≡◌, ℕ, zero, suc, ◌<◌, ◌⊎◌, List, [], ◌∷◌, ◌++◌, length, set, sym, subst, inl, inr, arith}
use Rattle.std.proofs.lemmas.List.{append_assoc, append-nil}
use Rattle.std.specs.List.{insert}
use Rattle.canonical.specs.Order.{Under}
use Rattle.canonical.proofs.Members.{one_rising}
use Rattle.canonical.proofs.Orders.{trichotomy}
use Rattle.hash_rows.proofs.Rising.{rising_inserted, placed_inserted, rising_set, placed_set}
use Rattle.hash_rows.proofs.Gathering.{gathered_none, gathered_more}
use Rattle.hash_rows.specs.Keyed.{Rising, key_at, Free, Placed, Gathered, Fixed}

module _ {X : Type 0} (key : X → List ℕ) (none : X) where
  -- a hash stands at some place, or some place is free for it
  abbrev Spot : List ℕ → List X → Type 0
  Spot h xs = ((i : ℕ) × (i < length xs) × (key_at key none xs i ≡ h)) ⊎ ((i : ℕ) × Free key none xs h i)

  spot_more : (h : List ℕ) (y : X) (xs : List X) → Under h (key y) ⊎ ((h ≡ key y) ⊎ Under (key y) h) → Spot h xs → Spot h (y ∷ xs)
  spot_more h y xs (inl b) w = inr (0, record { within = omega arith; lower = λ k l. absurd (omega arith); higher = λ l. b })
  spot_more h y xs (inr (inl e)) w = inl (0, omega arith, sym e)
  spot_more h y xs (inr (inr b)) (inl (i, l, e)) = inl (suc i, omega arith, e)
  spot_more h y xs (inr (inr b)) (inr (i, f)) = inr (
    suc i,
    record {
      within = omega (arith, f.within);
      lower = lower;
      higher = λ l. f.higher (omega arith);
    },
  )
    where
      lower : (k : ℕ) → k < suc i → Under (key_at key none (y ∷ xs) k) h
      lower zero l = b
      lower (suc k) l = f.lower k (omega arith)

  spot : (h : List ℕ) (xs : List X) → Spot h xs
  spot h [] = inr (0, record { within = omega arith; lower = λ k l. absurd (omega arith); higher = λ l. absurd (omega arith) })
  spot h (y ∷ xs) = spot_more h y xs (trichotomy h (key y)) (spot h xs)

  placed : (x : X) (xs : List X) → Rising key xs → (ys : List X) × Rising key ys × Placed key xs x ys
  placed x xs r = elim (spot (key x) xs) [
    | inl w ↦ (set xs w.0 x, rising_set key none x xs w.0 r w.1 w.2, placed_set key none x xs w.0 r w.1 w.2)
    | inr w ↦ (insert xs w.0 x, rising_inserted key none x xs w.0 r w.1, placed_inserted key none x xs w.0 r w.1)
  ]

  from : (ps qs xs : List X) → Rising key xs → Gathered key qs xs → (ys : List X) × Rising key ys × Gathered key (qs ++ ps) ys
  from [] qs xs r g = (xs, r, subst (λ (z : List X). Gathered key z xs) (sym (append-nil qs)) g)
  from (p ∷ ps) qs xs r g =
      let w = placed p xs r in
      let z = from ps (qs ++ p ∷ []) w.0 w.1 (gathered_more key qs xs w.0 p g w.2) in
      (z.0, z.1, subst (λ (q : List X). Gathered key q z.0) (append_assoc qs (p ∷ []) ps) z.2)

  pub rows_fixed : (ps : List X) → Fixed key ps
  rows_fixed ps = record {
    some = from ps [] [] tt (gathered_none key);
    one = λ xs ys r s g h. one_rising key xs ys r s (record { there = λ z i. (h.last z).1 ((g.last z).0 i); back = λ z i. (g.last z).1 ((h.last z).0 i) });
  }
