use Rattle.std.proofs.Common.{◌≡◌, ℕ, ◌⊎◌, List, [], ◌∷◌, ◌++◌, sym, refl, ap, ◌∙◌, subst, inl, inr}
use Rattle.canonical.specs.Order.{Under}
use Rattle.hash_rows.specs.Keyed.{In, Last}
use Rattle.hash_rows.specs.Rows.{key, no_row, Rising}
use Rattle.hash_rows.specs.Seen.{held}
use Rattle.hash_rows.specs.Laws.{RowsOrdered, Climbing, GreatestStands}
use Rattle.hash_rows.specs.declared.hash.HashRow.{HashRow}
use Rattle.hash_rows.proofs.Orders.{before_not_same}
use Rattle.hash_rows.proofs.Rising.{above_in, rises_rising}

once : (xs : List HashRow) → Rising xs → (x y : HashRow) → In x xs → In y xs → key x ≡ key y → x ≡ y
once [] r x y i j e = absurd i
once (z ∷ xs) r x y (inl a) (inl b) e = a ∙ sym b
once (z ∷ xs) r x y (inl a) (inr j) e = absurd (before_not_same (key z) (key y) (above_in key no_row (key z) xs r.0 y j) (sym (ap key a) ∙ e))
once (z ∷ xs) r x y (inr i) (inl b) e = absurd (before_not_same (key z) (key x) (above_in key no_row (key z) xs r.0 x i) (sym (e ∙ ap key b)))
once (z ∷ xs) r x y (inr i) (inr j) e = once xs r.1 x y i j e

pub rows_ordered : RowsOrdered
rows_ordered t = record {
  few = t.few;
  rising = rises_rising key no_row (held t) t.rising;
  once = once (held t) (rises_rising key no_row (held t) t.rising);
}

greatest : (path : HashRow → List ℕ) (b : List HashRow) (x : HashRow) (a : List HashRow) → Climbing path (b ++ x ∷ a)
    → ((y : HashRow) → In y a → key y ≡ key x → ⊥) → (y : HashRow) → In y (b ++ x ∷ a) → key y ≡ key x → (y ≡ x) ⊎ Under (path y) (path x)
greatest path [] x a c n y (inl e) s = inl e
greatest path [] x a c n y (inr i) s = absurd (n y i s)
greatest path (z ∷ b) x a c n y (inr i) s = greatest path b x a c.1 n y i s
greatest path (z ∷ b) x a c n y (inl e) s = inr (subst (λ (w : HashRow). Under (path w) (path x)) (sym e) (c.0 x (inside b)))
  where
    inside : (b : List HashRow) → In x (b ++ x ∷ a)
    inside [] = inl refl
    inside (w ∷ b) = inr (inside b)

pub greatest_stands : GreatestStands
greatest_stands path ps xs c g x y i j s = from ((g.last x).0 i)
  where
    from : Last key x ps → (y ≡ x) ⊎ Under (path y) (path x)
    from (b, a, e, n) = greatest path b x a (subst (Climbing path) e c) n y (subst (In y) e j) s
