-- What the library's sort leaves, in the words of rows and their keys.
use Rattle.std.proofs.Common.{◌≡◌, ℕ, suc, ◌+◌, Bool, false, List, [], ◌∷◌, get_or, sym, ap, ◌∙◌, subst, Ordering, arith}
use mathlib.Core.Bool.{false≢true}
use Rattle.std.specs.Cmp.{IsStrictWeakOrder}
use Rattle.std.specs.Cmp.Lexicographic.{slice_cmp}
use Rattle.std.specs.List.Sorted.{IsSortedBy}
use Rattle.std.specs.Ordering.{nat_cmp, is_lt}
use Rattle.std.proofs.ByRecursion.{All-from_get_or}
use Rattle.std.proofs.lemmas.Cmp.{nat_list_cmp_total}
use Rattle.std.proofs.lemmas.List.Sorted.{ranks_by, sorted_far}
use Rattle.canonical.specs.Order.{Under, Compared, Level}
use Rattle.canonical.proofs.Orders.{compared_is, less_from_under}

-- what an answer says of the test
pub less_is : (a b : List ℕ) (r : Ordering) → Compared a b r → is_lt r ≡ is_lt (slice_cmp nat_cmp a b)
less_is a b r h = ap is_lt (compared_is a b r h)

module _ {X : Type 0} (key : X → List ℕ) where
  -- whether a row stands before another
  abbrev pub earlier : X → X → Bool
  earlier x y = is_lt (slice_cmp nat_cmp (key x) (key y))

  pub earlier_ranks : IsStrictWeakOrder earlier
  earlier_ranks = ranks_by nat_list_cmp_total key

  pub level_from_sorted : (xs : List X) → IsSortedBy earlier xs → Level key xs
  level_from_sorted [] s = tt
  level_from_sorted (x ∷ xs) s = (
    All-from_get_or (λ y. Under (key y) (key x) → ⊥) xs x (λ i l u.
        false≢true (sym (sorted_far earlier earlier_ranks (x ∷ xs) s 0 (suc i) x (omega arith) (omega arith)) ∙ less_from_under _ _ u)),
    level_from_sorted xs (λ k d l m.
        let e : suc k + 1 ≡ suc (k + 1) = omega arith in
        subst (λ (i : ℕ). earlier (get_or (x ∷ xs) i d) (get_or xs k d) ≡ false) e (s (suc k) d (omega arith) (omega arith))),
  )
