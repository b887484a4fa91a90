-- Where a hash stands among rows, and what the table is after a change, either way.
use Rattle.std.proofs.Common.{◌≡◌, ℕ, suc, ◌+◌, ◌<◌, ◌≤◌, false, List, length, get_or, set, Result, Ok, Err, Ordering, Less, Equal, Greater, subst, inl, inr, arith}
use native.Mathlib.Numerals.{unary_clauses}
use Rattle.std.specs.Cmp.Lexicographic.{slice_cmp}
use Rattle.std.specs.List.{insert}
use Rattle.std.specs.List.Sorted.{IsSortedBy, IsSearchInRange, IsBinarySearchResult, IsNonDecreasingBy}
use Rattle.std.specs.Ordering.{nat_cmp, ordering_index}
use Rattle.std.proofs.lemmas.Bool.{cases_Bool}
use Rattle.std.proofs.lemmas.Cmp.{nat_list_cmp_total}
use Rattle.std.proofs.lemmas.List.{length-set, get_or_default}
use Rattle.std.proofs.lemmas.List.Edits.{length-insert}
use Rattle.std.proofs.lemmas.List.Sorted.{searchable_from_sorted}
use Rattle.canonical.specs.Order.{Under, Compared}
use Rattle.canonical.proofs.Orders.{under_not_self, under_trans, compared}
use Rattle.hash_rows.specs.declared.hash.HashRow.{HashRow}
use Rattle.hash_rows.specs.Order.{before}
use Rattle.hash_rows.specs.Rows.{key, no_row, key_at, Rising, Rises, Free, Found, Placed}
use Rattle.hash_rows.proofs.Orders.{test_before}
use Rattle.hash_rows.proofs.Rising.{rising_inserted, placed_inserted, rising_set, placed_set, rises_rising, rising_rises}

-- the order of a row's hash and another hash
abbrev pub beside : List ℕ → HashRow → Ordering
beside h x = slice_cmp nat_cmp (key x) h

turned : (a b : List ℕ) → Under a b → before b a ≡ false
turned a b u = elim (cases_Bool (before b a))
    [ inl e ↦ absurd (under_not_self a (under_trans a b a u (test_before b a e))) | inr e ↦ e ]

module _ (xs : List HashRow) (rises : Rises xs) where
  sorted : IsSortedBy (λ x y. before (key x) (key y)) xs
  sorted k d l m =
      let at : get_or xs k no_row ≡ get_or xs k d = get_or_default xs k no_row d (omega arith) in
      let next : get_or xs (k + 1) no_row ≡ get_or xs (k + 1) d = get_or_default xs (k + 1) no_row d m in
      let up : Under (key_at xs k) (key_at xs (suc k)) = test_before (key_at xs k) (key_at xs (suc k)) (rises k (omega arith)) in
      subst (λ (x : HashRow). before (key (get_or xs (k + 1) d)) (key x) ≡ false) at
      (subst (λ (x : HashRow). before (key x) (key_at xs k) ≡ false) next (simp unary_clauses (turned (key_at xs k) (key_at xs (suc k)) up)))

  searched : (h : List ℕ) → IsNonDecreasingBy (λ x. ordering_index (beside h x)) xs
  searched h = searchable_from_sorted nat_list_cmp_total key xs h sorted

  at : (h : List ℕ) (o : Ordering) (k : ℕ) → beside h (get_or xs k no_row) ≡ o → Compared (key_at xs k) h o
  at h o k e = subst (Compared (key_at xs k) h) e (compared (key_at xs k) h)

  pub found : (h : List ℕ) (r : Result ℕ ℕ) → IsSearchInRange r (length xs) → IsBinarySearchResult (beside h) xs r → Found xs h r
  found h (Ok i) l e = (l, at h Equal i (e no_row))
  found h (Err i) l p = record {
    within = l;
    lower = λ k m. at h Less k ((p (searched h)).0 k no_row (omega arith) m);
    higher = λ m. at h Greater i ((p (searched h)).1 i no_row (omega arith) m);
  }

-- ys hold the rows xs without x's hash, and x
pub record Changed (xs : List HashRow) (x : HashRow) (ys : List HashRow) : Type 0 where
  pub few : length ys ≤ 64
  pub rising : Rises ys
  pub placed : Placed xs x ys
  pub more : length ys ≤ length xs + 1

module _ (xs : List HashRow) (x : HashRow) (room : length xs < 64) (rises : Rises xs) where
  rising : Rising xs
  rising = rises_rising key no_row xs rises

  pub changed_set : (i : ℕ) → i < length xs → key_at xs i ≡ key x → Changed xs x (set xs i x)
  changed_set i l e = record {
    few = omega (arith, length-set xs i x);
    rising = rising_rises key no_row (set xs i x) (rising_set key no_row x xs i rising l e);
    placed = placed_set key no_row x xs i rising l e;
    more = omega (arith, length-set xs i x);
  }

  pub changed_inserted : (i : ℕ) → Free xs (key x) i → Changed xs x (insert xs i x)
  changed_inserted i f = record {
    few = omega (arith, length-insert xs i x f.within);
    rising = rising_rises key no_row (insert xs i x) (rising_inserted key no_row x xs i rising f);
    placed = placed_inserted key no_row x xs i rising f;
    more = omega (arith, length-insert xs i x f.within);
  }
