-- Rows that are arranged and then sorted mean what the tree means.
use Rattle.std.proofs.Common.{◌≡◌, ℕ, ◌≤◌, cond, List, [], ◌∷◌, map, sum_by, sym, refl, ap, ◌∙◌, subst, inl, inr, ⊎_elim, arith}
use Rattle.std.specs.List.{AllByRecursion, AllZip}
use Rattle.std.specs.List.Sorted.{IsPermutation}
use Rattle.std.proofs.ByRecursion.{All-map, all_shuffled}
use Rattle.std.proofs.lemmas.List.Sums.{sum_by-cons}
use Rattle.std.specs.Str.{bytes_eq}
use Rattle.std.proofs.lemmas.Slice.Eq.{bytes_eq-Decides}
use Rattle.std.proofs.lemmas.List.Sorted.{IsPermutation-map, IsPermutation-sym, sum_by-IsPermutation}
use Rattle.std.proofs.lemmas.Bool.{cond-true, cond-false, cases_Bool}
use Rattle.aterm.specs.Grammar.{Tree, Trees}
use Rattle.canonical.specs.Order.{Along, Under, Member, Same, Rising, Level, Different}
use Rattle.canonical.specs.Kinds.{Kind, text, entry, ordered, rising, Kinds, one, also, shape, shapes, Value, Values, key, tree_key, Means, MeansAll, Apart, AllApart, Tells, TellsAll, Arranges, ArrangesAll}
use Rattle.canonical.proofs.Orders.{trichotomy, same_or_not}
use Rattle.canonical.proofs.Members.{member_all, all_from_member}
use Rattle.canonical.proofs.Exist.{means_key, apart_each}

-- 1 where two strings are equal
abbrev eqs : List ℕ → List ℕ → ℕ
eqs a b = cond (bytes_eq a b) 1 0

eqs_same : (a b : List ℕ) → a ≡ b → eqs a b ≡ 1
eqs_same a b e = cond-true (bytes_eq a b) 1 0 ((bytes_eq-Decides a b).1 e)

eqs_other : (a b : List ℕ) → (a ≡ b → ⊥) → eqs a b ≡ 0
eqs_other a b n = cond-false (bytes_eq a b) 1 0 (elim (cases_Bool (bytes_eq a b)) [ inl e ↦ absurd (n ((bytes_eq-Decides a b).0 e)) | inr e ↦ e ])

module _ {X : Type 0} (key : X → List ℕ) where
  -- how many rows have the key
  abbrev many : List ℕ → List X → ℕ
  many s xs = sum_by (λ x. eqs s (key x)) xs

  many_none : (s : List ℕ) (xs : List X) → AllByRecursion (λ y. s ≡ key y → ⊥) xs → many s xs ≡ 0
  many_none s [] a = refl
  many_none s (x ∷ xs) a =
      let c = sum_by-cons (λ y. eqs s (key y)) x xs in
      let e = eqs_other s (key x) a.0 in
      let h = many_none s xs a.1 in
      omega arith

  many_one : (s : List ℕ) (xs : List X) → Different key xs → many s xs ≤ 1
  many_one s [] d = omega arith
  many_one s (x ∷ xs) d =
      let c = sum_by-cons (λ y. eqs s (key y)) x xs in
      ⊎_elim
      (λ e. let f = eqs_same s (key x) e in let h = many_none s xs (subst (λ (v : List ℕ). AllByRecursion (λ y. v ≡ key y → ⊥) xs) (sym e) d.0) in omega arith)
      (λ n. let f = eqs_other s (key x) n in let h = many_one s xs d.1 in omega arith)
      (same_or_not s (key x))

  many_some : (s : List ℕ) (xs : List X) (y : X) → Member y xs → s ≡ key y → 1 ≤ many s xs
  many_some s [] y m e = absurd m
  many_some s (x ∷ xs) y (inl f) e =
      let c = sum_by-cons (λ z. eqs s (key z)) x xs in
      let g = eqs_same s (key x) (e ∙ ap key f) in
      omega arith
  many_some s (x ∷ xs) y (inr m) e =
      let c = sum_by-cons (λ z. eqs s (key z)) x xs in
      let h = many_some s xs y m e in
      omega arith

  -- rows that do not fall, no two with one key, rise
  rises : (xs : List X) → Level key xs → ((s : List ℕ) → many s xs ≤ 1) → Rising key xs
  rises [] l h = tt
  rises (x ∷ xs) l h = (
    all_from_member (λ y. Under (key x) (key y)) xs (λ y m.
        ⊎_elim (λ u. u)
        (λ r. ⊎_elim
        (λ e. absurd (let a = h (key x) in let b = many_some (key x) xs y m e in let c = sum_by-cons (λ z. eqs (key x) (key z)) x xs in let d = eqs_same (key x) (key x) refl in omega arith))
        (λ u. absurd (member_all (λ z. Under (key z) (key x) → ⊥) xs y l.0 m u))
        r)
        (trichotomy (key x) (key y))),
    rises xs l.1 (λ s. let a = h s in let c = sum_by-cons (λ z. eqs s (key z)) x xs in omega arith),
  )

  pub rises_sorted : (ws us : List X) → Different key ws → IsPermutation ws us → Level key us → Rising key us
  rises_sorted ws us d s l = rises us l (λ v. let a = many_one v ws d in let b = sum_by-IsPermutation (λ z. eqs v (key z)) ws us s in omega arith)

module _ {X Y : Type 0} (f : X → Y) where
  module _ (key : Y → List ℕ) where
    level_map : (xs : List X) → Level (λ x. key (f x)) xs → Level key (map f xs)
    level_map [] r = tt
    level_map (x ∷ xs) r = (All-map (λ y. Under (key y) (key (f x)) → ⊥) f xs r.0, level_map xs r.1)

one_way : {X : Type 0} (xs ys : List X) → IsPermutation xs ys → (y : X) → Member y ys → Member y xs
one_way xs ys s y m = member_all (λ z. Member z xs) ys y (all_shuffled (λ z. Member z xs) xs ys s (all_from_member (λ z. Member z xs) xs (λ z i. i))) m

same_shuffled : {X : Type 0} (xs ys : List X) → IsPermutation xs ys → Same xs ys
same_shuffled xs ys s = record { there = one_way ys xs (IsPermutation-sym xs ys s); back = one_way xs ys s }

-- a row, and the row in its place
module _ (k : Kind) {X : Type 0} (f : X → Value k) where
  abbrev pub Moves : X → X → Type 0
  Moves v w = Arranges k (f v) (f w)

  along_map : (vs ws : List X) → Along Moves vs ws → Along (Arranges k) (map f vs) (map f ws)
  along_map [] [] e = tt
  along_map [] (w ∷ ws) e = absurd e
  along_map (v ∷ vs) [] e = absurd e
  along_map (v ∷ vs) (w ∷ ws) e = (e.0, along_map vs ws e.1)

  pub arranged_rows : (n : ℕ) (vs ws us : List X) → Along Moves vs ws → IsPermutation ws us → Level (λ v. key k (f v)) us → Arranges (rising n k) (map f vs) (map f us)
  arranged_rows n vs ws us e s l = (map f ws, (along_map vs ws e, (IsPermutation-map f ws us s, level_map f (key k) us l)))

-- rows that lie beside each other
pub along_zip : {X Y : Type 0} (R A : X → Y → Type 0) → ((x : X) (y : Y) → R x y → A x y) → (xs : List X) (ys : List Y) → AllZip R xs ys → Along A xs ys
along_zip R A h [] [] z = tt
along_zip R A h [] (y ∷ ys) z = absurd z
along_zip R A h (x ∷ xs) [] z = absurd z
along_zip R A h (x ∷ xs) (y ∷ ys) z = (h x y z.0, along_zip R A h xs ys z.1)

pub along_same : (vs : List (List ℕ)) → Along (Arranges text) vs vs
along_same [] = tt
along_same (v ∷ vs) = (refl, along_same vs)

module _ {T V : Type 0} (A : T → Type 0) where
  pub along_settles : {U : Type 0} (S : T → U → Type 0) (M : U → V → Type 0) (R : T → V → Type 0) → ((t : T) (u : U) (v : V) → A t → S t u → M u v → R t v)
      → (ts : List T) (us : List U) (vs : List V) → AllByRecursion A ts → Along S ts us → Along M us vs → Along R ts vs
  along_settles S M R h [] [] [] a p q = tt
  along_settles S M R h [] [] (v ∷ vs) a p q = absurd q
  along_settles S M R h [] (u ∷ us) vs a p q = absurd p
  along_settles S M R h (t ∷ ts) [] vs a p q = absurd p
  along_settles S M R h (t ∷ ts) (u ∷ us) [] a p q = absurd q
  along_settles S M R h (t ∷ ts) (u ∷ us) (v ∷ vs) a p q = (h t u v a.0 p.0 q.0, along_settles S M R h ts us vs a.1 p.1 q.1)

-- what a tree with different keys says, once sorted, is what it means
mutual
  pub settles : (k : Kind) (t : Tree (shape k)) (v w : Value k) → Apart k t → Tells k t v → Arranges k v w → Means k t w
  settles text t v w a p q = q ∙ p
  settles (entry ks) t v w a p q = settles_all ks t v w a p q
  settles (ordered n k) t v w a p q = along_settles (Apart k) (Tells k) (Arranges k) (Means k) (settles k) t v w a p q
  settles (rising n k) t v w a p q =
      let us = q.0 in
      let s = q.1.1.0 in
      let m = along_settles (Apart k) (Tells k) (Arranges k) (Means k) (settles k) t v us a.1 p q.1.0 in
      let d = apart_each (Means k) (tree_key k) (key k) (means_key k) t us m a.0 in
      (us, (m, record { same = same_shuffled us w s; rises = rises_sorted (key k) us w d s q.1.1.1 }))

  settles_all : (ks : Kinds) (t : Trees (shapes ks)) (v w : Values ks) → AllApart ks t → TellsAll ks t v → ArrangesAll ks v w → MeansAll ks t w
  settles_all (one k) t v w a p q = settles k t v w a p q
  settles_all (also k ks) t v w a p q = (settles k t.0 v.0 w.0 a.0 p.0 q.0, settles_all ks t.1 v.1 w.1 a.1 p.1 q.1)
