-- A tree has one meaning at most, and it is lawful.
use Rattle.std.proofs.Common.{◌≡◌, suc, List, [], ◌∷◌, length, sym, refl, ap, ◌∙◌, subst, arith}
use Rattle.std.specs.List.{AllByRecursion}
use Rattle.aterm.specs.Grammar.{Tree, Trees, Within, WithinAll, Every}
use Rattle.canonical.specs.Order.{Along, Same}
use Rattle.canonical.specs.Kinds.{Kind, text, entry, ordered, rising, Kinds, one, also, shape, shapes, Value, Values, key, Means, MeansAll, Lawful, AllLawful}
use Rattle.canonical.proofs.Members.{member_all, all_from_member, same_sym, same_trans, one_rising, total_rising, total_ones}

each_once : {T V : Type 0} (M : T → V → Type 0) → ((t : T) (v w : V) → M t v → M t w → v ≡ w) → (ts : List T) (vs ws : List V) → Along M ts vs → Along M ts ws → vs ≡ ws
each_once M h [] [] [] p q = refl
each_once M h [] [] (w ∷ ws) p q = absurd q
each_once M h [] (v ∷ vs) ws p q = absurd p
each_once M h (t ∷ ts) [] ws p q = absurd p
each_once M h (t ∷ ts) (v ∷ vs) [] p q = absurd q
each_once M h (t ∷ ts) (v ∷ vs) (w ∷ ws) p q =
    let e = h t v w p.0 q.0 in
    let f = each_once M h ts vs ws p.1 q.1 in
    λ i. e i ∷ f i

mutual
  pub means_once : (k : Kind) (t : Tree (shape k)) (v w : Value k) → Means k t v → Means k t w → v ≡ w
  means_once text t v w p q = p ∙ sym q
  means_once (entry ks) t v w p q = means_all_once ks t v w p q
  means_once (ordered n k) t v w p q = each_once (Means k) (means_once k) t v w p q
  means_once (rising n k) t v w p q =
      let e = each_once (Means k) (means_once k) t p.0 q.0 p.1.0 q.1.0 in
      let s : Same p.0 w = subst (λ (l : List (Value k)). Same l w) (sym e) q.1.1.same in
      one_rising (key k) v w p.1.1.rises q.1.1.rises (same_trans (same_sym p.1.1.same) s)

  pub means_all_once : (ks : Kinds) (t : Trees (shapes ks)) (v w : Values ks) → MeansAll ks t v → MeansAll ks t w → v ≡ w
  means_all_once (one k) t v w p q = means_once k t v w p q
  means_all_once (also k ks) t v w p q =
      let e = means_once k t.0 v.0 w.0 p.0 q.0 in
      let f = means_all_once ks t.1 v.1 w.1 p.1 q.1 in
      λ i. (e i, f i)

pub each_length : {T V : Type 0} (M : T → V → Type 0) (ts : List T) (vs : List V) → Along M ts vs → length vs ≡ length ts
each_length M [] [] p = refl
each_length M [] (v ∷ vs) p = absurd p
each_length M (t ∷ ts) [] p = absurd p
each_length M (t ∷ ts) (v ∷ vs) p = ap suc (each_length M ts vs p.1)

each_keeps : {T V : Type 0} (M : T → V → Type 0) (P : T → Type 0) (Q : V → Type 0) → ((t : T) (v : V) → P t → M t v → Q v) → (ts : List T) (vs : List V) → Every P ts → Along M ts vs → AllByRecursion Q vs
each_keeps M P Q h [] [] w p = tt
each_keeps M P Q h [] (v ∷ vs) w p = absurd p
each_keeps M P Q h (t ∷ ts) [] w p = absurd p
each_keeps M P Q h (t ∷ ts) (v ∷ vs) w p = (h t v w.0 p.0, each_keeps M P Q h ts vs w.1 p.1)

mutual
  pub keeps : (k : Kind) (t : Tree (shape k)) (v : Value k) → Within (shape k) t → Means k t v → Lawful k v
  keeps text t v w p = tt
  keeps (entry ks) t v w p = keeps_all ks t v w p
  keeps (ordered n k) t v w p =
      let l = each_length (Means k) t v p in
      (omega (arith, w.0), each_keeps (Means k) (Within (shape k)) (Lawful k) (keeps k) t v w.1 p)
  keeps (rising n k) t v w p =
      let l = each_length (Means k) t p.0 p.1.0 in
      let h = each_keeps (Means k) (Within (shape k)) (Lawful k) (keeps k) t p.0 w.1 p.1.0 in
      let s = p.1.1 in
      let m = total_rising (key k) (λ _. 1) v p.0 s.rises s.same.back in
      let a = total_ones v in
      let b = total_ones p.0 in
      (omega (arith, w.0), (all_from_member (Lawful k) v (λ x i. member_all (Lawful k) p.0 x h (s.same.back x i)), s.rises))

  pub keeps_all : (ks : Kinds) (t : Trees (shapes ks)) (v : Values ks) → WithinAll (shapes ks) t → MeansAll ks t v → AllLawful ks v
  keeps_all (one k) t v w p = keeps k t v w p
  keeps_all (also k ks) t v w p = (keeps k t.0 v.0 w.0 p.0, keeps_all ks t.1 v.1 w.1 p.1)
