-- A tree with different keys has a meaning.
use Rattle.std.proofs.Common.{◌≡◌, ℕ, List, [], ◌∷◌, sym, refl, ◌∙◌, subst, inl, inr, ⊎_elim}
use Rattle.std.specs.List.{AllByRecursion}
use Rattle.std.proofs.ByRecursion.{All-weaker}
use Rattle.aterm.specs.Grammar.{Tree, Trees, meaning}
use Rattle.canonical.specs.Order.{Along, Under, Member, Same, Rising, Different}
use Rattle.canonical.specs.Kinds.{Kind, text, entry, ordered, rising, Kinds, one, also, shape, shapes, Value, Values, key, keys, tree_key, tree_keys, Means, MeansAll, Apart, AllApart, Sorts}
use Rattle.canonical.proofs.Orders.{trichotomy, under_trans}
use Rattle.canonical.proofs.Members.{member_all, all_from_member, same_refl}

module _ {X : Type 0} (key : X → List ℕ) where
  abbrev Placed : X → List X → Type 0
  Placed x vs = (us : List X) × (Rising key us × Same (x ∷ vs) us)

  insert : (x : X) (vs : List X) → Rising key vs → AllByRecursion (λ y. key x ≡ key y → ⊥) vs → Placed x vs
  insert x [] r a = (x ∷ [], ((tt, tt), same_refl (x ∷ [])))
  insert x (v ∷ vs) r a =
      ⊎_elim
      (λ u. (x ∷ v ∷ vs, (((u, All-weaker (λ y. Under (key v) (key y)) (λ y. Under (key x) (key y)) (λ y w. under_trans (key x) (key v) (key y) u w) vs r.0), r), same_refl (x ∷ v ∷ vs))))
      (λ s. ⊎_elim
      (λ e. absurd (a.0 e))
      (λ u.
      let p = insert x vs r.1 a.1 in
      (v ∷ p.0, ((all_from_member (λ y. Under (key v) (key y)) p.0 (λ y m. above u y (p.1.1.back y m)), p.1.0), record { there = there p.1.1; back = back p.1.1 })))
      s)
      (trichotomy (key x) (key v))
    where
      above : Under (key v) (key x) → (y : X) → Member y (x ∷ vs) → Under (key v) (key y)
      above u y (inl e) = subst (λ (z : X). Under (key v) (key z)) (sym e) u
      above u y (inr m) = member_all (λ z. Under (key v) (key z)) vs y r.0 m

      there : {us : List X} → Same (x ∷ vs) us → (y : X) → Member y (x ∷ v ∷ vs) → Member y (v ∷ us)
      there s y (inl e) = inr (s.there y (inl e))
      there s y (inr (inl e)) = inl e
      there s y (inr (inr m)) = inr (s.there y (inr m))

      back : {us : List X} → Same (x ∷ vs) us → (y : X) → Member y (v ∷ us) → Member y (x ∷ v ∷ vs)
      back s y (inl e) = inr (inl e)
      back s y (inr m) = ⊎_elim (λ e. inl e) (λ n. inr (inr n)) (s.back y m)

  pub sorts : (ws : List X) → Different key ws → (vs : List X) × Sorts key ws vs
  sorts [] d = ([], record { same = same_refl []; rises = tt })
  sorts (w ∷ ws) d =
      let s = sorts ws d.1 in
      let p = insert w s.0 s.1.rises (all_from_member (λ y. key w ≡ key y → ⊥) s.0 (λ y m. member_all (λ z. key w ≡ key z → ⊥) ws y d.0 (s.1.same.back y m))) in
      (p.0, record { same = record { there = λ y m. p.1.1.there y (on s.1.same y m); back = λ y m. off s.1.same y (p.1.1.back y m) }; rises = p.1.0 })
    where
      on : {us : List X} → Same ws us → (y : X) → Member y (w ∷ ws) → Member y (w ∷ us)
      on h y (inl e) = inl e
      on h y (inr m) = inr (h.there y m)

      off : {us : List X} → Same ws us → (y : X) → Member y (w ∷ us) → Member y (w ∷ ws)
      off h y (inl e) = inl e
      off h y (inr m) = inr (h.back y m)

mutual
  pub means_key : (k : Kind) (t : Tree (shape k)) (v : Value k) → Means k t v → key k v ≡ tree_key k t
  means_key text t v p = p
  means_key (entry ks) t v p = means_keys ks t v p
  means_key (ordered n k) t v p = refl
  means_key (rising n k) t v p = refl

  pub means_keys : (ks : Kinds) (t : Trees (shapes ks)) (v : Values ks) → MeansAll ks t v → keys ks v ≡ tree_keys ks t
  means_keys (one k) t v p = means_key k t v p
  means_keys (also k ks) t v p = means_key k t.0 v.0 p.0

module _ {T V : Type 0} (M : T → V → Type 0) where
  each_exists : (P : T → Type 0) → ((t : T) → P t → (v : V) × M t v) → (ts : List T) → AllByRecursion P ts → (vs : List V) × Along M ts vs
  each_exists P h [] a = ([], tt)
  each_exists P h (t ∷ ts) a =
      let v = h t a.0 in
      let r = each_exists P h ts a.1 in
      (v.0 ∷ r.0, (v.1, r.1))

  module _ (kt : T → List ℕ) (kv : V → List ℕ) (same : (t : T) (v : V) → M t v → kv v ≡ kt t) where
    apart_one : (t : T) (v : V) → M t v → (ts : List T) (vs : List V) → Along M ts vs → AllByRecursion (λ u. kt t ≡ kt u → ⊥) ts → AllByRecursion (λ w. kv v ≡ kv w → ⊥) vs
    apart_one t v m [] [] e a = tt
    apart_one t v m [] (w ∷ vs) e a = absurd e
    apart_one t v m (u ∷ ts) [] e a = absurd e
    apart_one t v m (u ∷ ts) (w ∷ vs) e a = (λ q. a.0 (sym (same t v m) ∙ q ∙ same u w e.0), apart_one t v m ts vs e.1 a.1)

    pub apart_each : (ts : List T) (vs : List V) → Along M ts vs → Different kt ts → Different kv vs
    apart_each [] [] e d = tt
    apart_each [] (w ∷ vs) e d = absurd e
    apart_each (u ∷ ts) [] e d = absurd e
    apart_each (u ∷ ts) (w ∷ vs) e d = (apart_one u w e.0 ts vs e.1 d.0, apart_each ts vs e.1 d.1)

    under_one : (t : T) (v : V) → M t v → (ts : List T) (vs : List V) → Along M ts vs → AllByRecursion (λ w. Under (kv v) (kv w)) vs → AllByRecursion (λ u. Under (kt t) (kt u)) ts
    under_one t v m [] [] e a = tt
    under_one t v m [] (w ∷ vs) e a = absurd e
    under_one t v m (u ∷ ts) [] e a = absurd e
    under_one t v m (u ∷ ts) (w ∷ vs) e a = (
      subst (λ (l : List ℕ). Under l (kt u)) (same t v m) (subst (Under (kv v)) (same u w e.0) a.0),
      under_one t v m ts vs e.1 a.1,
    )

    -- trees rise where what they mean does
    pub rises_along : (ts : List T) (vs : List V) → Along M ts vs → Rising kv vs → Rising kt ts
    rises_along [] [] e r = tt
    rises_along [] (w ∷ vs) e r = absurd e
    rises_along (u ∷ ts) [] e r = absurd e
    rises_along (u ∷ ts) (w ∷ vs) e r = (under_one u w e.0 ts vs e.1 r.0, rises_along ts vs e.1 r.1)

    over_one : (t : T) (v : V) → M t v → (ts : List T) (vs : List V) → Along M ts vs → AllByRecursion (λ u. Under (kt t) (kt u)) ts → AllByRecursion (λ w. Under (kv v) (kv w)) vs
    over_one t v m [] [] e a = tt
    over_one t v m [] (w ∷ vs) e a = absurd e
    over_one t v m (u ∷ ts) [] e a = absurd e
    over_one t v m (u ∷ ts) (w ∷ vs) e a = (
      subst (λ (l : List ℕ). Under l (kv w)) (sym (same t v m)) (subst (Under (kt t)) (sym (same u w e.0)) a.0),
      over_one t v m ts vs e.1 a.1,
    )

    pub along_rises : (ts : List T) (vs : List V) → Along M ts vs → Rising kt ts → Rising kv vs
    along_rises [] [] e r = tt
    along_rises [] (w ∷ vs) e r = absurd e
    along_rises (u ∷ ts) [] e r = absurd e
    along_rises (u ∷ ts) (w ∷ vs) e r = (over_one u w e.0 ts vs e.1 r.0, along_rises ts vs e.1 r.1)

mutual
  pub exists : (k : Kind) (t : Tree (shape k)) → Apart k t → (v : Value k) × Means k t v
  exists text t a = (meaning t, refl)
  exists (entry ks) t a = all_exist ks t a
  exists (ordered n k) t a = each_exists (Means k) (Apart k) (exists k) t a
  exists (rising n k) t a =
      let r = each_exists (Means k) (Apart k) (exists k) t a.1 in
      let s = sorts (key k) r.0 (apart_each (Means k) (tree_key k) (key k) (means_key k) t r.0 r.1 a.0) in
      (s.0, (r.0, (r.1, s.1)))

  pub all_exist : (ks : Kinds) (t : Trees (shapes ks)) → AllApart ks t → (v : Values ks) × MeansAll ks t v
  all_exist (one k) t a = exists k t a
  all_exist (also k ks) t a =
      let x = exists k t.0 a.0 in
      let r = all_exist ks t.1 a.1 in
      ((x.0, r.0), (x.1, r.1))
