-- A merge of rising paths: one step of it, and that it is their rising union.
use Rattle.std.proofs.Common.{◌≡◌, ℕ, Bool, true, false, ◌⊎◌, List, [], ◌∷◌, map, sym, refl, ap, ◌∙◌, subst, inl, inr, ⊎_elim}
use Rattle.std.specs.List.{AllByRecursion}
use Rattle.std.proofs.ByRecursion.{All-map, All-weaker}
use Rattle.std.proofs.lemmas.Bool.{cases_Bool}
use Rattle.aterm.specs.declared.file.Input.{Input}
use Rattle.aterm.specs.declared.part.Span.{Span}
use Rattle.aterm.specs.declared.rows.Placed.{Placed}
use Rattle.canonical.specs.Files.{said_in, values, input_value}
use Rattle.canonical.specs.Meanings.{Meaning}
use Rattle.canonical.specs.Order.{Under, Member, Rising}
use Rattle.canonical.proofs.Members.{member_all, all_from_member}
use Rattle.canonical.proofs.Orders.{under_not_self, under_trans, trichotomy}
use Rattle.hash_rows.specs.Order.{before}
use Rattle.hash_rows.proofs.Orders.{test_before, before_test}
use Rattle.hash_modulo.specs.Paths.{References}
use Rattle.hash_modulo.specs.Sets.{Bytes, Row}
use Rattle.right_paths.specs.References.{among, merged, references_of, references_in}

-- ---- one step

not_before : (x y : Bytes) → (Under x y → ⊥) → before x y ≡ false
not_before x y h = elim (cases_Bool (before x y)) [ inl e ↦ absurd (h (test_before x y e)) | inr e ↦ e ]

module _ (x : Bytes) (rest : List Bytes → List Bytes) (y : Bytes) (ys : List Bytes) where
  -- what `among` is, by its two tests
  abbrev chosen : Bool → Bool → List Bytes
  chosen a b = elim a [ true ↦ x ∷ rest (y ∷ ys) | false ↦ elim b [ true ↦ y ∷ among x rest ys | false ↦ x ∷ rest ys ] ]

  among_less : Under x y → among x rest (y ∷ ys) ≡ x ∷ rest (y ∷ ys)
  among_less u = ap (λ (a : Bool). chosen a (before y x)) (before_test x y u)

  among_same : x ≡ y → among x rest (y ∷ ys) ≡ x ∷ rest ys
  among_same e =
      ap (λ (a : Bool). chosen a (before y x)) (not_before x y (λ u. under_not_self y (subst (λ (z : Bytes). Under z y) e u)))
      ∙ ap (λ (b : Bool). chosen false b) (not_before y x (λ u. under_not_self y (subst (Under y) e u)))

  among_more : Under y x → among x rest (y ∷ ys) ≡ y ∷ among x rest ys
  among_more u =
      ap (λ (a : Bool). chosen a (before y x)) (not_before x y (λ v. under_not_self x (under_trans x y x v u)))
      ∙ ap (λ (b : Bool). chosen false b) (before_test y x u)

-- the first reference of some inputs and some sources, and those after it
module _ (t : List ℕ) {inputs xs : List (Placed Input)} {sources ys : List (Placed Span)} where
  module _ (x : Placed Input) (y : Placed Span) (p : inputs ≡ x ∷ xs) (q : sources ≡ y ∷ ys) where
    abbrev of_x : Bytes
    of_x = said_in t x.value.path

    abbrev of_y : Bytes
    of_y = said_in t y.value

    abbrev after_x : List Bytes → List Bytes
    after_x = merged (map (λ (r : Row). r.0) (values (input_value t) xs))

    abbrev after_y : List Bytes
    after_y = values (said_in t) ys

    both : references_in t inputs sources ≡ among of_x after_x (of_y ∷ after_y)
    both = ap (λ v. references_in t v sources) p ∙ ap (references_in t (x ∷ xs)) q

    pub input_first : Under of_x of_y → references_in t inputs sources ≡ of_x ∷ references_in t xs sources
    input_first u = both ∙ among_less of_x after_x of_y after_y u ∙ ap (λ w. of_x ∷ references_in t xs w) (sym q)

    pub both_first : of_x ≡ of_y → references_in t inputs sources ≡ of_x ∷ references_in t xs ys
    both_first e = both ∙ among_same of_x after_x of_y after_y e

    pub source_first : Under of_y of_x → references_in t inputs sources ≡ of_y ∷ references_in t inputs ys
    source_first u = both ∙ among_more of_x after_x of_y after_y u ∙ ap (λ v. of_y ∷ references_in t v ys) (sym p)

-- ---- the union

record Union (xs ys zs : List Bytes) : Type 0 where
  there : (p : Bytes) → Member p zs → Member p xs ⊎ Member p ys
  left : (p : Bytes) → Member p xs → Member p zs
  right : (p : Bytes) → Member p ys → Member p zs

union_none : (ys : List Bytes) → Union [] ys ys
union_none ys = record { there = λ p m. inr m; left = λ p m. absurd m; right = λ p m. m }

module _ {xs ys zs : List Bytes} (u : Union xs ys zs) where
  union_left : (x : Bytes) → Union (x ∷ xs) ys (x ∷ zs)
  union_left x = record {
    there = λ p m. elim m [ inl e ↦ inl (inl e) | inr n ↦ ⊎_elim (λ a. inl (inr a)) inr (u.there p n) ];
    left = λ p m. elim m [ inl e ↦ inl e | inr n ↦ inr (u.left p n) ];
    right = λ p m. inr (u.right p m);
  }

  union_right : (y : Bytes) → Union xs (y ∷ ys) (y ∷ zs)
  union_right y = record {
    there = λ p m. elim m [ inl e ↦ inr (inl e) | inr n ↦ ⊎_elim inl (λ b. inr (inr b)) (u.there p n) ];
    left = λ p m. inr (u.left p m);
    right = λ p m. elim m [ inl e ↦ inl e | inr n ↦ inr (u.right p n) ];
  }

  union_both : (x y : Bytes) → x ≡ y → Union (x ∷ xs) (y ∷ ys) (x ∷ zs)
  union_both x y e = record {
    there = λ p m. elim m [ inl f ↦ inl (inl f) | inr n ↦ ⊎_elim (λ a. inl (inr a)) (λ b. inr (inr b)) (u.there p n) ];
    left = λ p m. elim m [ inl f ↦ inl f | inr n ↦ inr (u.left p n) ];
    right = λ p m. elim m [ inl f ↦ inl (f ∙ sym e) | inr n ↦ inr (u.right p n) ];
  }

  -- what stands before both stands before their union
  above : (x : Bytes) → AllByRecursion (Under x) xs → AllByRecursion (Under x) ys → AllByRecursion (Under x) zs
  above x h k = all_from_member (Under x) zs (λ p m. ⊎_elim (member_all (Under x) xs p h) (member_all (Under x) ys p k) (u.there p m))

further : (x y : Bytes) (ys : List Bytes) → Under x y → AllByRecursion (Under y) ys → AllByRecursion (Under x) ys
further x y ys u = All-weaker (Under y) (Under x) (λ z v. under_trans x y z u v) ys

record Merges (xs ys zs : List Bytes) : Type 0 where
  rises : Rising (λ p. p) zs
  union : Union xs ys zs

module _ (x : Bytes) (xs : List Bytes) (rest : List Bytes → List Bytes) (h : AllByRecursion (Under x) xs) (on : (ys : List Bytes) → Rising (λ p. p) ys → Merges xs ys (rest ys)) where
  among_merges : (ys : List Bytes) → Rising (λ p. p) ys → Merges (x ∷ xs) ys (among x rest ys)
  among_merges [] r = let m = on [] tt in record { rises = (above m.union x h tt, m.rises); union = union_left m.union x }
  among_merges (y ∷ ys) r = elim (trichotomy x y) [
    | inl u ↦
        let m = on (y ∷ ys) r in
        subst (Merges (x ∷ xs) (y ∷ ys)) (sym (among_less x rest y ys u))
        (record { rises = (above m.union x h (u, further x y ys u r.0), m.rises); union = union_left m.union x })
    | inr (inl e) ↦
        let m = on ys r.1 in
        subst (Merges (x ∷ xs) (y ∷ ys)) (sym (among_same x rest y ys e))
        (record { rises = (above m.union x h (subst (λ (z : Bytes). AllByRecursion (Under z) ys) (sym e) r.0), m.rises); union = union_both m.union x y e })
    | inr (inr u) ↦
        let m = among_merges ys r.1 in
        subst (Merges (x ∷ xs) (y ∷ ys)) (sym (among_more x rest y ys u))
        (record { rises = (above m.union y (u, further y x xs u h) r.0, m.rises); union = union_right m.union y })
  ]

merges : (xs ys : List Bytes) → Rising (λ p. p) xs → Rising (λ p. p) ys → Merges xs ys (merged xs ys)
merges [] ys r s = record { rises = s; union = union_none ys }
merges (x ∷ xs) ys r s = among_merges x xs (merged xs) r.0 (λ zs z. merges xs zs r.1 z) ys s

-- ---- the paths of rows

path_there : (rows : List Row) (r : Row) → Member r rows → Member r.0 (map (λ (r : Row). r.0) rows)
path_there [] r m = absurd m
path_there (x ∷ rows) r (inl e) = inl (ap (λ (y : Row). y.0) e)
path_there (x ∷ rows) r (inr m) = inr (path_there rows r m)

path_back : (rows : List Row) (p : Bytes) → Member p (map (λ (r : Row). r.0) rows) → (r : Row) × Member r rows × (r.0 ≡ p)
path_back [] p m = absurd m
path_back (x ∷ rows) p (inl e) = (x, inl refl, sym e)
path_back (x ∷ rows) p (inr m) = let z = path_back rows p m in (z.0, inr z.1, z.2)

paths_rise : (rows : List Row) → Rising (λ (r : Row). r.0) rows → Rising (λ p. p) (map (λ (r : Row). r.0) rows)
paths_rise [] r = tt
paths_rise (x ∷ rows) r = (All-map (Under x.0) (λ (r : Row). r.0) rows r.0, paths_rise rows r.1)

pub references_right : (m : Meaning) → Rising (λ (r : Row). r.0) m.1.0 → Rising (λ p. p) m.1.1.0 → References m (references_of m)
references_right m r s =
    let rows = m.1.0 in
    let g = merges (map (λ (r : Row). r.0) rows) m.1.1.0 (paths_rise rows r) s in
    record {
      rises = g.rises;
      there = λ p i. ⊎_elim (λ n. inl (path_back rows p n)) inr (g.union.there p i);
      inputs = λ r i. g.union.left r.0 (path_there rows r i);
      sources = λ p i. g.union.right p i;
    }
