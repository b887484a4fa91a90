-- Right paths are there, and one each.
use Rattle.std.proofs.Common.{◌≡◌, ◌⊎◌, List, [], ◌∷◌, ◌++◌, map, codes, sym, refl, ap, ◌∙◌, subst, inl, inr, ⊎_elim}
use Rattle.std.specs.List.{AllByRecursion}
use Rattle.canonical.specs.Kinds.{Value}
use Rattle.canonical.specs.Meanings.{an_output, Meaning, canonical}
use Rattle.canonical.specs.Order.{Under, Member, Rising}
use Rattle.canonical.proofs.Members.{member_all, all_from_member, one_rising}
use Rattle.canonical.proofs.Orders.{under_trans, trichotomy}
use Rattle.derivation.specs.Questions.{output_name}
use Rattle.hash_rows.specs.Keyed as keyed
use Rattle.hash_rows.proofs.Fixing.{rows_fixed}
use Rattle.sink.specs.Numerals.{hex}
use Rattle.hash_modulo.specs.Hashes.{Digest, path_of, hashed_rows, with_inputs}
use Rattle.hash_modulo.specs.Laws.{OwnPaths, OutputPaths}
use Rattle.hash_modulo.specs.Paths.{made_path, file_name, References, own_type, masked, MaskedString, fixed_path, OutputPath, of_fixed, of_masked}
use Rattle.hash_modulo.specs.Sets.{Bytes, Row, Names}
use Rattle.hash_modulo.proofs.Deciding.{fixed?}
use Rattle.hash_modulo.proofs.Hashes.{no_row, rows_agree}

-- ---- a path put among rising ones

pub record Put (p : Bytes) (xs ys : List Bytes) : Type 0 where
  pub rises : Rising (λ q. q) ys
  pub here : Member p ys
  pub kept : (q : Bytes) → Member q xs → Member q ys
  pub only : (q : Bytes) → Member q ys → (q ≡ p) ⊎ Member q xs

above : (p x : Bytes) (xs : List Bytes) → Under p x → AllByRecursion (λ y. Under x y) xs → AllByRecursion (λ y. Under p y) xs
above p x xs u a = all_from_member (λ y. Under p y) xs (λ y m. under_trans p x y u (member_all (λ z. Under x z) xs y a m))

put : (p : Bytes) (xs : List Bytes) → Rising (λ q. q) xs → (ys : List Bytes) × Put p xs ys
put p [] r = (p ∷ [], record { rises = (tt, tt); here = inl refl; kept = λ q m. absurd m; only = λ q m. elim m [ inl e ↦ inl e | inr n ↦ absurd n ] })
put p (x ∷ xs) r = way (trichotomy p x) (put p xs r.1)
  where
    first : Under p x → (ys : List Bytes) × Put p (x ∷ xs) ys
    first u = (p ∷ x ∷ xs, record { rises = ((u, above p x xs u r.0), r); here = inl refl; kept = λ q m. inr m; only = λ q m. m })

    same : p ≡ x → (ys : List Bytes) × Put p (x ∷ xs) ys
    same e = (x ∷ xs, record { rises = r; here = inl e; kept = λ q m. m; only = λ q m. inr m })

    later : Under x p → (ys : List Bytes) × Put p xs ys → (ys : List Bytes) × Put p (x ∷ xs) ys
    later u (ys, w) = (
      x ∷ ys,
      record {
        rises = (all_from_member (λ y. Under x y) ys (λ y m. ⊎_elim (λ e. subst (Under x) (sym e) u) (λ n. member_all (λ z. Under x z) xs y r.0 n) (w.only y m)), w.rises);
        here = inr w.here;
        kept = λ q m. elim m [ inl e ↦ inl e | inr n ↦ inr (w.kept q n) ];
        only = λ q m. elim m [ inl e ↦ inr (inl e) | inr n ↦ ⊎_elim (λ e. inl e) (λ k. inr (inr k)) (w.only q n) ];
      },
    )

    way : Under p x ⊎ ((p ≡ x) ⊎ Under x p) → (ys : List Bytes) × Put p xs ys → (ys : List Bytes) × Put p (x ∷ xs) ys
    way (inl u) w = first u
    way (inr (inl e)) w = same e
    way (inr (inr u)) w = later u w

-- a rising list of all members of a list
record Gathers (ps ys : List Bytes) : Type 0 where
  rises : Rising (λ q. q) ys
  kept : (q : Bytes) → Member q ps → Member q ys
  only : (q : Bytes) → Member q ys → Member q ps

gather : (ps : List Bytes) → (ys : List Bytes) × Gathers ps ys
gather [] = ([], record { rises = tt; kept = λ q m. m; only = λ q m. m })
gather (p ∷ ps) =
    let g = gather ps in
    let w = put p g.0 g.1.rises in (
      w.0,
      record {
        rises = w.1.rises;
        kept = λ q m. elim m [ inl e ↦ subst (λ (x : Bytes). Member x w.0) (sym e) w.1.here | inr n ↦ w.1.kept q (g.1.kept q n) ];
        only = λ q m. ⊎_elim (λ e. inl e) (λ n. inr (g.1.only q n)) (w.1.only q m);
      },
    )

-- ---- references

pub member_left : {X : Type 0} (x : X) (xs ys : List X) → Member x xs → Member x (xs ++ ys)
member_left x [] ys m = absurd m
member_left x (y ∷ xs) ys (inl e) = inl e
member_left x (y ∷ xs) ys (inr m) = inr (member_left x xs ys m)

pub member_right : {X : Type 0} (x : X) (xs ys : List X) → Member x ys → Member x (xs ++ ys)
member_right x [] ys m = m
member_right x (y ∷ xs) ys m = inr (member_right x xs ys m)

member_either : {X : Type 0} (x : X) (xs ys : List X) → Member x (xs ++ ys) → Member x xs ⊎ Member x ys
member_either x [] ys m = inr m
member_either x (y ∷ xs) ys (inl e) = inl (inl e)
member_either x (y ∷ xs) ys (inr m) = ⊎_elim (λ n. inl (inr n)) (λ n. inr n) (member_either x xs ys m)

unfoldable pub paths : List Row → List Bytes
paths rows = map (λ (r : Row). r.0) rows

pub path_there : (rows : List Row) (r : Row) → Member r rows → Member r.0 (paths rows)
unfolding paths
path_there [] r m = absurd m
path_there (x ∷ rows) r (inl e) = inl (ap (λ (y : Row). y.0) e)
path_there (x ∷ rows) r (inr m) = inr (path_there rows r m)

path_back : (rows : List Row) (p : Bytes) → Member p (paths rows) → (r : Row) × Member r rows × (r.0 ≡ p)
unfolding paths
path_back [] p m = absurd m
path_back (x ∷ rows) p (inl e) = (x, inl refl, sym e)
path_back (x ∷ rows) p (inr m) = let z = path_back rows p m in (z.0, inr z.1, z.2)

pub references : (m : Meaning) → (rs : List Bytes) × References m rs
references m =
    let ins = paths m.1.0 in
    let g = gather (ins ++ m.1.1.0) in (
      g.0,
      record {
        rises = g.1.rises;
        there = λ p i. ⊎_elim (λ n. inl (path_back m.1.0 p n)) (λ n. inr n) (member_either p ins m.1.1.0 (g.1.only p i));
        inputs = λ r i. g.1.kept r.0 (member_left r.0 ins m.1.1.0 (path_there m.1.0 r i));
        sources = λ p i. g.1.kept p (member_right p ins m.1.1.0 i);
      },
    )

one_way : (m : Meaning) (rs ss : List Bytes) → References m rs → References m ss → (p : Bytes) → Member p rs → Member p ss
one_way m rs ss a b p i = ⊎_elim (λ z. subst (λ (x : Bytes). Member x ss) z.2 (b.inputs z.0 z.1)) (λ n. b.sources p n) (a.there p i)

pub one_list : (m : Meaning) (rs ss : List Bytes) → References m rs → References m ss → rs ≡ ss
one_list m rs ss a b = one_rising (λ p. p) rs ss a.rises b.rises (record { there = one_way m rs ss a b; back = one_way m ss rs b a })

pub own_paths : OwnPaths
own_paths = record {
  some = λ d path m. (let z = references m in (made_path d (own_type z.0) (hex (d (canonical m))) (file_name path), record { references = z.0; right = z.1; is = refl }));
  one = λ d path m p q a b. a.is ∙ ap (λ (rs : List Bytes). made_path d (own_type rs) (hex (d (canonical m))) (file_name path)) (one_list m a.references b.references a.right b.right) ∙ sym b.is;
}

-- ---- outputs

pub masked_string : (g : Bytes → Bytes) (m : Meaning) → (s : Bytes) × MaskedString g m s
masked_string g m =
    let w = (rows_fixed path_of no_row (hashed_rows g m)).some in
    (canonical (with_inputs (masked m) w.0), record { rows = w.0; rises = w.1; gathered = w.2; is = refl })

pub one_masked : (f g : Bytes → Bytes) (m : Meaning) (s t : Bytes) → ((r : Row) → Names m r → f r.0 ≡ g r.0) → MaskedString f m s → MaskedString g m t → s ≡ t
one_masked f g m s t agree a b =
    let same : hashed_rows g m ≡ hashed_rows f m = sym (rows_agree f g m.1.0 agree) in
    let k : keyed.Gathered path_of (hashed_rows f m) b.rows = subst (λ (ps : List Row). keyed.Gathered path_of ps b.rows) same b.gathered in
    a.is ∙ ap (λ (l : List Row). canonical (with_inputs (masked m) l)) ((rows_fixed path_of no_row (hashed_rows f m)).one a.rows b.rows a.rises b.rises a.gathered k) ∙ sym b.is

some_output : (d : Digest) (path : Bytes) (g : Bytes → Bytes) (m : Meaning) (o : Value an_output) → (q : Bytes) × OutputPath d path g m o q
some_output d path g m o = elim (fixed? m) [
  | inl f ↦ (fixed_path d path o, of_fixed f refl)
  | inr n ↦ (let z = masked_string g m in (made_path d (codes "output:" ++ o.0) (hex (d z.0)) (output_name path o.0), of_masked n z.0 z.1 refl))
]

pub one_output : (d : Digest) (path : Bytes) (f g : Bytes → Bytes) (m : Meaning) (o : Value an_output) (p q : Bytes)
    → ((r : Row) → Names m r → f r.0 ≡ g r.0) → OutputPath d path f m o p → OutputPath d path g m o q → p ≡ q
one_output d path f g m o p q agree (of_fixed x a) (of_fixed y b) = a ∙ sym b
one_output d path f g m o p q agree (of_fixed x a) (of_masked n t z b) = absurd (n x)
one_output d path f g m o p q agree (of_masked n s w a) (of_fixed y b) = absurd (n y)
one_output d path f g m o p q agree (of_masked n s w a) (of_masked k t z b) =
    a ∙ ap (λ (x : Bytes). made_path d (codes "output:" ++ o.0) (hex (d x)) (output_name path o.0)) (one_masked f g m s t agree w z) ∙ sym b

pub output_paths : OutputPaths
output_paths = record { some = some_output; one = one_output }
