-- The rows of a hash text: of inputs with equal hash the one with the greatest path stands.
use Rattle.std.proofs.Common.{◌≡◌, ◌⊎◌, List, [], ◌∷◌, ◌++◌, map, sym, refl, ap, ◌∙◌, subst, inl, inr}
use Rattle.canonical.specs.Meanings.{Meaning}
use Rattle.canonical.specs.Order.{Under, Member, Rising}
use Rattle.canonical.proofs.Members.{member_all}
use Rattle.canonical.proofs.Orders.{under_not_self, under_trans}
use Rattle.hash_rows.specs.Keyed as keyed
use Rattle.sink.specs.Numerals.{hex}
use Rattle.hash_modulo.specs.Hashes.{path_of, hashed_rows}
use Rattle.hash_modulo.specs.Laws.{Greatest, GreatestOfEach, GreatestStands}
use Rattle.hash_modulo.specs.Sets.{Bytes, Row, Names}

module _ (g : Bytes → Bytes) where
  -- an input's row by its hash
  abbrev hashed_row : Row → Row
  hashed_row r = (hex (g r.0), r.1)

  abbrev hashed_list : List Row → List Row
  hashed_list rs = map {B = Row} hashed_row rs

  -- each row by hash is that of an input, and each input has one
  from_input : (rs : List Row) (x : Row) → Member x (hashed_list rs) → (r : Row) × Member r rs × (x ≡ hashed_row r)
  from_input [] x i = absurd i
  from_input (r ∷ rs) x (inl e) = (r, inl refl, e)
  from_input (r ∷ rs) x (inr i) = let z = from_input rs x i in (z.0, inr z.1, z.2)

  of_input : (rs : List Row) (r : Row) → Member r rs → Member (hashed_row r) (hashed_list rs)
  of_input [] r i = absurd i
  of_input (s ∷ rs) r (inl e) = inl (ap hashed_row e)
  of_input (s ∷ rs) r (inr i) = inr (of_input rs r i)

  -- of the inputs of r's hash, r has the greatest path
  abbrev Top : List Row → Row → Type 0
  Top rs r = (s : Row) → Member s rs → hex (g s.0) ≡ hex (g r.0) → (s ≡ r) ⊎ Under s.0 r.0

  -- the last row of its hash is that of the greatest path
  top : (rs : List Row) → Rising path_of rs → (before : List Row) (x : Row) (after : List Row) → hashed_list rs ≡ before ++ x ∷ after
      → ((y : Row) → Member y after → y.0 ≡ x.0 → ⊥) → (r : Row) × Member r rs × (x ≡ hashed_row r) × Top rs r
  top [] rise [] x after e n = absurd (cc)
  top [] rise (b ∷ before) x after e n = absurd (cc)
  top (r ∷ rs) rise [] x after e n = (r, inl refl, is, λ s i same. greatest s i same)
    where
      is : x ≡ hashed_row r
      is = cc

      rest : hashed_list rs ≡ after
      rest = cc

      greatest : (s : Row) → Member s (r ∷ rs) → hex (g s.0) ≡ hex (g r.0) → (s ≡ r) ⊎ Under s.0 r.0
      greatest s (inl f) same = inl f
      greatest s (inr i) same =
          absurd (n (hashed_row s) (subst (Member (hashed_row s)) rest (of_input rs s i)) (same ∙ ap path_of (sym is)))
  top (r ∷ rs) rise (b ∷ before) x after e n =
      let rest : hashed_list rs ≡ before ++ x ∷ after = cc in
      let z = top rs rise.1 before x after rest n in (
        z.0,
        inr z.1,
        z.2,
        λ s i same. elim i [
          | inl f ↦ inr (subst (λ (w : Row). Under w.0 z.0.0) (sym f) (member_all (λ (w : Row). Under r.0 w.0) rs z.0 rise.0 z.1))
          | inr j ↦ z.3 s j same
        ],
      )

  -- and the row of the greatest path is the last of its hash
  last : (rs : List Row) → Rising path_of rs → (r : Row) → Member r rs → Top rs r → keyed.Last path_of (hashed_row r) (hashed_list rs)
  last [] rise r i t = absurd i
  last (q ∷ rs) rise r (inl f) t = ([], hashed_list rs, ap (λ (w : Row). hashed_row w ∷ hashed_list rs) (sym f), later)
    where
      -- r stands before all that come after it
      over : (s : Row) → Member s rs → Under r.0 s.0
      over s j = subst (λ (w : Row). Under w.0 s.0) (sym f) (member_all (λ (w : Row). Under q.0 w.0) rs s rise.0 j)

      not_later : (s : Row) → Under r.0 s.0 → (s ≡ r) ⊎ Under s.0 r.0 → ⊥
      not_later s u (inl k) = under_not_self r.0 (subst (λ (w : Row). Under r.0 w.0) k u)
      not_later s u (inr k) = under_not_self r.0 (under_trans r.0 s.0 r.0 u k)

      later : (y : Row) → Member y (hashed_list rs) → y.0 ≡ hex (g r.0) → ⊥
      later y j same =
          let z = from_input rs y j in
          not_later z.0 (over z.0 z.1) (t z.0 (inr z.1) (sym (ap path_of z.2) ∙ same))
  last (q ∷ rs) rise r (inr i) t =
      let z = last rs rise.1 r i (λ s j. t s (inr j)) in
      (hashed_row q ∷ z.0, z.1, ap (λ (w : List Row). hashed_row q ∷ w) z.2, z.3)

  -- a hash has one last row
  one_last : (ps : List Row) (x y : Row) → keyed.Last path_of x ps → keyed.Last path_of y ps → x.0 ≡ y.0 → x ≡ y
  one_last ps x y (b, a, e, n) (d, c, f, k) same = split b d ps e f
    where
      inside : (w : Row) (before after : List Row) → Member w (before ++ w ∷ after)
      inside w [] after = inl refl
      inside w (v ∷ before) after = inr (inside w before after)

      split : (b d ps : List Row) → ps ≡ b ++ x ∷ a → ps ≡ d ++ y ∷ c → x ≡ y
      split [] [] ps e f = cc
      split [] (w ∷ d) ps e f =
          let tail : a ≡ d ++ y ∷ c = cc in
          absurd (n y (subst (Member y) (sym tail) (inside y d c)) (sym same))
      split (v ∷ b) [] ps e f =
          let tail : c ≡ b ++ x ∷ a = cc in
          absurd (k x (subst (Member x) (sym tail) (inside x b a)) same)
      split (v ∷ b) (w ∷ d) ps e f = split b d (b ++ x ∷ a) refl cc

  module _ (m : Meaning) (rise : Rising path_of m.1.0) (rows : List Row) where
    there : keyed.Gathered path_of (hashed_rows g m) rows → GreatestOfEach g m rows
    there k = record { stands = λ h. (some h, back h); row = row }
      where
        some : (h : Bytes) → (x : Row) × Member x rows × (x.0 ≡ h) → (r : Row) × Names m r × (hex (g r.0) ≡ h)
        some h z =
            let p = (k.stands h).0 z in
            let w = from_input m.1.0 p.0 p.1 in
            (w.0, w.1, sym (ap path_of w.2) ∙ p.2)

        back : (h : Bytes) → (r : Row) × Names m r × (hex (g r.0) ≡ h) → (x : Row) × Member x rows × (x.0 ≡ h)
        back h z = (k.stands h).1 (hashed_row z.0, of_input m.1.0 z.0 z.1, z.2)

        row : (x : Row) → Member x rows → (r : Row) × Greatest g m x r
        row x i =
            let l = (k.last x).0 i in
            let z = top m.1.0 rise l.0 x l.1 l.2 l.3 in
            (z.0, record { named = z.1; is = z.2; greatest = z.3 })

    back : GreatestOfEach g m rows → keyed.Gathered path_of (hashed_rows g m) rows
    back k = record { stands = λ h. (some h, again h); last = λ x. (is_last x, was_last x) }
      where
        some : (h : Bytes) → keyed.Has path_of h rows → keyed.Has path_of h (hashed_rows g m)
        some h z = let w = (k.stands h).0 z in (hashed_row w.0, of_input m.1.0 w.0 w.1, w.2)

        again : (h : Bytes) → keyed.Has path_of h (hashed_rows g m) → keyed.Has path_of h rows
        again h z =
            let w = from_input m.1.0 z.0 z.1 in
            (k.stands h).1 (w.0, w.1, sym (ap path_of w.2) ∙ z.2)

        is_last : (x : Row) → Member x rows → keyed.Last path_of x (hashed_rows g m)
        is_last x i =
            let w = k.row x i in
            subst (λ (y : Row). keyed.Last path_of y (hashed_rows g m)) (sym w.1.is) (last m.1.0 rise w.0 w.1.named w.1.greatest)

        was_last : (x : Row) → keyed.Last path_of x (hashed_rows g m) → Member x rows
        was_last x l =
            let z = top m.1.0 rise l.0 x l.1 l.2 l.3 in
            let y = (k.stands x.0).1 (z.0, z.1, sym (ap path_of z.2)) in
            subst (λ (w : Row). Member w rows) (one_last (hashed_rows g m) y.0 x (is_last y.0 y.1) l y.2) y.1

pub greatest_stands : GreatestStands
greatest_stands = record {
  rise = λ set p m e. e.reads.means.1.0.1.1.rises;
  rows = λ g m rise rows _. (there g m rise rows, back g m rise rows);
}
