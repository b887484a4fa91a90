-- Rows of a tree, each with where it stands: the row of a first no, what holds of each row, and the row that has a key.
use Rattle.std.proofs.Common.{◌≡◌, ℕ, ◌⊎◌, List, [], ◌∷◌, ◌++◌, None, sym, refl, ap, ◌∙◌, subst, inl, inr}
use Rattle.std.specs.List.{AllByRecursion}
use Rattle.std.proofs.ByRecursion.{All-weaker}
use Rattle.aterm.specs.Grammar.{Shape, Tree, string, meaning}
use Rattle.aterm.specs.Reads.{past}
use Rattle.canonical.specs.Order.{Member, Different}
use Rattle.canonical.proofs.Members.{member_all}
use Rattle.derivation.specs.Asked.{FirstNo, First, rows_at}
use Rattle.derivation.specs.declared.field.Field.{Field}
use Rattle.derivation.specs.declared.spot.Spot.{Spot}
use Rattle.hash_modulo.proofs.Paths.{member_right}
use Rattle.store_path.proofs.Deciding.{same_text}

-- ---- the first no

module _ {E : Type 0} (Yes : E → Type 0) where
  once : (a b : List (Spot × E)) (v w : Spot) (d e : E) (p q : List (Spot × E)) → a ++ (v, d) ∷ p ≡ b ++ (w, e) ∷ q
      → AllByRecursion (λ r. Yes r.1) a → (Yes d → ⊥) → AllByRecursion (λ r. Yes r.1) b → (Yes e → ⊥) → ◌≡◌ {A = Spot × E} (v, d) (w, e)
  once [] [] v w d e p q g ca rd cb re = cc
  once [] (y ∷ b) v w d e p q g ca rd cb re = let h : ◌≡◌ {A = Spot × E} (v, d) y = cc in absurd (rd (subst (λ (z : Spot × E). Yes z.1) (sym h) cb.0))
  once (x ∷ a) [] v w d e p q g ca rd cb re = let h : ◌≡◌ {A = Spot × E} x (w, e) = cc in absurd (re (subst (λ (z : Spot × E). Yes z.1) h ca.0))
  once (x ∷ a) (y ∷ b) v w d e p q g ca rd cb re = once a b v w d e p q (let h : a ++ (v, d) ∷ p ≡ b ++ (w, e) ∷ q = cc in h) ca.1 rd cb.1 re

  -- one row has it
  pub one_row : (rows : List (Spot × E)) (v w : Spot) (f : FirstNo Yes rows v) (g : FirstNo Yes rows w) → ◌≡◌ {A = Spot × E} (v, f.row) (w, g.row)
  one_row rows v w f g = once f.before g.before v w f.row g.row f.after g.after (sym f.whole ∙ g.whole) f.clean f.refused g.clean g.refused

-- of another question that is answered yes too
pub same_yes : {E : Type 0} (P Q : E → Type 0) → ((e : E) → P e → Q e) → (rows : List (Spot × E)) → First P rows None → First Q rows None
same_yes {E} P Q there rows a = All-weaker (λ (r : Spot × E). P r.1) (λ (r : Spot × E). Q r.1) (λ r y. there r.1 y) rows a

-- of one with the same answers
unfoldable pub same_no : {E : Type 0} (P Q : E → Type 0) → ((e : E) → P e → Q e) → ((e : E) → Q e → P e)
    → (rows : List (Spot × E)) (w : Spot) → FirstNo P rows w → FirstNo Q rows w
same_no P Q there back rows w f = record {
  before = f.before;
  row = f.row;
  after = f.after;
  whole = f.whole;
  clean = same_yes P Q there f.before f.clean;
  refused = λ y. f.refused (back f.row y);
}

-- its row stands among them
pub no_stands : {E : Type 0} (Yes : E → Type 0) (rows : List (Spot × E)) (w : Spot) (f : FirstNo Yes rows w) → Member (w, f.row) rows
no_stands {E} Yes rows w f = subst (Member {X = Spot × E} (w, f.row)) (sym f.whole) (member_right (w, f.row) f.before ((w, f.row) ∷ f.after) (inl refl))

-- ---- rows of a list

module _ (s : Shape) (field : Field) where
  pub row_there : (at : ℕ) (ys xs : List (Tree s)) (w : Spot) (e : List (Tree s) × Tree s) → Member (w, e) (rows_at s field at ys xs) → Member e.1 xs
  row_there at ys [] w e i = absurd i
  row_there at ys (x ∷ xs) w e (inl q) = inl (ap (λ (z : Spot × (List (Tree s) × Tree s)). z.1.1) q)
  row_there at ys (x ∷ xs) w e (inr i) = inr (row_there (past s at x) (ys ++ x ∷ []) xs w e i)

  -- what is asked of the row alone
  pub each : (P : Tree s → Type 0) (at : ℕ) (ys xs : List (Tree s)) → First (λ (e : List (Tree s) × Tree s). P e.1) (rows_at s field at ys xs) None
      → (x : Tree s) → Member x xs → P x
  each P at ys [] a x i = absurd i
  each P at ys (y ∷ xs) a x (inl e) = subst P (sym e) a.0
  each P at ys (y ∷ xs) a x (inr i) = each P (past s at y) (ys ++ y ∷ []) xs a.1 x i

  pub all_of : (P : Tree s → Type 0) (at : ℕ) (ys xs : List (Tree s)) → ((x : Tree s) → Member x xs → P x)
      → First (λ (e : List (Tree s) × Tree s). P e.1) (rows_at s field at ys xs) None
  all_of P at ys [] f = tt
  all_of P at ys (x ∷ xs) f = (f x (inl refl), all_of P (past s at x) (ys ++ x ∷ []) xs (λ y i. f y (inr i)))

  -- a row with this key
  module _ (key : Tree s → Tree string) (n : List ℕ) where
    pub record Keyed (at : ℕ) (ys xs : List (Tree s)) : Type 0 where
      pub spot : Spot
      pub row : List (Tree s) × Tree s
      pub stands : Member (spot, row) (rows_at s field at ys xs)
      pub has : meaning (key row.1) ≡ n

    pub keyed? : (at : ℕ) (ys xs : List (Tree s)) → Keyed at ys xs ⊎ ((x : Tree s) → Member x xs → meaning (key x) ≡ n → ⊥)
    keyed? at ys [] = inr (λ x i. absurd i)
    keyed? at ys (x ∷ xs) = elim (same_text (meaning (key x)) n) [
      | inl e ↦ inl (record { spot = _; row = (ys, x); stands = inl refl; has = e })
      | inr ne ↦ elim (keyed? (past s at x) (ys ++ x ∷ []) xs) [
        | inl k ↦ inl (record { spot = k.spot; row = k.row; stands = inr k.stands; has = k.has })
        | inr none ↦ inr (λ y i e. elim i [ inl q ↦ ne (ap (λ (z : Tree s). meaning (key z)) (sym q) ∙ e) | inr j ↦ none y j e ])
      ]
    ]

  -- where keys differ, one row has a key
  module _ (key : Tree s → Tree string) where
    behind : (at : ℕ) (ys : List (Tree s)) (x : Tree s) (xs : List (Tree s)) → AllByRecursion (λ y. meaning (key x) ≡ meaning (key y) → ⊥) xs
        → (t : Tree s) → t ≡ x → (w : Spot) (e : List (Tree s) × Tree s) → Member (w, e) (rows_at s field at ys xs) → meaning (key t) ≡ meaning (key e.1) → ⊥
    behind at ys x xs a t q w e i k =
        member_all (λ y. meaning (key x) ≡ meaning (key y) → ⊥) xs e.1 a (row_there at ys xs w e i) (ap (λ (z : Tree s). meaning (key z)) (sym q) ∙ k)

    pub one_spot : (at : ℕ) (ys xs : List (Tree s)) → Different (λ x. meaning (key x)) xs → (v w : Spot) (e f : List (Tree s) × Tree s)
        → Member (v, e) (rows_at s field at ys xs) → Member (w, f) (rows_at s field at ys xs) → meaning (key e.1) ≡ meaning (key f.1) → v ≡ w
    one_spot at ys [] d v w e f i j k = absurd i
    one_spot at ys (x ∷ xs) d v w e f (inl p) (inl q) k = ap (λ (z : Spot × (List (Tree s) × Tree s)). z.0) (p ∙ sym q)
    one_spot at ys (x ∷ xs) d v w e f (inl p) (inr j) k = absurd (behind _ _ x xs d.0 e.1 (ap (λ (z : Spot × (List (Tree s) × Tree s)). z.1.1) p) w f j k)
    one_spot at ys (x ∷ xs) d v w e f (inr i) (inl q) k = absurd (behind _ _ x xs d.0 f.1 (ap (λ (z : Spot × (List (Tree s) × Tree s)). z.1.1) q) v e i (sym k))
    one_spot at ys (x ∷ xs) d v w e f (inr i) (inr j) k = one_spot (past s at x) (ys ++ x ∷ []) xs d.1 v w e f i j k
