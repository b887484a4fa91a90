-- Rows of a tree beside the rows of what it means.
use Rattle.std.proofs.Common.{◌≡◌, ℕ, List, [], ◌∷◌, map, None, sym, refl, subst, inl, inr}
use Rattle.aterm.specs.Files.{output, input, variable, derivation}
use Rattle.aterm.specs.Grammar.{Tree, string, meaning}
use Rattle.canonical.specs.Kinds.{Kind, text, rising, shape, Value, Means}
use Rattle.canonical.specs.Meanings.{an_output, an_input, a_variable, a_derivation, Meaning}
use Rattle.canonical.specs.Order.{Member, Along, Same}
use Rattle.derivation.specs.Asked.{First}
use Rattle.derivation.specs.Questions.{input_rows}
use Rattle.derivation.specs.declared.field.Field.TheVariants.{Inputs}
use Rattle.hash_modulo.specs.Sets as sets
use Rattle.hash_modulo.specs.Sets.{Bytes, Files, Present, Row, Names, Owned, Ready}
use Rattle.verdict.specs.Judged.{row_of, output_of, there, owning}
use Rattle.verdict.proofs.Rows.{each, all_of}

module _ {X Y : Type 0} (R : X → Y → Type 0) where
  beside : (xs : List X) (ys : List Y) → Along R xs ys → (x : X) → Member x xs → (y : Y) × Member y ys × R x y
  beside [] ys a x i = absurd i
  beside (z ∷ xs) [] a x i = absurd a
  beside (z ∷ xs) (y ∷ ys) a x (inl e) = (y, inl refl, subst (λ (w : X). R w y) (sym e) a.0)
  beside (z ∷ xs) (y ∷ ys) a x (inr i) = let w = beside xs ys a.1 x i in (w.0, inr w.1, w.2)

  before : (xs : List X) (ys : List Y) → Along R xs ys → (y : Y) → Member y ys → (x : X) × Member x xs × R x y
  before [] [] a y i = absurd i
  before [] (z ∷ ys) a y i = absurd a
  before (x ∷ xs) [] a y i = absurd a
  before (x ∷ xs) (z ∷ ys) a y (inl e) = (x, inl refl, subst (λ (w : Y). R x w) (sym e) a.0)
  before (x ∷ xs) (z ∷ ys) a y (inr i) = let w = before xs ys a.1 y i in (w.0, inr w.1, w.2)

-- of a map or set
module _ (k : Kind) (n : ℕ) (ts : List (Tree (shape k))) (vs : List (Value k)) (m : Means (rising n k) ts vs) where
  value_of : (t : Tree (shape k)) → Member t ts → (v : Value k) × Member v vs × Means k t v
  value_of t i = let w = beside (Means k) ts m.0 m.1.0 t i in (w.0, m.1.1.same.there w.0 w.1, w.2)

  tree_of : (v : Value k) → Member v vs → (t : Tree (shape k)) × Member t ts × Means k t v
  tree_of v i = before (Means k) ts m.0 m.1.0 v (m.1.1.same.back v i)

-- names of an input row
names_along : (ts : List (Tree string)) (ws : List Bytes) → Along (Means text) ts ws → ws ≡ map meaning ts
names_along [] [] a = refl
names_along [] (w ∷ ws) a = absurd a
names_along (t ∷ ts) [] a = absurd a
names_along (t ∷ ts) (w ∷ ws) a = let e = a.0 in let f = names_along ts ws a.1 in λ i. e i ∷ f i

names_same : (t : Tree input) (r : Row) → Means an_input t r → Same (map meaning t.1) r.1
names_same t r m = subst (λ (ws : List Bytes). Same ws r.1) (names_along t.1 m.1.0 m.1.1.0) m.1.1.1.same

output_told : (t : Tree output) (o : Value an_output) → Means an_output t o → output_of t ≡ o
output_told t o m = λ i. (sym m.0 i, (sym m.1.0 i, (sym m.1.1.0 i, sym m.1.1.1 i)))

module _ (x : Tree derivation) (m : Meaning) (means : Means a_derivation x m) where
  -- an output row is an output, and each output one
  pub output_there : (t : Tree output) → Member t x.0 → Member (output_of t) m.0
  output_there t i =
      let w = value_of an_output 16 x.0 m.0 means.0 t i in
      subst (λ (o : Value an_output). Member o m.0) (sym (output_told t w.0 w.2)) w.1

  pub output_back : (o : Value an_output) → Member o m.0 → (t : Tree output) × Member t x.0 × (output_of t ≡ o)
  output_back o i =
      let w = tree_of an_output 16 x.0 m.0 means.0 o i in
      (w.0, w.1, output_told w.0 o w.2)

  -- an input row, with its names in another order
  pub input_there : (t : Tree input) → Member t x.1.0 → (r : Row) × Names m r × (r.0 ≡ meaning t.0) × Same (map meaning t.1) r.1
  input_there t i =
      let w = value_of an_input 64 x.1.0 m.1.0 means.1.0 t i in
      (w.0, w.1, w.2.0, names_same t w.0 w.2)

  pub input_back : (r : Row) → Names m r → (t : Tree input) × Member t x.1.0 × (r.0 ≡ meaning t.0) × Same (map meaning t.1) r.1
  input_back r i =
      let w = tree_of an_input 64 x.1.0 m.1.0 means.1.0 r i in
      (w.0, w.1, w.2.0, names_same w.0 r w.2)

  -- a row of the environment
  pub variable_there : (v : Tree variable) → Member v x.1.1.1.1.1.1 → Member (meaning v.0, meaning v.1) m.1.1.1.1.1.1
  variable_there v i =
      let w = value_of a_variable 128 x.1.1.1.1.1.1 m.1.1.1.1.1.1 means.1.1.1.1.1.1 v i in
      subst (λ (u : Value a_variable). Member u m.1.1.1.1.1.1) (λ i. (w.2.0 i, w.2.1 i)) w.1

  pub variable_back : (u : Value a_variable) → Member u m.1.1.1.1.1.1
      → (v : Tree variable) × Member v x.1.1.1.1.1.1 × (u.0 ≡ meaning v.0) × (u.1 ≡ meaning v.1)
  variable_back u i =
      let w = tree_of a_variable 128 x.1.1.1.1.1.1 m.1.1.1.1.1.1 means.1.1.1.1.1.1 u i in
      (w.0, w.1, w.2.0, w.2.1)

  -- questions 18 and 19 to the rows of the tree, and to the inputs
  pub ready : (set : Files) → First (there set) (input_rows x) None → First (owning set) (input_rows x) None → Ready set m
  ready set present owned = record {
    present = λ r i. (let w = input_back r i in subst (Present set) (sym w.2) (each input Inputs (λ t. Present set (meaning t.0)) _ [] x.1.0 present w.0 w.1));
    owned = λ r i. (let w = input_back r i in owned_by w.0 r w.2 w.3 (each input Inputs (λ t. Owned set (row_of t)) _ [] x.1.0 owned w.0 w.1));
  }
    where
      owned_by : (t : Tree input) (r : Row) → r.0 ≡ meaning t.0 → Same (map meaning t.1) r.1 → Owned set (row_of t) → Owned set r
      owned_by t r e s o k f n j = o k (subst (λ (q : Bytes). sets.Means set q k) e f) n (s.back n j)

  pub rows_there : (set : Files) → Ready set m → First (there set) (input_rows x) None
  rows_there set y = all_of input Inputs (λ t. Present set (meaning t.0)) _ [] x.1.0 (λ t i. (let w = input_there t i in subst (Present set) w.2 (y.present w.0 w.1)))

  pub rows_owned : (set : Files) → Ready set m → First (owning set) (input_rows x) None
  rows_owned set y = all_of input Inputs (λ t. Owned set (row_of t)) _ [] x.1.0 has
    where
      has : (t : Tree input) → Member t x.1.0 → Owned set (row_of t)
      has t i k f n j = let w = input_there t i in y.owned w.0 w.1 k (subst (λ (q : Bytes). sets.Means set q k) (sym w.2) f) n (w.3.there n j)
