-- Environment rows held against the path told for an output.
use Rattle.std.proofs.Common.{◌≡◌, ℕ, List, [], ◌∷◌, take, Some, None, sym, refl, ap, ◌∙◌, inl, inr}
use Rattle.aterm.specs.Files.{variable, in_variable}
use Rattle.aterm.specs.Grammar.{Tree, meaning}
use Rattle.aterm.specs.declared.file.Variable.{Variable}
use Rattle.aterm.specs.declared.rows.Placed.{Placed}
use Rattle.canonical.specs.Files.{said_in}
use Rattle.canonical.specs.Kinds.{Value}
use Rattle.canonical.specs.Meanings.{an_output}
use Rattle.canonical.specs.Order.{Member, Different}
use Rattle.canonical.proofs.Members.{member_all}
use Rattle.canonical.proofs.Spans.{span_means}
use Rattle.derivation.specs.Asked.{field_number}
use Rattle.derivation.specs.declared.field.Field.TheVariants.{Environment}
use Rattle.derivation.proofs.Scan.{Split, Clean, spot}
use Rattle.hash_modulo.specs.Sets.{Bytes}
use Rattle.right_paths.specs.declared.hashes.Digits.{Digits}
use Rattle.verdict.proofs.Rows.{each, row_there}
use Rattle.judge.specs.Stated.{here, nowhere, RightFor, VariableTold}
use Rattle.judge.proofs.Standing.{row_stands}
use Rattle.judge.proofs.Stating.{right_moved}

-- where keys differ, one row has a key
pub one_keyed : {X : Type 0} (key : X → Bytes) (xs : List X) → Different key xs → (x y : X) → Member x xs → Member y xs → key x ≡ key y → x ≡ y
one_keyed key [] d x y i j e = absurd i
one_keyed key (z ∷ xs) d x y (inl p) (inl q) e = p ∙ sym q
one_keyed {X} key (z ∷ xs) d x y (inl p) (inr j) e = absurd (member_all (λ (w : X). key z ≡ key w → ⊥) xs y d.0 j (ap key (sym p) ∙ e))
one_keyed {X} key (z ∷ xs) d x y (inr i) (inl q) e = absurd (member_all (λ (w : X). key z ≡ key w → ⊥) xs x d.0 i (ap key (sym q) ∙ sym e))
one_keyed key (z ∷ xs) d x y (inr i) (inr j) e = one_keyed key xs d.1 x y i j e

-- a row has not the name n
abbrev pub Unnamed : Bytes → List (Tree variable) → Tree variable → Type 0
Unnamed n ys v = meaning v.0 ≡ n → ⊥

module _ (path text : Bytes) (os : List (Value an_output)) (ds : List Digits) (n : Bytes) (at : ℕ) (us : List (Placed Variable)) (vs : List (Tree variable)) where
  module _ (i : ℕ) (u : Placed Variable) (r : Split variable (in_variable text) at us vs i u) where
    pub name_there : said_in text u.value.name ≡ meaning r.x.0
    name_there = span_means text _ u.value.name r.x.0 r.held.0

    value_there : said_in text u.value.value ≡ meaning r.x.1
    value_there = span_means text _ u.value.value r.x.1 r.held.1

    there : Member r.x vs
    there = row_there variable Environment at [] vs (spot variable (in_variable text) Environment at us vs i u r) (take i vs, r.x) (row_stands variable (in_variable text) Environment at us vs i u r)

    pub row_right : said_in text u.value.name ≡ n → RightFor path os ds n (said_in text u.value.value) → VariableTold path os ds at vs n None
    row_right e w = (r.x, there, sym name_there ∙ e, right_moved n n _ _ refl value_there w)

    pub row_wrong : Different (λ v. meaning v.0) vs → said_in text u.value.name ≡ n → (RightFor path os ds n (said_in text u.value.value) → ⊥)
        → VariableTold path os ds at vs n (Some (spot variable (in_variable text) Environment at us vs i u r))
    row_wrong d e bar = (
      λ z.
          let same : z.0 ≡ r.x = one_keyed (λ (v : Tree variable). meaning v.0) vs d z.0 r.x z.1 there (z.2 ∙ sym e ∙ name_there) in
          bar (right_moved n n _ _ refl (ap (λ (v : Tree variable). meaning v.1) same ∙ sym value_there) z.3),
      here (take i vs, r.x) (row_stands variable (in_variable text) Environment at us vs i u r) (sym name_there ∙ e),
    )

  pub no_row : Clean variable (in_variable text) (Unnamed n) Environment at vs → VariableTold path os ds at vs n (Some (record { field = field_number Environment; row = 0; place = 0 }))
  no_row c =
      let none = each variable Environment (λ v. meaning v.0 ≡ n → ⊥) at [] vs c in
      (λ z. none z.0 z.1 z.2, nowhere none refl)
