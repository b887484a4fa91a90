-- Questions 21 to 24 by digits, and by the definition's right paths.
use Rattle.std.proofs.Common.{◌≡◌, ℕ, ◌+◌, List, [], ◌∷◌, get_or, None, sym, refl, ap, ◌∙◌, subst}
use Rattle.std.proofs.ByRecursion.{All-weaker}
use Rattle.aterm.specs.Files.{output, variable, derivation, whole}
use Rattle.aterm.specs.Grammar.{Tree, signs, meaning}
use Rattle.canonical.specs.Kinds.{Value, Means}
use Rattle.canonical.specs.Meanings.{an_output, a_derivation, Meaning}
use Rattle.canonical.specs.Order.{Under, Member, Rising, Different}
use Rattle.canonical.proofs.Home.{whole_once}
use Rattle.canonical.proofs.Members.{member_at, place_of}
use Rattle.canonical.proofs.Orders.{under_not_self}
use Rattle.derivation.specs.Asked.{FirstNo, First}
use Rattle.derivation.specs.Questions.{output_name, output_rows, place_7}
use Rattle.derivation.specs.declared.field.Field.TheVariants.{Outputs}
use Rattle.derivation.specs.declared.spot.Spot.{Spot}
use Rattle.hash_modulo.specs.Hashes.{Digest}
use Rattle.hash_modulo.specs.Paths.{file_name, OwnPath, OutputPath}
use Rattle.hash_modulo.specs.Sets.{Bytes}
use Rattle.hash_modulo.specs.Strings.{no_output}
use Rattle.hash_modulo.proofs.Paths.{own_paths, output_paths}
use Rattle.right_paths.specs.Worked.{full_store_path, no_digits, RightDigits}
use Rattle.right_paths.specs.declared.hashes.Digits.{Digits}
use Rattle.verdict.specs.Judged.{Behind, output_of, right_output, in_environment, VariableAt, at, nowhere as not_there, PathsJudged}
use Rattle.verdict.specs.Verdicts.{Verdict}
use Rattle.verdict.proofs.Meant.{output_there}
use Rattle.verdict.proofs.Rows.{row_there}
use Rattle.judge.specs.Stated.{StandsAt, here, nowhere, RightFor, VariableRight}
use Rattle.judge.proofs.Environment.{one_keyed}
use Rattle.judge.proofs.Moving.{yes_moved, no_moved}

-- ---- rows of a rising list

rising_different : {X : Type 0} (key : X → Bytes) (xs : List X) → Rising key xs → Different key xs
rising_different key [] r = tt
rising_different {X} key (x ∷ xs) r = (
  All-weaker (λ (y : X). Under (key x) (key y)) (λ (y : X). key x ≡ key y → ⊥) (λ y u e. under_not_self (key y) (subst (λ (k : Bytes). Under k (key y)) e u)) xs r.0,
  rising_different key xs r.1,
)

-- ---- one tree

pub at_tree : (d : Digest) (p text : Bytes) (g : Bytes → Bytes) (m : Meaning) (v : Verdict) (x y : Tree derivation) → signs text ≡ whole x → signs text ≡ whole y
    → PathsJudged d p text x g m v → PathsJudged d p text y g m v
at_tree d p text g m v x y e f j = subst (λ (z : Tree derivation). PathsJudged d p text z g m v) (whole_once x y (sym e ∙ f)) j

module _ (d : Digest) (p : Bytes) (g : Bytes → Bytes) (m : Meaning) (own : List ℕ) (ds : List Digits) (right : RightDigits d p g m own ds) where
  -- ---- 21

  pub own_there : p ≡ full_store_path own (file_name p) → OwnPath d p m p
  own_there e = subst (OwnPath d p m) (sym e) right.own_path

  pub own_back : OwnPath d p m p → p ≡ full_store_path own (file_name p)
  own_back a = own_paths.one d p m p (full_store_path own (file_name p)) a right.own_path

  -- ---- 22

  module _ (x : Tree derivation) (means : Means a_derivation x m) where
    abbrev environment : List (Tree variable)
    environment = x.1.1.1.1.1.1

    module _ (t : Tree output) (i : Member t x.0) (q : Bytes) where
      path_there : RightFor p m.0 ds (meaning t.0) q → OutputPath d p g m (output_of t) q
      path_there w =
          let o = get_or m.0 w.index no_output in
          let same : o ≡ output_of t =
          one_keyed (λ (v : Value an_output). v.0) m.0 (rising_different (λ (v : Value an_output). v.0) m.0 means.0.1.1.rises) o (output_of t) (member_at m.0 w.index no_output w.within) (output_there x m means t i) w.right.0 in
          subst (λ (z : Bytes). OutputPath d p g m (output_of t) z)
          (ap (λ (n : Bytes). full_store_path (get_or ds w.index no_digits).bytes (output_name p n)) w.right.0 ∙ sym w.right.1)
          (subst (λ (v : Value an_output). OutputPath d p g m v (full_store_path (get_or ds w.index no_digits).bytes (output_name p o.0))) same (right.output_paths w.index w.within))

      path_back : OutputPath d p g m (output_of t) q → RightFor p m.0 ds (meaning t.0) q
      path_back a =
          let z = place_of m.0 no_output (output_of t) (output_there x m means t i) in
          let name : (get_or m.0 z.0 no_output).0 ≡ meaning t.0 = ap (λ (v : Value an_output). v.0) z.2 in
          let b = subst (λ (v : Value an_output). OutputPath d p g m v (full_store_path (get_or ds z.0 no_digits).bytes (output_name p v.0))) z.2 (right.output_paths z.0 z.1) in
          record { index = z.0; within = z.1; right = (name, output_paths.one d p g g m (output_of t) q _ (λ r k. refl) a b) }

    row_of_outputs : (w : Spot) (e : Behind (Tree output)) → Member (w, e) (output_rows x) → Member e.1 x.0
    row_of_outputs w e i = row_there output Outputs 8 [] x.0 w e i

    abbrev Stated : Behind (Tree output) → Type 0
    Stated e = RightFor p m.0 ds (meaning e.1.0) (meaning e.1.1.0)

    pub outputs_right : First Stated (output_rows x) None → First (right_output d p g m) (output_rows x) None
    outputs_right a = yes_moved Stated (right_output d p g m) (output_rows x) (λ w e i. path_there e.1 (row_of_outputs w e i) (meaning e.1.1.0)) a

    pub output_wrong : (w : Spot) → FirstNo Stated (output_rows x) w → FirstNo (right_output d p g m) (output_rows x) w
    output_wrong w f =
        (no_moved Stated (right_output d p g m) (output_rows x)
        (λ v e i. path_there e.1 (row_of_outputs v e i) (meaning e.1.1.0))
        (λ v e i. path_back e.1 (row_of_outputs v e i) (meaning e.1.1.0)) w f).0

    -- ---- 23

    abbrev Held : Behind (Tree output) → Type 0
    Held e = VariableRight p m.0 ds environment (meaning e.1.0)

    variable_there : (w : Spot) (e : Behind (Tree output)) → Member (w, e) (output_rows x) → Held e → in_environment d p g m x e
    variable_there w e i z = (z.0, z.1, z.2, path_there e.1 (row_of_outputs w e i) (meaning z.0.1) z.3)

    variable_back : (w : Spot) (e : Behind (Tree output)) → Member (w, e) (output_rows x) → in_environment d p g m x e → Held e
    variable_back w e i z = (z.0, z.1, z.2, path_back e.1 (row_of_outputs w e i) (meaning z.0.1) z.3)

    pub variables_right : First Held (output_rows x) None → First (in_environment d p g m x) (output_rows x) None
    variables_right a = yes_moved Held (in_environment d p g m x) (output_rows x) variable_there a

    stands : (n k : Bytes) → k ≡ n → (w : Spot) → StandsAt (place_7 x + 1) environment n w → VariableAt x k w
    stands n k e w (here r i q) = at r i (q ∙ sym e)
    stands n k e w (nowhere none q) = not_there (λ v i f. none v i (f ∙ e)) q

    pub variable_wrong : (w o : Spot) (f : FirstNo Held (output_rows x) o) → StandsAt (place_7 x + 1) environment (meaning f.row.1.0) w
        → (first : FirstNo (in_environment d p g m x) (output_rows x) o) × VariableAt x (meaning first.row.1.0) w
    variable_wrong w o f s =
        let h = no_moved Held (in_environment d p g m x) (output_rows x) variable_there variable_back o f in
        (h.0, stands (meaning f.row.1.0) (meaning h.0.row.1.0) (ap (λ (e : Behind (Tree output)). meaning e.1.0) h.1) w s)
