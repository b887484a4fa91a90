-- A file has one verdict only, but for the row that 20 tells.
use Rattle.std.proofs.Common.{◌≡◌, ℕ, ◌⊎◌, [], Some, None, sym, ap, ◌∙◌, subst, inl, inr, Ok, Err}
use Rattle.aterm.specs.Files.{output, input, variable, derivation}
use Rattle.aterm.specs.Grammar.{Tree, meaning, signs}
use Rattle.canonical.specs.Differences.{DifferAt}
use Rattle.canonical.specs.Kinds as kinds
use Rattle.canonical.specs.Meanings.{a_derivation, Meaning, canonical}
use Rattle.canonical.specs.Order.{Different}
use Rattle.canonical.proofs.Home.{whole_once}
use Rattle.derivation.specs.Asked.{First, FirstNo}
use Rattle.derivation.specs.Judgement.{IsFileFault}
use Rattle.derivation.specs.Questions.{output_rows, input_rows}
use Rattle.derivation.specs.declared.fault.FileFault.{FileFault}
use Rattle.derivation.specs.declared.field.Field.TheVariants.{Inputs, Environment}
use Rattle.derivation.specs.declared.spot.Spot.{Spot}
use Rattle.derivation.proofs.Judging.{first_once, not_both}
use Rattle.file_meaning.specs.Reads.{Reads}
use Rattle.file_meaning.proofs.Judged as files
use Rattle.file_meaning.proofs.Lists.{different}
use Rattle.file_meaning.proofs.Trees.{passes}
use Rattle.hash_modulo.specs.Hashes.{Digest}
use Rattle.hash_modulo.specs.Paths.{OwnPath}
use Rattle.hash_modulo.specs.Sets.{Bytes, Files, Means, Readable, Row, Names, Hashable}
use Rattle.hash_modulo.specs.Strings.{InputsHashed}
use Rattle.hash_modulo.proofs.Hashes.{one_text, one_meaning, is_hashable}
use Rattle.verdict.specs.Judged.{Behind, there, owning, UnhashedRow, right_output, in_environment, VariableAt, at, nowhere, PathsJudged, wrong_path, wrong_output, wrong_variable, not_canonical, right, Judged, unread, absent, unowned, unhashed, hashed}
use Rattle.verdict.specs.Laws.{BothUnhashed, OneVerdict}
use Rattle.verdict.specs.declared.fault.Fault.TheVariants.{Reading, Absent, Unowned, Unhashed, WrongPath, WrongOutput, WrongVariable, NotCanonical}
use Rattle.verdict.specs.Verdicts.{Verdict}
use Rattle.verdict.proofs.Meant.{input_there}
use Rattle.verdict.proofs.Paths.{agreed, output_moved, environment_moved}
use Rattle.verdict.proofs.Rows.{one_row, same_yes, same_no, row_there, one_spot}
use Rattle.verdict.proofs.Texts.{differ_not, one_place}

-- ---- one question after another: where P is not so the verdict is bad, and else the next question is put

abbrev Ask : Type 0 → (Verdict → Type 0) → (Verdict → Type 0) → Verdict → Type 0
Ask P bad next v = ((P → ⊥) × bad v) ⊎ (P × next v)

one_answer : (R : Verdict → Verdict → Type 0) (P : Type 0) (bad next : Verdict → Type 0) → ((v w : Verdict) → bad v → bad w → R v w) → ((v w : Verdict) → next v → next w → R v w)
    → (v w : Verdict) → Ask P bad next v → Ask P bad next w → R v w
one_answer R P bad next b g v w (inl x) (inl y) = b v w x.1 y.1
one_answer R P bad next b g v w (inl x) (inr y) = absurd (x.0 y.0)
one_answer R P bad next b g v w (inr x) (inl y) = absurd (y.0 x.0)
one_answer R P bad next b g v w (inr x) (inr y) = g v w x.1 y.1

-- ---- questions 21 to 24

module _ (x : Tree derivation) (apart : Different (λ v. meaning v.0) x.1.1.1.1.1.1) (n : Bytes) where
  one_variable : (v w : Spot) → VariableAt x n v → VariableAt x n w → v ≡ w
  one_variable v w (at e i a) (at f j b) = one_spot variable Environment (λ u. u.0) _ [] x.1.1.1.1.1.1 apart v w e f i j (a ∙ sym b)
  one_variable v w (at e i a) (nowhere none b) = absurd (none e.1 (row_there variable Environment _ [] x.1.1.1.1.1.1 v e i) a)
  one_variable v w (nowhere none a) (at f j b) = absurd (none f.1 (row_there variable Environment _ [] x.1.1.1.1.1.1 w f j) b)
  one_variable v w (nowhere none a) (nowhere _ b) = a ∙ sym b

module _ (d : Digest) (p text : Bytes) (x : Tree derivation) (g : Bytes → Bytes) (m : Meaning) where
  abbrev BadPath : Verdict → Type 0
  BadPath v = v ≡ Err WrongPath

  abbrev BadOutput : Verdict → Type 0
  BadOutput v = (w : Spot) × FirstNo (right_output d p g m) (output_rows x) w × (v ≡ Err (WrongOutput w))

  abbrev BadVariable : Verdict → Type 0
  BadVariable v =
      (o : Spot) × (first : FirstNo (in_environment d p g m x) (output_rows x) o) × (w : Spot) × VariableAt x (meaning first.row.1.0) w × (v ≡ Err (WrongVariable w))

  abbrev BadText : Verdict → Type 0
  BadText v = (place : ℕ) × DifferAt text (canonical m) place × (v ≡ Err (NotCanonical place))

  abbrev Good : Verdict → Type 0
  Good v = v ≡ Ok tt

  abbrev From24 : Verdict → Type 0
  From24 = Ask (text ≡ canonical m) BadText Good

  abbrev From23 : Verdict → Type 0
  From23 = Ask (First (in_environment d p g m x) (output_rows x) None) BadVariable From24

  abbrev From22 : Verdict → Type 0
  From22 = Ask (First (right_output d p g m) (output_rows x) None) BadOutput From23

  abbrev From21 : Verdict → Type 0
  From21 = Ask (OwnPath d p m p) BadPath From22

  asked : {v : Verdict} → PathsJudged d p text x g m v → From21 v
  asked (wrong_path n e) = inl (n, e)
  asked (wrong_output own w f e) = inr (own, inl (not_both (right_output d p g m) (output_rows x) w f, (w, f, e)))
  asked (wrong_variable own outs o f w a e) = inr (own, inr (outs, inl (not_both (in_environment d p g m x) (output_rows x) o f, (o, f, w, a, e))))
  asked (not_canonical own outs env place f e) = inr (own, inr (outs, inr (env, inl (differ_not text (canonical m) place f, (place, f, e)))))
  asked (right own outs env f e) = inr (own, inr (outs, inr (env, inr (f, e))))

  module _ (apart : Different (λ v. meaning v.0) x.1.1.1.1.1.1) where
    same_output : (v w : Verdict) → BadOutput v → BadOutput w → v ≡ w
    same_output v w (a, f, e) (b, g', k) = let h : a ≡ b = first_once (right_output d p g m) (output_rows x) a b f g' in cc

    same_variable : (v w : Verdict) → BadVariable v → BadVariable w → v ≡ w
    same_variable v w (a, f, s, y, e) (b, h, t, z, k) =
        let r = one_row (in_environment d p g m x) (output_rows x) a b f h in
        let y' : VariableAt x (meaning h.row.1.0) s = subst (λ (c : Spot × Behind (Tree output)). VariableAt x (meaning c.1.1.0) s) r y in
        let same : s ≡ t = one_variable x apart (meaning h.row.1.0) s t y' z in
        cc

    same_place : (v w : Verdict) → BadText v → BadText w → v ≡ w
    same_place v w (a, f, e) (b, h, k) = let same : a ≡ b = one_place text (canonical m) a b f h in cc

    one_paths : (v w : Verdict) → PathsJudged d p text x g m v → PathsJudged d p text x g m w → v ≡ w
    one_paths v w a b =
        one_answer ◌≡◌ (OwnPath d p m p) BadPath From22 (λ v w e k. e ∙ sym k)
        (one_answer ◌≡◌ (First (right_output d p g m) (output_rows x) None) BadOutput From23 same_output
        (one_answer ◌≡◌ (First (in_environment d p g m x) (output_rows x) None) BadVariable From24 same_variable
        (one_answer ◌≡◌ (text ≡ canonical m) BadText Good same_place (λ v w e k. e ∙ sym k))))
        v w (asked a) (asked b)

-- by other hashes that agree
module _ (d : Digest) (p text : Bytes) (x : Tree derivation) (m : Meaning) (f g : Bytes → Bytes) (agree : (r : Row) → Names m r → f r.0 ≡ g r.0) where
  back : (r : Row) → Names m r → g r.0 ≡ f r.0
  back r i = sym (agree r i)

  outputs_moved : First (right_output d p f m) (output_rows x) None → First (right_output d p g m) (output_rows x) None
  outputs_moved a = same_yes (right_output d p f m) (right_output d p g m) (λ e o. output_moved d p m f g agree _ _ o) (output_rows x) a

  variables_moved : First (in_environment d p f m x) (output_rows x) None → First (in_environment d p g m x) (output_rows x) None
  variables_moved a = same_yes (in_environment d p f m x) (in_environment d p g m x) (environment_moved d p m f g agree x) (output_rows x) a

  moved : {v : Verdict} → PathsJudged d p text x f m v → PathsJudged d p text x g m v
  unfolding same_no
  moved (wrong_path n e) = wrong_path n e
  moved (wrong_output own w a e) =
      wrong_output own w
      (same_no (right_output d p f m) (right_output d p g m) (λ r o. output_moved d p m f g agree _ _ o) (λ r o. output_moved d p m g f back _ _ o) (output_rows x) w a)
      e
  moved (wrong_variable own outs o a w n e) =
      wrong_variable own (outputs_moved outs) o
      (same_no (in_environment d p f m x) (in_environment d p g m x) (environment_moved d p m f g agree x) (environment_moved d p m g f back x) (output_rows x) o a)
      w n e
  moved (not_canonical own outs env place a e) = not_canonical own (outputs_moved outs) (variables_moved env) place a e
  moved (right own outs env a e) = right own (outputs_moved outs) (variables_moved env) a e

-- ---- questions 18 to 20

module _ (set : Files) (d : Digest) (p text : Bytes) (x : Tree derivation) (m : Meaning) where
  abbrev BadAbsent : Verdict → Type 0
  BadAbsent v = (w : Spot) × FirstNo (there set) (input_rows x) w × (v ≡ Err (Absent w))

  abbrev BadOwning : Verdict → Type 0
  BadOwning v = (w : Spot) × FirstNo (owning set) (input_rows x) w × (v ≡ Err (Unowned w))

  abbrev BadHash : Verdict → Type 0
  BadHash v = (w : Spot) × UnhashedRow set x w × (v ≡ Err (Unhashed w))

  abbrev JudgedPaths : Verdict → Type 0
  JudgedPaths v = (g : Bytes → Bytes) × InputsHashed set d m g × PathsJudged d p text x g m v

  abbrev From20 : Verdict → Type 0
  From20 = Ask ((r : Row) → Names m r → Hashable set r.0) BadHash JudgedPaths

  abbrev From19 : Verdict → Type 0
  From19 = Ask (First (owning set) (input_rows x) None) BadOwning From20

  abbrev From18 : Verdict → Type 0
  From18 = Ask (First (there set) (input_rows x) None) BadAbsent From19

  unhashed_not : kinds.Means a_derivation x m → (w : Spot) → UnhashedRow set x w → ((r : Row) → Names m r → Hashable set r.0) → ⊥
  unhashed_not means w u all =
      let z = input_there x m means u.row.1 (row_there input Inputs _ [] x.1.0 w u.row u.stands) in
      u.without (subst (Hashable set) z.2 (all z.0 z.1))

  abbrev Alike : Verdict → Verdict → Type 0
  Alike v w = (v ≡ w) ⊎ BothUnhashed v w

  same_absent : (v w : Verdict) → BadAbsent v → BadAbsent w → Alike v w
  same_absent v w (a, f, e) (b, h, k) = let same : a ≡ b = first_once (there set) (input_rows x) a b f h in inl (cc)

  same_owning : (v w : Verdict) → BadOwning v → BadOwning w → Alike v w
  same_owning v w (a, f, e) (b, h, k) = let same : a ≡ b = first_once (owning set) (input_rows x) a b f h in inl (cc)

  same_hash : (v w : Verdict) → BadHash v → BadHash w → Alike v w
  same_hash v w (a, f, e) (b, h, k) = inr (record { one = a; two = b; first = e; second = k })

  module _ (apart : Different (λ v. meaning v.0) x.1.1.1.1.1.1) where
    same_paths : (v w : Verdict) → JudgedPaths v → JudgedPaths w → Alike v w
    same_paths v w (f, a, j) (g, b, k) = inl (one_paths d p text x g m apart v w (moved d p text x m f g (agreed set d m f g a b) j) k)

    one_from_18 : (v w : Verdict) → From18 v → From18 w → Alike v w
    one_from_18 =
        one_answer Alike (First (there set) (input_rows x) None) BadAbsent From19 same_absent
        (one_answer Alike (First (owning set) (input_rows x) None) BadOwning From20 same_owning
        (one_answer Alike ((r : Row) → Names m r → Hashable set r.0) BadHash JudgedPaths same_hash same_paths))

-- ---- the whole

module _ (set : Files) (d : Digest) (p : Bytes) where
  abbrev BadReading : Verdict → Type 0
  BadReading v = (text : Bytes) × (set p ≡ Some text) × (f : FileFault) × IsFileFault p text f × (v ≡ Err (Reading f))

  abbrev Read : Verdict → Type 0
  Read v = (m : Meaning) × (f : Means set p m) × From18 set d p f.text f.reads.tree m v

  put : {v : Verdict} → Judged set d p v → Ask (Readable set p) BadReading Read v
  put (unread text s f h e) =
      inl (λ z. files.not_both p text z.0 f (subst (λ (t : Bytes). Reads p t z.0) (one_text (set p) z.1.text text z.1.at s) z.1.reads) h, (text, s, f, h, e))
  put (absent m f w h e) = inr ((m, f), (m, f, inl (not_both (there set) (input_rows f.reads.tree) w h, (w, h, e))))
  put (unowned m f a w h e) = inr ((m, f), (m, f, inr (a, inl (not_both (owning set) (input_rows f.reads.tree) w h, (w, h, e)))))
  put (unhashed m f a o w h e) = inr ((m, f), (m, f, inr (a, inr (o, inl (unhashed_not set d p f.text f.reads.tree m f.reads.means w h, (w, h, e))))))
  put (hashed m f a o g h j) = inr ((m, f), (m, f, inr (a, inr (o, inr (λ r i. is_hashable set d (h r i), (g, h, j))))))

  same_reading : (v w : Verdict) → BadReading v → BadReading w → (v ≡ w) ⊎ BothUnhashed v w
  same_reading v w (t, s, f, a, e) (u, r, h, b, k) =
      let same : t ≡ u = one_text (set p) t u s r in
      let fault : f ≡ h = files.one_fault p u f h (subst (λ (z : Bytes). IsFileFault p z f) same a) b in
      inl (cc)

  same_read : (v w : Verdict) → Read v → Read w → (v ≡ w) ⊎ BothUnhashed v w
  same_read v w (m, f, a) (n, h, b) =
      let texts : h.text ≡ f.text = one_text (set p) h.text f.text h.at f.at in
      let meanings : n ≡ m = one_meaning set p n m h f in
      let trees : h.reads.tree ≡ f.reads.tree = whole_once h.reads.tree f.reads.tree (sym h.reads.written ∙ ap signs texts ∙ f.reads.written) in
      let path : ◌≡◌ {A = Bytes × Tree derivation × Meaning} (h.text, h.reads.tree, n) (f.text, f.reads.tree, m) = λ i. (texts i, trees i, meanings i) in
      let apart = different (λ u. u.0) f.reads.tree.1.1.1.1.1.1 (passes p f.reads.tree f.reads.passed).new_variables in
      one_from_18 set d p f.text f.reads.tree m apart v w a (subst (λ (z : Bytes × Tree derivation × Meaning). From18 set d p z.0 z.1 z.2 w) path b)

pub one_verdict : OneVerdict
one_verdict set d p v w a b =
    one_answer (λ v w. (v ≡ w) ⊎ BothUnhashed v w) (Readable set p) (BadReading set d p) (Read set d p) (same_reading set d p) (same_read set d p)
    v w (put set d p a) (put set d p b)
