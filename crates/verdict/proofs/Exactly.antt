-- A file is accepted exactly where its text, what it rests on and its paths are right.
use Rattle.std.proofs.Common.{◌≡◌, [], None, sym, refl, ap, ◌∙◌, subst, Ok, Err}
use Rattle.aterm.specs.Files.{output, variable, derivation}
use Rattle.aterm.specs.Grammar.{Tree, meaning}
use Rattle.canonical.specs.Canonical.{CanonicalText}
use Rattle.canonical.specs.Kinds as kinds
use Rattle.canonical.specs.Kinds.{Value}
use Rattle.canonical.specs.Meanings.{an_output, a_variable, a_derivation, Meaning, canonical}
use Rattle.canonical.specs.Order.{Member}
use Rattle.derivation.specs.Asked.{First}
use Rattle.derivation.specs.Questions.{output_rows, input_rows}
use Rattle.derivation.specs.declared.field.Field.TheVariants as fields
use Rattle.file_meaning.proofs.Again as again
use Rattle.hash_modulo.specs.Hashes.{Digest}
use Rattle.hash_modulo.specs.Paths.{OutputPath}
use Rattle.hash_modulo.specs.Sets.{Bytes, Files, Finite, Means, Ready, hashable}
use Rattle.hash_modulo.specs.Strings.{InputsHashed}
use Rattle.hash_modulo.proofs.Founding.{in_own_terms, hashable_ready}
use Rattle.hash_modulo.proofs.Hashes.{is_hashable, one_meaning, one_text}
use Rattle.hash_modulo.proofs.Paths.{output_paths}
use Rattle.verdict.specs.Judged.{output_of, there, owning, right_output, in_environment, PathsJudged, wrong_path, wrong_output, wrong_variable, not_canonical, right, Judged, unread, absent, unowned, unhashed, hashed}
use Rattle.verdict.specs.Laws.{OnlyCanonical, Sound, AcceptedExactly}
use Rattle.verdict.specs.declared.fault.Fault.{Fault}
use Rattle.verdict.specs.Verdicts.{Verdict}
use Rattle.verdict.proofs.Meant.{output_there, output_back, variable_there, variable_back, ready, rows_there, rows_owned}
use Rattle.verdict.proofs.Rows.{each, all_of}

refused_not : (v : Verdict) (f : Fault) → v ≡ Ok tt → v ≡ Err f → ⊥
refused_not v f a r = cc

-- ---- outputs and the environment, by the tree and by what it means

module _ (d : Digest) (p : Bytes) (g : Bytes → Bytes) (x : Tree derivation) (m : Meaning) (means : kinds.Means a_derivation x m) where
  abbrev Outputs : Type 0
  Outputs = (o : Value an_output) → Member o m.0 → OutputPath d p g m o o.1.0

  abbrev Variables : Type 0
  Variables = (o : Value an_output) → Member o m.0 → Member (o.0, o.1.0) m.1.1.1.1.1.1

  outputs_meant : First (right_output d p g m) (output_rows x) None → Outputs
  outputs_meant a o i =
      let z = output_back x m means o i in
      subst (λ (o : Value an_output). OutputPath d p g m o o.1.0) z.2
      (each output fields.Outputs (λ t. OutputPath d p g m (output_of t) (meaning t.1.0)) _ [] x.0 a z.0 z.1)

  outputs_told : Outputs → First (right_output d p g m) (output_rows x) None
  outputs_told f = all_of output fields.Outputs (λ t. OutputPath d p g m (output_of t) (meaning t.1.0)) _ [] x.0 (λ t i. f (output_of t) (output_there x m means t i))

  -- the environment has an output's name with the right path
  abbrev HasVariable : Tree output → Type 0
  HasVariable t = (v : Tree variable) × Member v x.1.1.1.1.1.1 × (meaning v.0 ≡ meaning t.0) × OutputPath d p g m (output_of t) (meaning v.1)

  variables_meant : Outputs → First (in_environment d p g m x) (output_rows x) None → Variables
  variables_meant f a o i =
      let z = output_back x m means o i in
      let w = each output fields.Outputs HasVariable _ [] x.0 a z.0 z.1 in
      let t = output_of z.0 in
      let q : meaning w.0.1 ≡ t.1.0 =
      output_paths.one d p g g m t (meaning w.0.1) t.1.0 (λ r j. refl) w.3 (f t (output_there x m means z.0 z.1)) in
      let e : ◌≡◌ {A = Value a_variable} (meaning w.0.0, meaning w.0.1) (t.0, t.1.0) = (λ j. (w.2 j, q j)) in
      let f : ◌≡◌ {A = Value a_variable} (t.0, t.1.0) (o.0, o.1.0) = ap (λ (o : Value an_output). (o.0, o.1.0)) z.2 in
      subst (λ (u : Value a_variable). Member u m.1.1.1.1.1.1) (e ∙ f) (variable_there x m means w.0 w.1)

  variables_told : Outputs → Variables → First (in_environment d p g m x) (output_rows x) None
  variables_told f h = all_of output fields.Outputs HasVariable _ [] x.0 has
    where
      has : (t : Tree output) → Member t x.0 → HasVariable t
      has t i =
          let o = output_of t in
          let j = output_there x m means t i in
          let w = variable_back x m means (o.0, o.1.0) (h o j) in
          (w.0, w.1, sym w.2, subst (OutputPath d p g m o) w.3 (f o j))

-- ---- there

module _ (set : Files) (fin : Finite set) (d : Digest) (p : Bytes) where
  module _ (m : Meaning) (f : Means set p m) (e : f.text ≡ canonical m) where
    only_canonical : OnlyCanonical set p
    only_canonical =
        let t = again.one_text p f.text m f.reads in
        record { meaning = m; means = f; canonical = subst (λ (b : Bytes). CanonicalText b m) (sym e) t.has; only = λ b c. t.only b c ∙ sym e }

  sound_paths : (v : Verdict) → v ≡ Ok tt → (m : Meaning) (f : Means set p m)
      → First (there set) (input_rows f.reads.tree) None → First (owning set) (input_rows f.reads.tree) None
      → (g : Bytes → Bytes) → InputsHashed set d m g → PathsJudged d p f.text f.reads.tree g m v → Sound set d p
  sound_paths v a m f present owned g h (wrong_path n e) = absurd (refused_not v _ a e)
  sound_paths v a m f present owned g h (wrong_output own w n e) = absurd (refused_not v _ a e)
  sound_paths v a m f present owned g h (wrong_variable own outs o n w z e) = absurd (refused_not v _ a e)
  sound_paths v a m f present owned g h (not_canonical own outs env place n e) = absurd (refused_not v _ a e)
  sound_paths v a m f present owned g h (right own outs env e _) =
      let x = f.reads.tree in
      let means = f.reads.means in
      let y = ready x m means set present owned in
      let outputs = outputs_meant d p g x m means outs in
      record {
        text = only_canonical m f e;
        founded = (in_own_terms set fin p).0 (hashable m f y (λ r i. is_hashable set d (h r i)));
        paths = record { meaning = m; means = f; hashes = g; inputs = h; own = own; outputs = outputs; variables = variables_meant d p g x m means outputs env };
      }

  sound : (v : Verdict) → v ≡ Ok tt → Judged set d p v → Sound set d p
  sound v a (unread text s f n e) = absurd (refused_not v _ a e)
  sound v a (absent m f w n e) = absurd (refused_not v _ a e)
  sound v a (unowned m f t w n e) = absurd (refused_not v _ a e)
  sound v a (unhashed m f t o w n e) = absurd (refused_not v _ a e)
  sound v a (hashed m f t o g h j) = sound_paths v a m f t o g h j

  -- ---- and back

  accepts : Sound set d p → Judged set d p (Ok tt)
  accepts s =
      let m = s.paths.meaning in
      let f = s.paths.means in
      let g = s.paths.hashes in
      let x = f.reads.tree in
      let means = f.reads.means in
      let y : Ready set m = hashable_ready ((in_own_terms set fin p).1 s.founded) m f in
      let k = s.text.means in
      let e : f.text ≡ canonical m =
      one_text (set p) f.text k.text f.at k.at
      ∙ (again.one_text p k.text s.text.meaning k.reads).only k.text s.text.canonical
      ∙ ap canonical (one_meaning set p s.text.meaning m k f) in
      hashed m f (rows_there x m means set y) (rows_owned x m means set y) g s.paths.inputs
      (right s.paths.own (outputs_told d p g x m means s.paths.outputs) (variables_told d p g x m means s.paths.outputs s.paths.variables) e refl)

pub accepted_exactly : AcceptedExactly
accepted_exactly set fin d p = (sound set fin d p (Ok tt) refl, accepts set fin d p)
