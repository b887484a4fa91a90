-- Whether a path is the one told for an output of a name, output by output.
use Rattle.std.proofs.Common.{◌≡◌, ℕ, ◌<◌, ◌≤◌, Bool, true, false, List, length, get_or, MatchBool, Decides, sym, refl, ap, ◌∙◌, subst, arith}
use Rattle.std.specs.List.{AllWithin, HoldsAt, zip}
use Rattle.std.proofs.lemmas.Bool.{false≢true}
use Rattle.std.proofs.lemmas.List.{get_or-map, length-map}
use Rattle.std.proofs.lemmas.Slice.Zip.{get_or-zip, length-zip}
use Rattle.aterm.specs.Files.{output, in_output}
use Rattle.aterm.specs.Grammar.{Tree, meaning}
use Rattle.aterm.specs.declared.file.Output.{Output}
use Rattle.aterm.specs.declared.rows.Placed.{Placed}
use Rattle.canonical.specs.Files.{said_in, values, output_value}
use Rattle.canonical.specs.Kinds.{Value}
use Rattle.canonical.specs.Meanings.{an_output}
use Rattle.derivation.specs.Questions.{output_name}
use Rattle.derivation.proofs.Scan.{Split}
use Rattle.hash_modulo.specs.Sets.{Bytes}
use Rattle.hash_modulo.specs.Strings.{no_output}
use Rattle.right_paths.specs.Worked.{full_store_path, no_digits}
use Rattle.right_paths.specs.declared.hashes.Digits.{Digits}
use Rattle.judge.specs.Stated.{RightFor, Told}
use Rattle.judge.specs.declared.right_outputs.RightOutputs.{RightOutputs}
use Rattle.judge.proofs.Standing.{blank_output, output_name_there, output_path_there}

pub refuted : {P : Type 0} → (P → ⊥) → Decides false P
refuted f = (λ e. absurd (false≢true e), λ p. absurd (f p))

pub right_moved : {path : Bytes} {os : List (Value an_output)} {ds : List Digits} (a b p q : Bytes) → a ≡ b → p ≡ q → RightFor path os ds a p → RightFor path os ds b q
right_moved {path} {os} {ds} a b p q e f w = subst (λ (n : Bytes). RightFor path os ds n q) e (subst (λ (z : Bytes). RightFor path os ds a z) f w)

module _ (path text : Bytes) (n q : Bytes) where
  -- the output has the name n, and q is the path with the digits beside it
  abbrev pub States : Placed Output × Digits → Type 0
  States p = (said_in text p.0.value.name ≡ n) × (q ≡ full_store_path p.1.bytes (output_name path n))

  module _ (vs : List (Placed Output)) (ds : List Digits) (fits : length vs ≤ length ds) where
    long : length (zip vs ds) ≡ length vs
    long = let l = length-zip vs ds in omega arith

    same_long : length (values (output_value text) vs) ≡ length vs
    same_long = length-map vs (λ (v : Placed Output). output_value text v.value)

    pair : (k : ℕ) → k < length vs → get_or (zip vs ds) k (blank_output, no_digits) ≡ (get_or vs k blank_output, get_or ds k no_digits)
    pair k h = get_or-zip vs ds k (blank_output, no_digits) h (omega arith)

    name_here : (k : ℕ) → k < length vs → (get_or (values (output_value text) vs) k no_output).0 ≡ said_in text (get_or vs k blank_output).value.name
    name_here k h = ap (λ (o : Value an_output). o.0) (get_or-map (λ (v : Placed Output). output_value text v.value) vs k blank_output no_output h)

    -- whether some output states it
    pub told_any : (r : Bool) → MatchBool r ((k : ℕ) × (k < length (zip vs ds)) × HoldsAt States (zip vs ds) k) (AllWithin (λ p. States p → ⊥) (zip vs ds) 0 (length (zip vs ds)))
        → Decides r (RightFor path (values (output_value text) vs) ds n q)
    told_any true (k, less, holds) = (
      λ _.
          let h : k < length vs = omega (arith, long) in
          let s : States (get_or vs k blank_output, get_or ds k no_digits) = subst States (pair k h) (holds (blank_output, no_digits)) in
          record { index = k; within = omega (arith, same_long); right = (name_here k h ∙ s.0, s.1) },
      λ _. refl,
    )
    told_any false none = (
      λ e. absurd (false≢true e),
      λ w.
          let h : w.index < length vs = omega (arith, same_long, w.within) in
          absurd (none w.index (blank_output, no_digits) (omega arith) (omega (arith, long)) (subst States (sym (pair w.index h)) (sym (name_here w.index h) ∙ w.right.0, w.right.1))),
    )

-- a row states the path told for it
abbrev pub StatesRight : RightOutputs → Placed Output → Type 0
StatesRight r v = Told r (said_in r.of.text.now v.value.name) (said_in r.of.text.now v.value.path)

module _ (r : RightOutputs) (from : ℕ) (vs : List (Placed Output)) (xs : List (Tree output)) (i : ℕ) (v : Placed Output) (s : Split output (in_output r.of.text.now) from vs xs i v) where
  pub right_there : StatesRight r v → Told r (meaning s.x.0) (meaning s.x.1.0)
  right_there = right_moved _ _ _ _ (output_name_there r.of.text.now from vs xs i v s) (output_path_there r.of.text.now from vs xs i v s)

  pub right_back : Told r (meaning s.x.0) (meaning s.x.1.0) → StatesRight r v
  right_back = right_moved _ _ _ _ (sym (output_name_there r.of.text.now from vs xs i v s)) (sym (output_path_there r.of.text.now from vs xs i v s))
