-- What is worked out for one right path of a file is what path answers of that file in a set that has it.
use mathlib.Core.Logic.{∥∥₁_elim}
use mathlib.Core.HLevel.{⊥_prop}
use native.Mathlib.Bridge.{le_prop}
use Rattle.std.proofs.Common.{◌≡◌, ℕ, zero, suc, ◌<◌, ◌≤◌, Bool, true, false, cond, List, [], ◌∷◌, length, get_or, codes, Some, None, Option, Ok, Err, Result, IfOk, IfErr, sym, refl, ap, ◌∙◌, subst, inl, inr, arith}
use Rattle.std.specs.Str.{bytes_eq}
use Rattle.std.proofs.lemmas.List.FromFn.{length-map-range_with_len}
use Rattle.canonical.specs.Kinds.{Value}
use Rattle.canonical.specs.Meanings.{an_output, Meaning}
use Rattle.derivation.specs.Questions.{output_name}
use Rattle.hash_modulo.specs.Hashes.{Fixed, Hashed}
use Rattle.hash_modulo.specs.Paths.{file_name, OwnPath, OutputPath, of_fixed, of_masked}
use Rattle.hash_modulo.specs.Sets.{Bytes, Files, Means, Hashable, hashable}
use Rattle.hash_modulo.specs.Strings.{own_strings, fixed_strings, output_string, InputsHashed, RightPath, own, output, no_output}
use Rattle.hash_modulo.proofs.Founding.{hashable_ready}
use Rattle.hash_modulo.proofs.Hashes.{one_meaning, is_hashable}
use Rattle.hash_modulo.proofs.Hashes as hashes
use Rattle.image.specs.Layout.{file_text, file_path}
use Rattle.image.specs.Opening.{Opens}
use Rattle.right_paths.specs.Worked.{full_store_path}
use Rattle.links.proofs.Files.{paths_named}
use Rattle.store_path.specs.Names.{StorePath}
use Rattle.store_path.proofs.Deciding.{full_store_path as store_path?}
use Rattle.hash_rows.specs.declared.hash.Hash.{Hash}
use Rattle.checker.specs.Settling.{hash_if, hash_kept}
use Rattle.checker.specs.declared.state.State.{State}
use Rattle.checker.specs.declared.state.State.TheVariants.{Pending, Taken, Settled}
use Rattle.sink.specs.Write as sinks
use Rattle.store_path.specs.Base32.{base32, character}
use Rattle.checker.specs.Calls.{Kind, D, Put, Paths, own as own_needed, fixed, masked, HasHash, HasOutput}
use Rattle.checker.specs.Locating.{path_length, of_fixed as by_fixed, of_masked as by_masked, KeptHashes, PathPut, OwnLocated, OutputLocated, FileLocated, LocatedIfRead, path_name, PathRefused}
use Rattle.checker.specs.Soundness.{SoundView}
use Rattle.checker.specs.Views.{View, Open, files, path_at, Exists, HashedAt}
use Rattle.checker.specs.declared.refused.CallRefusal.{CallRefusal}
use Rattle.checker.specs.declared.state.Hashes.{Hashes}
use Rattle.checker.proofs.Locating.{located}
use Rattle.checker.proofs.Placing.{long}
use Rattle.checker.proofs.Rewritten.{means_at, reads_at}

-- ---- how long a right path is

digits_long : (bs : List ℕ) → length (base32 bs) ≡ 32
unfolding base32
digits_long bs = length-map-range_with_len (character bs) 0 32

module _ (set : Files) (d : Bytes → Bytes) (p : Bytes) where
  own_long : {m : Meaning} {q : Bytes} → OwnPath d p m q → length q ≡ path_length (file_name p)
  own_long x = ap length x.is ∙ long _ (file_name p) (digits_long _)

  one_long : (b : Bool) (x y name : Bytes) → length (cond b (full_store_path (base32 x) name) (full_store_path (base32 y) name)) ≡ path_length name
  one_long true x y name = long _ name (digits_long x)
  one_long false x y name = long _ name (digits_long y)

  output_long : {g : Bytes → Bytes} {m : Meaning} {o : Value an_output} {q : Bytes} → OutputPath d p g m o q → length q ≡ path_length (output_name p o.0)
  output_long {o = o} (of_fixed f e) = ap length e ∙ one_long (bytes_eq o.1.1.0 (codes "r:sha256")) _ _ (output_name p o.0)
  output_long {o = o} (of_masked n s t e) = ap length e ∙ long _ (output_name p o.0) (digits_long _)

  right_long : (m : Meaning) → Means set p m → {j : ℕ} {q : Bytes} → RightPath set d p j q → length q ≡ path_length (path_name p m j)
  right_long m e (own n f x) = own_long x
  right_long m e {q = q} (output n f y g h i l x) =
      subst (λ (w : Meaning). length q ≡ path_length (output_name p (get_or w.0 i no_output).0)) (one_meaning set p n m f e) (output_long x)

-- ---- what is written: where there is an answer, a whole text from the buffer's start

put_written : (long : ℕ) (Is : Bytes → sinks.Meaning → Type 0) (out : List ℕ) (before : sinks.Meaning) (r : Result ℕ CallRefusal) (after : List ℕ) (sink : sinks.Meaning)
    → PathPut long Is out before r after sink → IfOk r (λ n. (q : List ℕ) × Put q out n after)
put_written long Is out before (Ok n) after sink (q, is, put) = (q, put)
put_written long Is out before (Err e) after sink w = tt

pub path_written : (kind : Kind) (v : View) (p t : Bytes) (j : ℕ) (out : List ℕ) (before : sinks.Meaning) (r : Result ℕ CallRefusal) (after : List ℕ) (sink : sinks.Meaning)
    → LocatedIfRead kind v p t j out before r after sink → IfOk r (λ n. (q : List ℕ) × Put q out n after)
path_written kind v p t j out before (Err e) after sink w = tt
path_written kind v p t zero out before (Ok n) after sink (inl (m, reads, w)) =
    put_written (path_length (file_name p)) (OwnLocated kind p m before) out before (Ok n) after sink w
path_written kind v p t (suc i) out before (Ok n) after sink (inl (m, reads, inl (less, w))) =
    let o = get_or m.0 i no_output in
    put_written (path_length (output_name p o.0)) (OutputLocated kind v p m o before) out before (Ok n) after sink w
path_written kind v p t (suc i) out before (Ok n) after sink (inl (m, reads, inr (more, is, same, stays))) = absurd (cc)
path_written kind v p t j out before (Ok n) after sink (inr (none, is, same, stays)) = absurd (cc)

-- ---- a refusal

module _ (v : View) (k : ℕ) (opens : Opens v.image v.count) (o : Open v) (x : Exists v k) (h : HasHash v k) where
  pub path_refused : (kind : Kind) (j : ℕ) (out : List ℕ) (before : sinks.Meaning) (r : Result ℕ CallRefusal) (after : List ℕ) (sink : sinks.Meaning)
      → LocatedIfRead kind v (path_at v k) (file_text v.image k) j out before r after sink → IfErr r (PathRefused v k j (length out))
  path_refused kind j out before (Ok n) after sink w = tt
  path_refused kind zero out before (Err f) after sink (inl (m, reads, (inl (short, is), same, stays))) =
      let e = means_at v k opens x m reads in
      inr (o, inr (x, inr ((h, (m, e)), inr ((m, e, omega arith), inl ((λ fits. short (fits m e)), is)))))
  path_refused kind zero out before (Err f) after sink (inl (m, reads, (inr (y, done), same, stays))) = absurd done
  path_refused kind (suc i) out before (Err f) after sink (inl (m, reads, inl (less, (inl (short, is), same, stays)))) =
      let e = means_at v k opens x m reads in
      inr (o, inr (x, inr ((h, (m, e)), inr ((m, e, omega (arith, less)), inl ((λ fits. short (fits m e)), is)))))
  path_refused kind (suc i) out before (Err f) after sink (inl (m, reads, inl (less, (inr (y, done), same, stays)))) = absurd done
  path_refused kind (suc i) out before (Err f) after sink (inl (m, reads, inr (more, is, same, stays))) =
      let e = means_at v k opens x m reads in
      inr (o, inr (x, inr ((h, (m, e)), inl ((λ z. more (omega (arith, z.2, ap (λ (w : Meaning). length w.0) (one_meaning (files v) (path_at v k) z.0 m z.1 e)))), cc))))
  path_refused kind j out before (Err f) after sink (inr (none, is, same, stays)) =
      inr (o, inr (x, inl ((λ w. none (w.1.0, reads_at v k opens x w.1.0 w.1.1)), cc)))

-- ---- the file k of a set

module _ (kind : Kind) (v : View) (k : ℕ) (opens : Opens v.image v.count) (sound : SoundView kind v) (o : Open v) (x : Exists v k) (h : Hashes) (a : HashedAt v k h) where
  abbrev set : Files
  set = files v

  abbrev p : Bytes
  p = path_at v k

  right_hash : (i : ℕ) (u : Hashes) → HashedAt v i u → Hashed set (D kind) (path_at v i) u.hash.bytes
  right_hash i u b = (sound.right i b.settlement b.exists b.settled).hash u b.is

  can : Hashable set p
  can = is_hashable set (D kind) (right_hash k h a)

  inputs : (m : Meaning) → Means set p m → (g : Bytes → Bytes) → KeptHashes v m g → InputsHashed set (D kind) m g
  inputs m e g known r n =
      let z = sound.inputs k h a m e r n in
      subst (Hashed set (D kind) r.0) (sym (known r n z.0 z.1 z.2 z.3))
      (subst (λ (q : Bytes). Hashed set (D kind) q z.1.hash.bytes) z.2.is (right_hash z.0 z.1 z.3))

  only_at : (m : Meaning) (f : Fixed m) (i : ℕ) → i < length m.0 → get_or m.0 i no_output ≡ f.only
  only_at m f i l =
      let z : i ≡ 0 = omega (arith, ap length f.whole) in
      ap (get_or m.0 i) refl ∙ ap (λ (n : ℕ). get_or m.0 n no_output) z ∙ ap (λ (os : List (Value an_output)). get_or os 0 no_output) f.whole

  answers : (m : Meaning) → Means set p m → (j : ℕ) (out : List ℕ) (before : sinks.Meaning) (r : Result ℕ CallRefusal) (after : List ℕ) (sink : sinks.Meaning)
      → FileLocated kind v p m j out before r after sink → Paths kind v k j out before r after sink
  answers m e zero out before (Ok n) after sink (q, w, put) = (
    o,
    x,
    (h, a),
    (m, e, omega arith),
    record {
      right = q;
      is = own m e w.own;
      put = put;
      strings = own_strings (D kind) p m w.references;
      needed = own_needed m e w.references w.right refl;
      holds = w.holds;
    },
  )
  answers m e zero out before (Err f) after sink (inl (short, is), same, stays) =
      let z = located set (D kind) p can m e zero (omega arith) in
      (inr (o, inr (x, inr ((h, a), inr ((m, e, omega arith), inl ((λ fits. short (subst (λ (n : ℕ). n ≤ length out) (right_long set (D kind) p m e z.is) (fits z.right z.is))), is))))), same, stays)
  answers m e zero out before (Err f) after sink (inr (y, done), same, stays) = absurd done
  answers m e (suc i) out before (Ok n) after sink (inl (l, (q, by_fixed f is holds, put))) = (
    o,
    x,
    (h, a),
    (m, e, omega (arith, l)),
    record {
      right = q;
      is =
          let g = located_inputs in
          output m e (hashable_ready can m e) g.0 g.1 i l (of_fixed f is);
      put = put;
      strings = fixed_strings (D kind) p (get_or m.0 i no_output);
      needed = fixed m e f (ap (fixed_strings (D kind) p) (only_at m f i l));
      holds = holds;
    },
  )
    where
      located_inputs : (g : Bytes → Bytes) × InputsHashed set (D kind) m g
      located_inputs = hashes.chosen (Hashed set (D kind)) m.1.0 (λ r n. hashes.has_hash set (D kind) (hashes.inputs_hashable can m e r n))
  answers m e (suc i) out before (Ok n) after sink (inl (l, (q, by_masked none g known t ms is holds, put))) = (
    o,
    x,
    (h, a),
    (m, e, omega (arith, l)),
    record {
      right = q;
      is = output m e (hashable_ready can m e) g (inputs m e g known) i l (of_masked none t ms is);
      put = put;
      strings = t ∷ output_string (D kind) p t (get_or m.0 i no_output) ∷ [];
      needed = masked m e none g (inputs m e g known) t ms refl;
      holds = holds;
    },
  )
  answers m e (suc i) out before (Err f) after sink (inl (l, (inl (short, is), same, stays))) =
      let z = located set (D kind) p can m e (suc i) (omega (arith, l)) in
      (inr (o, inr (x, inr ((h, a), inr ((m, e, omega (arith, l)), inl ((λ fits. short (subst (λ (n : ℕ). n ≤ length out) (right_long set (D kind) p m e z.is) (fits z.right z.is))), is))))), same, stays)
  answers m e (suc i) out before (Err f) after sink (inl (l, (inr (y, done), same, stays))) = absurd done
  answers m e (suc i) out before (Err f) after sink (inr (none, is, same, stays)) =
      (inr (o, inr (x, inr ((h, a), inl (no_output_there, cc)))), same, stays)
    where
      no_output_there : HasOutput v k (suc i) → ⊥
      no_output_there z = none (omega (arith, z.2, ap (λ (w : Meaning). length w.0) (one_meaning set p z.0 m z.1 e)))
  answers m e (suc i) out before (Ok n) after sink (inr (none, is, same, stays)) = absurd (cc)

  pub path_answered : (j : ℕ) (out : List ℕ) (before : sinks.Meaning) (r : Result ℕ CallRefusal) (after : List ℕ) (sink : sinks.Meaning)
      → LocatedIfRead kind v p (file_text v.image k) j out before r after sink → Paths kind v k j out before r after sink
  path_answered j out before r after sink (inl (m, reads, w)) = answers m (means_at v k opens x m reads) j out before r after sink w
  path_answered j out before r after sink (inr (none, is, same, stays)) = absurd (unread can)
    where
      unread : Hashable set p → ⊥
      unread (hashable m e y i) = none (m, reads_at v k opens x m e)

-- ---- the file k of an image

module _ (img : Bytes) (n : ℕ) (opens : ∥ Opens img n ∥₁) (k : ℕ) (from : 1 ≤ k) (to : k ≤ n) where
  pub stored_at : StorePath (file_path img k)
  stored_at = elim (store_path? (file_path img k)) [ inl y ↦ y | inr none ↦ absurd (∥∥₁_elim opens ⊥_prop (λ w. none (paths_named img n w k from to).store)) ]

  pub near_at : length (file_path img k) ≤ 255
  near_at = ∥∥₁_elim opens (le_prop {n = length (file_path img k)} {m = 255}) (λ w. (paths_named img n w k from to).short)

  pub short_at : length (file_text img k) ≤ 262144
  short_at = ∥∥₁_elim opens (le_prop {n = length (file_text img k)} {m = 262144}) (λ w. (paths_named img n w k from to).text)

-- a state in which a hash is kept
pub hashed_at : (v : View) (k : ℕ) → Exists v k → (s : State) → s ≡ v.row k → (r : Option Hash) → r ≡ hash_kept s → (r ≡ None → ⊥) → (h : Hashes) × HashedAt v k h
hashed_at v k x Pending e r q n = absurd (n q)
hashed_at v k x Taken e r q n = absurd (n q)
hashed_at v k x (Settled t) e r q n = by t.hashes refl
  where
    by : (y : Option Hashes) → t.hashes ≡ y → (h : Hashes) × HashedAt v k h
    by None z = absurd (n (q ∙ ap hash_if z))
    by (Some h) z = (h, record { exists = x; settlement = t; settled = sym e; is = z })

-- what a set answers, its checker does
pub path_in : (kind : Kind) (u w : View) (k j : ℕ) (out : List ℕ) (before : sinks.Meaning) (r : Result ℕ CallRefusal) (after : List ℕ) (sink : sinks.Meaning)
    → u ≡ w → (SoundView kind w → Paths kind w k j out before r after sink) → SoundView kind u → Paths kind u k j out before r after sink
path_in kind u w k j out before r after sink same f sound =
    subst (λ (v : View). Paths kind v k j out before r after sink) (sym same) (f (subst (SoundView kind) same sound))
