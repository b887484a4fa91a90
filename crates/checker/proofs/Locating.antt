-- What settling a file decides is there, and so are its right paths; and a digest sink can hold the last of what is digested for either.
use Rattle.std.proofs.Common.{◌≡◌, ℕ, zero, suc, ◌≤◌, Bool, true, false, cond, List, [], ◌∷◌, length, Some, None, Option, ◌⊎◌, sym, refl, subst, inl, inr, arith}
use Rattle.std.specs.Str.{bytes_eq}
use Rattle.std.specs.Prelude.{codes, slice_index_or}
use Rattle.canonical.specs.Meanings.{Meaning}
use Rattle.hash_modulo.specs.Hashes.{Digest, Hashed}
use Rattle.hash_modulo.specs.Laws.{Wide}
use Rattle.hash_modulo.specs.Paths.{OutputPath}
use Rattle.hash_modulo.specs.Sets.{Bytes, Files, Means, Hashable, hashable}
use Rattle.hash_modulo.specs.Strings.{own_strings, fixed_strings, output_string, all_lengths, FileStrings, of_fixed, of_text, InputsHashed, RightPath, own, output, no_output}
use Rattle.hash_modulo.proofs.Choosing.{decided}
use Rattle.hash_modulo.proofs.Deciding.{fixed?}
use Rattle.hash_modulo.proofs.Digests.{digested_stand, hash_wide}
use Rattle.hash_modulo.proofs.Founding.{hashable_ready}
use Rattle.hash_modulo.proofs.Hashes.{chosen, has_hash, inputs_hashable}
use Rattle.hash_modulo.proofs.Paths.{masked_string, own_paths, output_paths}
use Rattle.hash_rows.specs.declared.hash.Hash.{Hash}
use Rattle.image.specs.Opening.{Opens}
use Rattle.links.proofs.Files.{set_finite, set_has}
use Rattle.image.specs.Layout.{file_text}
use Rattle.right_paths.specs.Pouring.{poured}
use Rattle.right_paths.proofs.Pourings.{holds_last}
use Rattle.sink.specs.Write.{steps}
use Rattle.sink.specs.Write as sinks
use Rattle.verdict.proofs.Every.{every_verdict}
use Rattle.checker.specs.Calls.{Kind, D, Holds, MaskedHash, Outcome, with_hash, without, Decides, PathStrings, own as own_needed, fixed, masked}
use Rattle.checker.specs.Views.{View, files, path_at, Exists}
use Rattle.checker.specs.declared.state.Hashes.{Hashes}
use Rattle.checker.specs.declared.state.Settlement.{Settlement}

-- ---- strings

-- there is a first string
pub record Begun (ss : List Bytes) : Type 0 where
  pub first : Bytes
  pub others : List Bytes
  pub whole : ss ≡ first ∷ others

held : (kind : Kind) (before : sinks.Meaning) (ss : List Bytes) → Begun ss → (after : sinks.Meaning) × Holds kind before ss after
held kind before ss w = (
  poured kind.step kind.start kind.capacity before (w.first ∷ w.others),
  subst (λ (ts : List Bytes). Holds kind before ts (poured kind.step kind.start kind.capacity before (w.first ∷ w.others))) (sym w.whole)
      (holds_last w.first w.others (record { count = refl; sink = refl })),
)

file_strings : {d : Digest} {p : Bytes} {g : Bytes → Bytes} {m : Meaning} {ss : List Bytes} → FileStrings d p g m ss → Begun ss
file_strings (of_fixed f rs r e) = record { first = _; others = _; whole = e }
file_strings (of_text n rs r s h t k e) = record { first = _; others = _; whole = e }

pub one_or_two : (b : Bool) (x y z : Bytes) → Begun (cond b (x ∷ []) (y ∷ z ∷ []))
one_or_two true x y z = record { first = x; others = []; whole = refl }
one_or_two false x y z = record { first = y; others = z ∷ []; whole = refl }

path_strings : {set : Files} {d : Digest} {p : Bytes} {j : ℕ} {ss : List Bytes} → PathStrings set d p j ss → Begun ss
path_strings (own_needed m e rs r x) = record { first = _; others = _; whole = x }
path_strings {d = d} {p = p} (fixed m e f x) =
    subst Begun (sym x) (one_or_two (bytes_eq f.only.1.1.0 (codes "r:sha256")) _ _ _)
path_strings (masked m e n g i t k x) = record { first = _; others = _; whole = x }

-- ---- settle

masked_hash : (set : Files) (d : Digest) → Wide d → {p : Bytes} → Hashable set p → (x : Option Hash) × MaskedHash set d p x
masked_hash set d w (hashable m e y i) =
    let z = chosen (Hashed set d) m.1.0 (λ r o. has_hash set d (i r o)) in
    elim (fixed? m) [
      | inl f ↦ (None, record { meaning = m; means = e; hashes = z.0; inputs = z.1; masked = λ n. absurd (n f); none = λ g. refl })
      | inr n ↦ (let t = masked_string z.0 m in
          let h : Hash = record { bytes = d t.0; wide = w t.0 } in
          (Some h, record { meaning = m; means = e; hashes = z.0; inputs = z.1; masked = λ k. (t.0, t.1, h, refl, refl); none = λ f. absurd (n f) }))
    ]

-- the hashes that a settle keeps, how many bytes it digests, and what it leaves of the sink
record HashesDecided (kind : Kind) (set : Files) (p : Bytes) (before : sinks.Meaning) : Type 0 where
  pub hashes : Option Hashes
  pub count : ℕ
  pub after : sinks.Meaning
  pub outcome : Outcome kind set p before count after hashes

hashes_decided : (kind : Kind) → Wide (D kind) → (set : Files) (p : Bytes) (before : sinks.Meaning) → Hashable set p ⊎ (Hashable set p → ⊥) → HashesDecided kind set p before
hashes_decided kind w set p before (inr n) = record { hashes = None; count = 0; after = before; outcome = without refl n refl refl }
hashes_decided kind w set p before (inl y) =
    let x = has_hash set (D kind) y in
    let m = masked_hash set (D kind) w y in
    let ss = digested_stand.some set (D kind) p y in
    let k = held kind before ss.0 (file_strings ss.1.strings) in
    let h : Hashes = record { hash = record { bytes = x.0; wide = hash_wide w x.1 }; masked = m.0 } in
    record { hashes = Some h; count = all_lengths ss.0; after = k.0; outcome = with_hash h ss.0 refl x.1 m.1 ss.1 refl k.1 }

-- all that settling the file k decides
pub record SettleDecided (kind : Kind) (v : View) (k : ℕ) (before : sinks.Meaning) : Type 0 where
  pub settlement : Settlement
  pub count : ℕ
  pub after : sinks.Meaning
  pub decides : Decides kind (files v) (path_at v k) settlement before count after

-- every digest has 32 bytes
pub digest_wide : (kind : Kind) → Wide (D kind)
digest_wide kind s = kind.wide (steps kind.step kind.start s)

pub settle_decides : (kind : Kind) (v : View) → Opens v.image v.count → Wide (D kind) → (k : ℕ) → Exists v k → (before : sinks.Meaning) → SettleDecided kind v k before
settle_decides kind v o w k x before =
    let f = set_finite v.image v.count o in
    let z = every_verdict (files v) f (D kind) (path_at v k) (file_text v.image k, set_has v.image v.count o k x.0 x.1) in
    let s = hashes_decided kind w (files v) (path_at v k) before (decided (files v) f (path_at v k)) in
    record {
      settlement = record { verdict = z.0; hashes = s.hashes };
      count = s.count;
      after = s.after;
      decides = record { verdict = z.1; outcome = s.outcome };
    }

-- ---- path

-- right path j and the strings that are digested for it
pub record Located (set : Files) (d : Digest) (p : Bytes) (j : ℕ) : Type 0 where
  pub right : Bytes
  pub is : RightPath set d p j right
  pub strings : List Bytes
  pub needed : PathStrings set d p j strings

pub located : (set : Files) (d : Digest) (p : Bytes) → Hashable set p → (m : Meaning) → Means set p m → (j : ℕ) → j ≤ length m.0 → Located set d p j
located set d p h m e zero l =
    let z = own_paths.some d p m in
    record { right = z.0; is = own m e z.1; strings = own_strings d p m z.1.references; needed = own_needed m e z.1.references z.1.right refl }
located set d p h m e (suc i) l = record { right = z.0; is = is; strings = needed.0; needed = needed.1 }
  where
    g : (f : Bytes → Bytes) × InputsHashed set d m f
    g = chosen (Hashed set d) m.1.0 (λ r o. has_hash set d (inputs_hashable h m e r o))

    z : (q : Bytes) × OutputPath d p g.0 m (slice_index_or m.0 i no_output) q
    z = output_paths.some d p g.0 m (slice_index_or m.0 i no_output)

    is : RightPath set d p (suc i) z.0
    is = output m e (hashable_ready h m e) g.0 g.1 i (omega arith) z.1

    needed : (ss : List Bytes) × PathStrings set d p (suc i) ss
    needed = elim (fixed? m) [
      | inl f ↦ (fixed_strings d p f.only, fixed m e f refl)
      | inr n ↦ (let t = masked_string g.0 m in
          (t.0 ∷ output_string d p t.0 (slice_index_or m.0 i no_output) ∷ [], masked m e n g.0 g.1 t.0 t.1 refl))
    ]

pub path_held : (kind : Kind) (before : sinks.Meaning) {set : Files} {p : Bytes} {j : ℕ} {ss : List Bytes} → PathStrings set (D kind) p j ss
    → (after : sinks.Meaning) × Holds kind before ss after
path_held kind before {ss = ss} n = held kind before ss (path_strings n)
