-- What settling a file and a call for a path work out is one: hashes, verdict, strings.
use mathlib.Core.HLevel.{is_prop→PathP}
use Rattle.std.proofs.Common.{◌≡◌, ℕ, ◌⊎◌, List, [], ◌∷◌, length, Some, Option, sym, ap, ◌∙◌, subst, inl, inr, slice_index_or}
use Rattle.std.proofs.Math.Nat.{ℕ_set}
use Rattle.canonical.specs.Meanings.{Meaning}
use Rattle.hash_modulo.specs.Hashes.{Digest, Fixed}
use Rattle.hash_modulo.specs.Paths.{References, MaskedString}
use Rattle.hash_modulo.specs.Sets.{Bytes, Files, Means}
use Rattle.hash_modulo.specs.Strings.{own_strings, fixed_strings, output_string, all_lengths, InputsHashed, no_output}
use Rattle.hash_modulo.proofs.Deciding.{fixed?}
use Rattle.hash_modulo.proofs.Digests.{digested_stand}
use Rattle.hash_modulo.proofs.Hashes.{one_meaning, only_once, one_hash_each, is_hashable}
use Rattle.hash_modulo.proofs.Paths.{one_list, one_masked}
use Rattle.hash_rows.specs.declared.hash.Hash.{Hash}
use Rattle.sink.specs.Write as sinks
use Rattle.verdict.proofs.One.{one_verdict}
use Rattle.checker.specs.Calls.{Kind, D, MaskedHash, Outcome, with_hash, without, Decides, PathStrings, own, fixed, masked}
use Rattle.checker.specs.Theorem.{Alike}
use Rattle.checker.specs.declared.state.Hashes.{Hashes}
use Rattle.checker.specs.declared.state.Settlement.{Settlement}
use Rattle.checker.proofs.Same.{held_once}

-- hashes with the same bytes are one: their length, which each carries, is a fact
same_hash : (h k : Hash) → h.bytes ≡ k.bytes → h ≡ k
same_hash h k p = λ i. record { bytes = p i; wide = is_prop→PathP (λ j. length (p j) ≡ 32) (λ j. ℕ_set (length (p j)) 32) h.wide k.wide i }

same_hashes : (h k : Hashes) → h.hash.bytes ≡ k.hash.bytes → h.masked ≡ k.masked → h ≡ k
same_hashes h k p q = let e = same_hash h.hash k.hash p in λ i. record { hash = e i; masked = q i }

module _ (set : Files) (d : Digest) (p : Bytes) where
  -- a file has one masked string
  one_masked_string : (m n : Meaning) → Means set p m → Means set p n → (f g : Bytes → Bytes) → InputsHashed set d m f → InputsHashed set d n g
      → (s t : Bytes) → MaskedString f m s → MaskedString g n t → s ≡ t
  one_masked_string m n a b f g i j s t w z =
      let same : n ≡ m = one_meaning set p n m b a in
      let i' : InputsHashed set d m g = subst (λ (x : Meaning). InputsHashed set d x g) same j in
      let z' : MaskedString g m t = subst (λ (x : Meaning). MaskedString g x t) same z in
      one_masked f g m s t (λ r o. one_hash_each set d r.0 (f r.0) (g r.0) (i r o) (i' r o)) w z'

  one_masked_hash : (x y : Option Hash) → MaskedHash set d p x → MaskedHash set d p y → x ≡ y
  one_masked_hash x y a b = way (fixed? a.meaning)
    where
      same : b.meaning ≡ a.meaning
      same = one_meaning set p b.meaning a.meaning b.means a.means

      way : Fixed a.meaning ⊎ (Fixed a.meaning → ⊥) → x ≡ y
      way (inl f) = a.none f ∙ sym (b.none (subst Fixed (sym same) f))
      way (inr n) =
          let z = a.masked n in
          let w = b.masked (λ f. n (subst Fixed same f)) in
          let s : z.0 ≡ w.0 = one_masked_string a.meaning b.meaning a.means b.means a.hashes b.hashes a.inputs b.inputs z.0 w.0 z.1 w.1 in
          z.3 ∙ ap Some (same_hash z.2 w.2 (z.4 ∙ ap d s ∙ sym w.4)) ∙ sym w.3

  -- a right path has one list of digested strings
  pub one_path_strings : (j : ℕ) (ss ts : List Bytes) → PathStrings set d p j ss → PathStrings set d p j ts → ss ≡ ts
  one_path_strings j ss ts (own m e rs r a) (own n f qs q b) =
      let same : n ≡ m = one_meaning set p n m f e in
      let lists : rs ≡ qs = one_list m rs qs r (subst (λ (x : Meaning). References x qs) same q) in
      a ∙ (λ i. own_strings d p (sym same i) (lists i)) ∙ sym b
  one_path_strings j ss ts (fixed m e f a) (fixed n g h b) =
      let same : n ≡ m = one_meaning set p n m g e in
      a ∙ ap (fixed_strings d p) (only_once m.0 f.only h.only f.whole (ap (λ (x : Meaning). x.0) (sym same) ∙ h.whole)) ∙ sym b
  one_path_strings j ss ts (fixed m e f a) (masked n g none h i t w b) = absurd (none (subst Fixed (one_meaning set p m n e g) f))
  one_path_strings j ss ts (masked n g none h i t w b) (fixed m e f a) = absurd (none (subst Fixed (one_meaning set p m n e g) f))
  one_path_strings j ss ts (masked {i = k} m e none f x s w a) (masked n h other g y t z b) =
      let same : m ≡ n = one_meaning set p m n e h in
      let string : s ≡ t = one_masked_string m n e h f g x y s t w z in
      a ∙ (λ i. string i ∷ output_string d p (string i) (slice_index_or (same i).0 k no_output) ∷ []) ∙ sym b

module _ (kind : Kind) (set : Files) (p : Bytes) (before : sinks.Meaning) where
  one_outcome : (m n : ℕ) (after behind : sinks.Meaning) (x y : Option Hashes) → Outcome kind set p before m after x → Outcome kind set p before n behind y
      → (x ≡ y) × (m ≡ n) × (after ≡ behind)
  one_outcome m n after behind x y (with_hash h ss e a i s c l) (with_hash k ts f b j t c' l') =
      let hash : h.hash.bytes ≡ k.hash.bytes = one_hash_each set (D kind) p h.hash.bytes k.hash.bytes a b in
      let other : h.masked ≡ k.masked = one_masked_hash set (D kind) p h.masked k.masked i j in
      let strings : ss ≡ ts = digested_stand.one set (D kind) p ss ts s t in
      (e ∙ ap Some (same_hashes h k hash other) ∙ sym f, c ∙ ap all_lengths strings ∙ sym c', held_once kind before ss ts after behind strings l l')
  one_outcome m n after behind x y (with_hash h ss e a i s c l) (without f none c' l') = absurd (none (is_hashable set (D kind) a))
  one_outcome m n after behind x y (without f none c' l') (with_hash h ss e a i s c l) = absurd (none (is_hashable set (D kind) a))
  one_outcome m n after behind x y (without e none c l) (without f other c' l') = (e ∙ sym f, c ∙ sym c', l ∙ sym l')

  pub one_decision : (m n : ℕ) (after behind : sinks.Meaning) (s t : Settlement) → Decides kind set p s before m after → Decides kind set p t before n behind
      → Alike s t × (m ≡ n) × (after ≡ behind)
  one_decision m n after behind s t a b =
      let z = one_outcome m n after behind s.hashes t.hashes a.outcome b.outcome in
      ((z.0, one_verdict set (D kind) p s.verdict t.verdict a.verdict b.verdict), z.1, z.2)
