-- The paths of a file, from the strings that are digested for them.
use Rattle.std.proofs.Common.{◌≡◌, ℕ, ◌+◌, ◌<◌, true, false, List, [], ◌∷◌, length, codes, Some, sym, ap, ◌∙◌, subst, arith}
use Rattle.std.specs.Str.{bytes_eq}
use Rattle.std.proofs.lemmas.Slice.Eq.{bytes_eq-Decides}
use Rattle.std.proofs.lemmas.Bool.{cond-true, cond-false, false_from_ne_true}
use Rattle.canonical.specs.Kinds.{Value}
use Rattle.canonical.specs.Meanings.{an_output, canonical}
use Rattle.canonical.specs.Meanings as meanings
use Rattle.derivation.specs.Questions.{output_name}
use Rattle.sink.specs.Digest.{digest}
use Rattle.sink.specs.Numerals.{hex}
use Rattle.sink.specs.Write.{Step, Meaning}
use Rattle.store_path.specs.Base32.{base32, fold}
use Rattle.hash_rows.specs.declared.hash.Hash.{Hash}
use Rattle.hash_modulo.specs.Hashes.{with_inputs}
use Rattle.hash_modulo.specs.Paths.{path_string, file_name, References, own_type, masked, inner_string}
use Rattle.hash_modulo.specs.Sets.{Bytes, Row}
use Rattle.right_paths.specs.Pouring.{Pours}
use Rattle.right_paths.specs.Worked.{full_store_path, PoursAll, LocatedBy, OwnWorked, FixedWorked, OutputsWorked, TextRest}
use Rattle.right_paths.specs.declared.hashes.Counted.{Counted}
use Rattle.right_paths.specs.declared.hashes.Digits.{Digits}
use Rattle.right_paths.specs.declared.hashes.FileHashes.{FileHashes}
use Rattle.right_paths.proofs.Pourings.{pours_one, pours_then, located_as}

-- the strings of the path of a fixed file's output: of a source, and by the hash of what is given
abbrev source : Bytes → Value an_output → Bytes
source path o = path_string (codes "source") o.1.1.1 (output_name path o.0)

abbrev given : Bytes → Value an_output → Bytes → Bytes
given path o h = path_string (codes "output:out") (hex h) (output_name path o.0)

module _ {f : Step} {start : List ℕ} {capacity : ℕ} {answer : List ℕ → List ℕ} where
  pub own_worked : {path : Bytes} {m : meanings.Meaning} {rs : List Bytes} {before middle after : Meaning} {name h digits : List ℕ} {a b : ℕ} → References m rs → name ≡ file_name path
      → Pours f start capacity answer before (canonical m) h a middle → LocatedBy f start capacity answer middle (path_string (own_type rs) (hex h) name) digits b after
      → length (canonical m) < 1048576 → length (path_string (own_type rs) (hex h) (file_name path)) < 1048576
      → OwnWorked f start capacity answer path m before digits (a + b) after
  own_worked {path} {m} {rs} {before} {middle} {after} {name} {h} {digits} {a} {b} r named p told s₁ s₂ =
      let d = digest f start answer in
      let string : Bytes → Bytes = λ x. path_string (own_type rs) (hex x) (file_name path) in
      let l : LocatedBy f start capacity answer middle (string h) digits b after = located_as (ap (path_string (own_type rs) (hex h)) named) told in
      let e : string h ≡ string (d (canonical m)) = ap string p.hash in
      let x : a ≡ length (canonical m) = p.count in
      let y : b ≡ length (string h) + 0 = l.pours.count in
      record {
        references = rs;
        right = r;
        own = record { references = rs; right = r; is = ap (λ (z : Bytes). full_store_path z (file_name path)) (l.located ∙ ap (λ (z : Bytes). base32 (fold (d z))) e) };
        pours = pours_then (pours_one p) (subst (λ (z : Bytes). PoursAll f start capacity answer middle (z ∷ []) b after) e l.pours);
        few = omega arith;
      }

  module _ {path : Bytes} {o : Value an_output} {before after : Meaning} {digits : List ℕ} where
    pub source_worked : {n : ℕ} → o.1.1.0 ≡ codes "r:sha256" → LocatedBy f start capacity answer before (source path o) digits n after → length (source path o) < 1048576
        → FixedWorked f start capacity answer path o before digits n after
    source_worked {n} e l s =
        let d = digest f start answer in
        let t : bytes_eq o.1.1.0 (codes "r:sha256") ≡ true = (bytes_eq-Decides o.1.1.0 (codes "r:sha256")).1 e in
        let y : n ≡ length (source path o) + 0 = l.pours.count in
        record {
          right = ap (λ (z : Bytes). full_store_path z (output_name path o.0)) l.located ∙ sym (cond-true _ _ _ t);
          pours = subst (λ (ss : List Bytes). PoursAll f start capacity answer before ss n after) (sym (cond-true _ _ _ t)) l.pours;
          few = omega arith;
        }

    pub given_worked : {middle : Meaning} {h : Bytes} {a b : ℕ} → (o.1.1.0 ≡ codes "r:sha256" → ⊥) → Pours f start capacity answer before (inner_string o) h a middle
        → LocatedBy f start capacity answer middle (given path o h) digits b after → length (inner_string o) < 1048576 → length (given path o h) < 1048576
        → FixedWorked f start capacity answer path o before digits (a + b) after
    given_worked {middle} {h} {a} {b} ne p l s₁ s₂ =
        let d = digest f start answer in
        let t : bytes_eq o.1.1.0 (codes "r:sha256") ≡ false = false_from_ne_true _ (λ z. ne ((bytes_eq-Decides o.1.1.0 (codes "r:sha256")).0 z)) in
        let e : given path o h ≡ given path o (d (inner_string o)) = ap (given path o) p.hash in
        let x : a ≡ length (inner_string o) = p.count in
        let y : b ≡ length (given path o h) + 0 = l.pours.count in
        record {
          right = ap (λ (z : Bytes). full_store_path z (output_name path o.0)) (l.located ∙ ap (λ (z : Bytes). base32 (fold (d z))) e) ∙ sym (cond-false _ _ _ t);
          pours =
              subst (λ (ss : List Bytes). PoursAll f start capacity answer before ss (a + b) after) (sym (cond-false _ _ _ t))
              (pours_then (pours_one p) (subst (λ (z : Bytes). PoursAll f start capacity answer middle (z ∷ []) b after) e l.pours));
          few = omega arith;
        }

  -- after the two texts of a file, and the paths of its outputs
  pub text_rest : {path : Bytes} {m : meanings.Meaning} {rows : List Row} {own : Counted Digits} {before whole middle after : Meaning} {r : FileHashes} {h : Bytes} {k : Hash} {a b n : ℕ}
      → Pours f start capacity answer before (canonical (with_inputs m rows)) h a whole → Pours f start capacity answer whole (canonical (with_inputs (masked m) rows)) k.bytes b middle
      → OutputsWorked f start capacity answer path (canonical (with_inputs (masked m) rows)) m.0 middle r.outputs n after
      → r.own.bytes ≡ own.value.bytes → r.hash.bytes ≡ h → r.masked ≡ Some k → r.count ≡ own.count + a + b + n
      → TextRest f start capacity answer path m rows own before r after
  text_rest {path} {m} {rows} {own} {before} {whole} {middle} {after} {r} {h} {k} {a} {b} {n} p q o kept e₁ e₂ sum =
      record {
        kept = kept;
        hash = e₁ ∙ p.hash;
        masked = (k, e₂, q.hash);
        each = o.each;
        more = a + (b + n);
        count = omega arith;
        pours = pours_then (pours_one p) (pours_then (pours_one q) o.pours);
      }
