-- All that is worked out for a file, from its own path and what is worked out after it.
use Rattle.std.proofs.Common.{◌≡◌, ℕ, ◌+◌, ◌<◌, List, ◌∷◌, ◌++◌, map, length, get_or, sym, refl, ap, ◌∙◌, subst, arith}
use Rattle.canonical.specs.Kinds.{Value}
use Rattle.canonical.specs.Meanings.{an_output, canonical}
use Rattle.canonical.specs.Meanings as meanings
use Rattle.derivation.specs.Questions.{output_name}
use Rattle.sink.specs.Digest.{digest}
use Rattle.sink.specs.Write.{Step, Meaning}
use Rattle.hash_modulo.specs.Hashes.{Digest, Fixed, fixed_string, with_inputs, HashString}
use Rattle.hash_modulo.specs.Paths.{file_name, OwnPath, MaskedString, masked, OutputPath}
use Rattle.hash_modulo.specs.Sets.{Bytes, Row}
use Rattle.hash_modulo.specs.Strings.{own_strings, fixed_strings, output_string, FileStrings, no_output}
use Rattle.right_paths.specs.Inputs.{RowsRight}
use Rattle.right_paths.specs.Worked.{full_store_path, no_digits, PoursAll, OwnWorked, FixedRest, TextRest, FileWorked}
use Rattle.right_paths.specs.declared.hashes.Counted.{Counted}
use Rattle.right_paths.specs.declared.hashes.Digits.{Digits}
use Rattle.right_paths.specs.declared.hashes.FileHashes.{FileHashes}
use Rattle.right_paths.proofs.Pourings.{pours_then, holds_last}

-- the file's own path stands in the answer
own_kept : {d : Digest} {path : Bytes} {m : meanings.Meaning} {a b : List ℕ} → a ≡ b → OwnPath d path m (full_store_path b (file_name path)) → OwnPath d path m (full_store_path a (file_name path))
own_kept {d} {path} {m} e x = subst (λ (z : List ℕ). OwnPath d path m (full_store_path z (file_name path))) (sym e) x

-- the same, of an output by another term
pub other_output : {f : Step} {start : List ℕ} {capacity : ℕ} {answer : List ℕ → List ℕ} {path : Bytes} {o p : Value an_output} {own : Counted Digits} {before after : Meaning} {r : FileHashes}
    → o ≡ p → FixedRest f start capacity answer path o own before r after → FixedRest f start capacity answer path p own before r after
other_output {f} {start} {capacity} {answer} {path} {o} {p} {own} {before} {after} {r} e x = subst (λ (z : Value an_output). FixedRest f start capacity answer path z own before r after) e x

module _ {f : Step} {start : List ℕ} {capacity : ℕ} {answer : List ℕ → List ℕ} {path : Bytes} {m : meanings.Meaning} {own : Counted Digits} {before middle after : Meaning} {r : FileHashes}
    (first : OwnWorked f start capacity answer path m before own.value.bytes own.count middle) (g : Bytes → Bytes) where
  pub fixed_file : (x : Fixed m) → FixedRest f start capacity answer path x.only own middle r after → FileWorked f start capacity answer path g m before r after
  fixed_file x rest =
      let ss = own_strings (digest f start answer) path m first.references ++ (fixed_string x.only ∷ fixed_strings (digest f start answer) path x.only) in
      let all : PoursAll f start capacity answer before ss (own.count + rest.more) after = pours_then first.pours rest.pours in
      record {
        strings = ss;
        digested = FileStrings.of_fixed x first.references first.right refl;
        count = rest.count ∙ all.count;
        sink = holds_last _ _ all;
        hash = (fixed_string x.only, HashString.of_fixed x refl, rest.hash);
        masked = λ n. absurd (n x);
        unmasked = λ _. rest.unmasked;
        paths = record { own_path = own_kept rest.kept first.own; output_paths = paths };
      }
    where
      the_first : OutputPath (digest f start answer) path g m (get_or m.0 0 no_output) (full_store_path (get_or r.outputs 0 no_digits).bytes (output_name path (get_or m.0 0 no_output).0))
      the_first =
          let e : get_or m.0 0 no_output ≡ x.only = ap (λ (os : List (Value an_output)). get_or os 0 no_output) x.whole in
          subst (λ (o : Value an_output). OutputPath (digest f start answer) path g m o (full_store_path (get_or r.outputs 0 no_digits).bytes (output_name path o.0))) (sym e)
          (OutputPath.of_fixed x rest.right)

      paths : (i : ℕ) → i < length m.0 → OutputPath (digest f start answer) path g m (get_or m.0 i no_output) (full_store_path (get_or r.outputs i no_digits).bytes (output_name path (get_or m.0 i no_output).0))
      paths i h =
          let z : i ≡ 0 = omega (arith, ap length x.whole) in
          subst (λ (k : ℕ). OutputPath (digest f start answer) path g m (get_or m.0 k no_output) (full_store_path (get_or r.outputs k no_digits).bytes (output_name path (get_or m.0 k no_output).0))) (sym z) the_first

  pub text_file : (Fixed m → ⊥) → {rows : List Row} → RowsRight g m.1.0 rows → TextRest f start capacity answer path m rows own middle r after
      → FileWorked f start capacity answer path g m before r after
  text_file n {rows} right rest =
      let s = canonical (with_inputs m rows) in
      let t = canonical (with_inputs (masked m) rows) in
      let ss = own_strings (digest f start answer) path m first.references ++ (s ∷ t ∷ map (output_string (digest f start answer) path t) m.0) in
      let hs : HashString g m s = HashString.of_text n rows right.rises right.gathered refl in
      let ms : MaskedString g m t = record { rows = rows; rises = right.rises; gathered = right.gathered; is = refl } in
      let all : PoursAll f start capacity answer before ss (own.count + rest.more) after = pours_then first.pours rest.pours in
      record {
        strings = ss;
        digested = FileStrings.of_text n first.references first.right s hs t ms refl;
        count = rest.count ∙ all.count;
        sink = holds_last _ _ all;
        hash = (s, hs, rest.hash);
        masked = λ _. (rest.masked.0, rest.masked.1, t, ms, rest.masked.2);
        unmasked = λ x. absurd (n x);
        paths = record {
          own_path = own_kept rest.kept first.own;
          output_paths = λ i h. OutputPath.of_masked n t ms (ap (λ (z : List ℕ). full_store_path z (output_name path (get_or m.0 i no_output).0)) (rest.each i h));
        };
      }
