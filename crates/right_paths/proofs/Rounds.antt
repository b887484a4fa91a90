-- The paths of the outputs of a file that is not fixed, one after the other.
use Rattle.std.proofs.Common.{◌≡◌, ℕ, ◌+◌, ◌*◌, ◌<◌, ◌≤◌, ◌≢◌, List, [], ◌∷◌, ◌++◌, map, length, get_or, take, set, codes, sym, refl, ap, ◌∙◌, subst, arith, length-set, below_more}
use Rattle.std.specs.List.{AllByRecursion}
use Rattle.std.proofs.ByRecursion.{All-get_or}
use Rattle.std.proofs.lemmas.List.{map_more, get_or-map, length-map, take_all, get_or-set_same, get_or-set_other}
use Rattle.canonical.specs.Kinds.{Value}
use Rattle.canonical.specs.Meanings.{an_output}
use Rattle.canonical.specs.Meanings as meanings
use Rattle.canonical.proofs.Members.{all_from_member}
use Rattle.derivation.specs.Questions.{output_name}
use Rattle.sink.specs.Digest.{digest}
use Rattle.sink.specs.Numerals.{hex}
use Rattle.sink.specs.Write.{Step, Meaning}
use Rattle.store_path.specs.Base32.{base32, fold}
use Rattle.hash_modulo.specs.Paths.{path_string}
use Rattle.hash_modulo.specs.Sets.{Bytes}
use Rattle.hash_modulo.specs.Strings.{no_output, Limits}
use Rattle.hash_modulo.proofs.Lengths.{output_short, hex_length}
use Rattle.right_paths.specs.Worked.{no_digits, PoursAll, LocatedBy, OutputsWorked}
use Rattle.right_paths.specs.declared.hashes.Digits.{Digits}
use Rattle.right_paths.proofs.Pourings.{pours_then}

-- the string of an output's path, by the masked hash
abbrev pub by_hash : Bytes → Bytes → Value an_output → Bytes
by_hash path h o = path_string (codes "output:" ++ o.0) (hex h) (output_name path o.0)

-- the string of an output of a file within the limits is short
pub short_at : {X : Type 0} (F : X → Value an_output) (xs : List X) (i : ℕ) (d : X) {path : Bytes} {m : meanings.Meaning} (h : Bytes) → m.0 ≡ map F xs → Limits path m → length h ≡ 32 → i < length xs
    → length (by_hash path h (F (get_or xs i d))) < 1048576
short_at F xs i d {path} {m} h e limits wide l =
    let P : Value an_output → Type 0 = λ o. length (by_hash path h o) < 1048576 in
    let all : AllByRecursion P m.0 = all_from_member P m.0 (λ o n. output_short limits o n (hex h) (omega (arith, hex_length h, wide))) in
    subst P (get_or-map F xs i d no_output l) (All-get_or P (map F xs) i no_output (omega (arith, length-map xs F, l)) (subst (AllByRecursion P) e all))

module _ (f : Step) (start : List ℕ) (capacity : ℕ) (answer : List ℕ → List ℕ) (path h : Bytes) (os : List (Value an_output)) (before : Meaning) where
  -- the paths of the first i outputs are worked out
  pub record Upto (i : ℕ) (digits : List Digits) (n : ℕ) (after : Meaning) : Type 0 where
    pub wide : length digits ≡ 16
    pub few : n ≤ 1048576 * i
    pub each : (k : ℕ) → k < i → (get_or digits k no_digits).bytes ≡ base32 (fold (digest f start answer (by_hash path h (get_or os k no_output))))
    pub pours : PoursAll f start capacity answer before (map (by_hash path h) (take i os)) n after

module _ {f : Step} {start : List ℕ} {capacity : ℕ} {answer : List ℕ → List ℕ} {path h : Bytes} {os : List (Value an_output)} {before : Meaning} where
  pub upto_none : {digits : List Digits} → length digits ≡ 16 → Upto f start capacity answer path h os before 0 digits 0 before
  upto_none w = record { wide = w; few = omega arith; each = λ k z. absurd (omega arith); pours = record { count = refl; sink = refl } }

  pub upto_more : {i n k : ℕ} {digits : List Digits} {middle after : Meaning} (v : Digits) (o : Value an_output) → Upto f start capacity answer path h os before i digits n middle
      → i < length os → i < 16 → o ≡ get_or os i no_output → LocatedBy f start capacity answer middle (by_hash path h o) v.bytes k after → length (by_hash path h o) < 1048576
      → Upto f start capacity answer path h os before (i + 1) (set digits i v) (n + k) after
  upto_more {i} {n} {k} {digits} {middle} {after} v o u l s e z t =
      let c : k ≡ length (by_hash path h o) + 0 = z.pours.count in
      let few : n ≤ 1048576 * i = u.few in
      let wide : length digits ≡ 16 = u.wide in
      record {
        wide = length-set digits i v ∙ u.wide;
        few = omega arith;
        each =
            below_more _ _
            (λ j b. let ne : j ≢ i = omega arith in ap (λ (x : Digits). x.bytes) (get_or-set_other digits i j v no_digits ne) ∙ u.each j b)
            (ap (λ (x : Digits). x.bytes) (get_or-set_same digits i v no_digits (omega arith)) ∙ z.located ∙ ap (λ (x : Value an_output). base32 (fold (digest f start answer (by_hash path h x)))) e);
        pours =
            subst (λ (ss : List Bytes). PoursAll f start capacity answer before ss (n + k) after)
            (ap (λ (x : Value an_output). map (by_hash path h) (take i os) ++ (by_hash path h x ∷ [])) e ∙ sym (map_more (by_hash path h) os i no_output l))
            (pours_then u.pours z.pours);
      }

  pub upto_all : {i n : ℕ} {digits : List Digits} {after : Meaning} → Upto f start capacity answer path h os before i digits n after → length os ≡ i → i ≤ 16
      → (t : Bytes) → h ≡ digest f start answer t → OutputsWorked f start capacity answer path t os before digits n after
  upto_all {i} {n} {digits} {after} u l s t e = record {
    each = λ k b. u.each k (omega arith) ∙ ap (λ (x : Bytes). base32 (fold (digest f start answer (by_hash path x (get_or os k no_output))))) e;
    pours =
        subst (λ (ss : List Bytes). PoursAll f start capacity answer before ss n after)
        (ap (map (by_hash path h)) (take_all i os (omega arith)) ∙ ap (λ (x : Bytes). map (by_hash path x) os) e)
        u.pours;
    few = omega (arith, u.few);
  }
