-- Hashes, as many as a file has input rows, are those of some function: the paths of the rows differ, so that each has one hash.
use Rattle.std.proofs.Common.{◌≡◌, false, cond, List, [], ◌∷◌, map, length, refl, ◌∙◌, inl, inr}
use Rattle.std.specs.List.{AllByRecursion}
use Rattle.std.specs.Str.{bytes_eq}
use Rattle.std.proofs.lemmas.Bool.{cases_Bool, cond-true, cond-false}
use Rattle.std.proofs.lemmas.Slice.Eq.{bytes_eq-Decides}
use Rattle.canonical.specs.Kinds.{Lawful}
use Rattle.canonical.specs.Meanings.{a_derivation, Meaning}
use Rattle.canonical.specs.Order.{Under, Rising}
use Rattle.hash_rows.specs.declared.hash.Hash.{Hash}
use Rattle.hash_rows.proofs.Orders.{before_not_same}
use Rattle.hash_modulo.specs.Hashes.{path_of}
use Rattle.hash_modulo.specs.Sets.{Bytes, Row}
use Rattle.hash_modulo.specs.Strings.{Limits}
use Rattle.right_paths.specs.Inputs.{Aligned}
use Rattle.right_paths.specs.Worked.{Workable}

-- the hash beside the first row with a path
abbrev looked_up : List Row → List Hash → Bytes → Bytes
looked_up [] hashes p = []
looked_up (r ∷ rows) [] p = []
looked_up (r ∷ rows) (h ∷ hashes) p = cond (bytes_eq r.0 p) h.bytes (looked_up rows hashes p)

-- rows with later paths are looked up past that row
passed_over : (p h : Bytes) (f : Bytes → Bytes) (rows : List Row) → AllByRecursion (λ (r : Row). Under p r.0) rows
    → map (λ (r : Row). cond (bytes_eq p r.0) h (f r.0)) rows ≡ map (λ (r : Row). f r.0) rows
passed_over p h f [] all = refl
passed_over p h f (r ∷ rows) all =
    let differs : bytes_eq p r.0 ≡ false = elim (cases_Bool (bytes_eq p r.0)) [
      | inl e ↦ absurd (before_not_same p r.0 all.0 ((bytes_eq-Decides p r.0).0 e))
      | inr e ↦ e
    ] in
    let here = cond-false (bytes_eq p r.0) h (f r.0) differs in
    let later = passed_over p h f rows all.1 in
    λ i. here i ∷ later i

looked_up_aligned : (rows : List Row) (hashes : List Hash) → Rising path_of rows → length rows ≡ length hashes → Aligned (looked_up rows hashes) rows hashes
looked_up_aligned [] [] rises e = refl
looked_up_aligned [] (h ∷ hashes) rises e = cc
looked_up_aligned (r ∷ rows) [] rises e = cc
looked_up_aligned (r ∷ rows) (h ∷ hashes) rises e =
    let here = cond-true (bytes_eq r.0 r.0) h.bytes (looked_up rows hashes r.0) ((bytes_eq-Decides r.0 r.0).1 refl) in
    let later = passed_over r.0 h.bytes (looked_up rows hashes) rows rises.0 ∙ looked_up_aligned rows hashes rises.1 (cc) in
    λ i. here i ∷ later i

-- some function has these hashes
pub some_aligned : (rows : List Row) (hashes : List Hash) → Rising path_of rows → length rows ≡ length hashes → (g : Bytes → Bytes) × Aligned g rows hashes
some_aligned rows hashes rises e = (looked_up rows hashes, looked_up_aligned rows hashes rises e)

-- so the hashes of a file within the limits can be worked out from any hashes that are as many as its input rows
pub some_workable : (path : Bytes) (m : Meaning) (hashes : List Hash) → Limits path m → Lawful a_derivation m → length m.1.0 ≡ length hashes → Workable path m hashes
some_workable path m hashes limits lawful e =
    let g = some_aligned m.1.0 hashes lawful.1.0.1.1 e in
    record { limits = limits; lawful = lawful; given = g.0; aligned = g.1 }
