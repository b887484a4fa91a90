-- The hashes of the files that the input rows of a file name, as they are looked up.
use Rattle.std.proofs.Common.{◌≡◌, ℕ, suc, ◌≤◌, List, [], ◌∷◌, length, take, Some, None, Option, sym, refl, ap, ◌∙◌, subst, inl, inr, arith}
use Rattle.std.specs.Option.{UnwrapsOrElse}
use Rattle.std.proofs.lemmas.List.{length-map, length-take-le}
use Rattle.aterm.specs.Tables.{rows_of}
use Rattle.aterm.specs.declared.file.Derivation.{Derivation}
use Rattle.aterm.specs.declared.file.Input.{Input}
use Rattle.aterm.specs.declared.rows.Placed.{Placed}
use Rattle.canonical.specs.Files.{said_in, values, input_value, derivation_value}
use Rattle.canonical.specs.Kinds.{Lawful}
use Rattle.canonical.specs.Meanings.{a_derivation}
use Rattle.canonical.specs.Order.{Member}
use Rattle.right_paths.specs.Inputs.{Aligned}
use Rattle.right_paths.specs.Worked.{Workable}
use Rattle.right_paths.proofs.Given.{some_workable}
use Rattle.hash_modulo.specs.Sets.{Bytes, Row, Names}
use Rattle.hash_modulo.specs.Strings.{Limits}
use Rattle.hash_rows.specs.declared.hash.Hash.{Hash}
use Rattle.image.specs.Opening.{Opens}
use Rattle.links.specs.Sets.{Found}
use Rattle.links.proofs.Files.{apart}
use Rattle.checker.specs.Settling.{hash_if, hash_kept, HashFound, HashesFor}
use Rattle.checker.specs.Views.{View, NumberOf, HashedAt}
use Rattle.checker.specs.declared.state.Hashes.{Hashes}

-- the file that was found has the hash of the file with that path
pub kept_at : (v : View) → ∥ Opens v.image v.count ∥₁ → (p : Bytes) (j : ℕ) → Found v.image v.count p (Some j) → HashFound v p (hash_kept (v.row j))
kept_at v opens p j f k h a u =
    let same : j ≡ k = apart v.image v.count opens j k f.0 f.1 a.exists.0 a.exists.1 (f.2 ∙ sym a.is) in
    ap (λ (i : ℕ). hash_kept (v.row i)) same ∙ ap hash_kept u.settled ∙ ap hash_if u.is

pub unwrapped : (o : Option Hash) (P : Hash → Type 0) (x y : Hash) → UnwrapsOrElse o P x → o ≡ Some y → x ≡ y
unwrapped o P x y u e = subst (λ (q : Option Hash). UnwrapsOrElse q P x) e u

-- a test that found nothing
pub none_left : {A : Type 0} (o : Option A) (P : Option A → Type 0) → P o → ((x : A) → o ≡ Some x → ⊥) → P None
none_left None P p n = p
none_left (Some x) P p n = absurd (n x refl)

clash : ◌≡◌ {A = ℕ} 0 1 → ⊥
clash e = omega arith

-- a function that has the hashes that were looked up has the kept one of each input that is settled with one
pub known : (v : View) (text : Bytes) (vs : List (Placed Input)) (hashes : List Hash) (g : Bytes → Bytes) → HashesFor v text vs hashes
    → Aligned g (values (input_value text) vs) (take (length vs) hashes) → (r : Row) → Member r (values (input_value text) vs)
    → (k : ℕ) (h : Hashes) → NumberOf v r.0 k → HashedAt v k h → g r.0 ≡ h.hash.bytes
known v text [] hashes g each a r i k h n u = absurd i
known v text (w ∷ vs) [] g each a r i k h n u = absurd (clash (cc))
known v text (w ∷ vs) (x ∷ hashes) g each a r (inl e) k h n u =
    let p : g (said_in text w.value.path) ≡ x.bytes = cc in
    let q : r.0 ≡ said_in text w.value.path = ap (λ (s : Row). s.0) e in
    ap g q ∙ p ∙ ap (λ (y : Hash). y.bytes) ((each 0 w x (omega arith)).right k h (subst (λ (y : Bytes). NumberOf v y k) q n) u)
known v text (w ∷ vs) (x ∷ hashes) g each a r (inr i) k h n u =
    let rest : Aligned g (values (input_value text) vs) (take (length vs) hashes) = cc in
    known v text vs hashes g (λ j s y l. each (suc j) s y (omega arith)) rest r i k h n u

-- so it is of hashes from which a file can be worked out
pub known_of : (v : View) (path text : Bytes) (sorted : Derivation) (vs : List (Placed Input)) (hashes : List Hash) → vs ≡ rows_of sorted.inputs → HashesFor v text vs hashes
    → (w : Workable path (derivation_value text sorted) (take (length vs) hashes)) → (r : Row) → Names (derivation_value text sorted) r
    → (k : ℕ) (h : Hashes) → NumberOf v r.0 k → HashedAt v k h → w.given r.0 ≡ h.hash.bytes
known_of v path text sorted vs hashes e each w =
    known v text (rows_of sorted.inputs) hashes w.given
    (subst (λ (us : List (Placed Input)). HashesFor v text us hashes) e each)
    (subst (λ (us : List (Placed Input)). Aligned w.given (derivation_value text sorted).1.0 (take (length us) hashes)) e w.aligned)

pub workable_of : (path text : Bytes) (sorted : Derivation) (vs : List (Placed Input)) (hashes : List Hash) → vs ≡ rows_of sorted.inputs
    → Limits path (derivation_value text sorted) → Lawful a_derivation (derivation_value text sorted) → length hashes ≡ 64
    → Workable path (derivation_value text sorted) (take (length vs) hashes)
workable_of path text sorted vs hashes e limits lawful wide =
    let m = derivation_value text sorted in
    let long : length m.1.0 ≡ length (rows_of sorted.inputs) = length-map (rows_of sorted.inputs) (λ (w : Placed Input). input_value text w.value) in
    let same : length vs ≡ length (rows_of sorted.inputs) = ap length e in
    some_workable path m (take (length vs) hashes) limits lawful (long ∙ sym same ∙ sym (length-take-le (length vs) hashes (omega (arith, limits.inputs, long, same, wide))))

pub short_rows : (text : Bytes) (sorted : Derivation) (vs : List (Placed Input)) → vs ≡ rows_of sorted.inputs → length (derivation_value text sorted).1.0 ≤ 64 → length vs ≤ 64
short_rows text sorted vs e few =
    let long : length (derivation_value text sorted).1.0 ≡ length (rows_of sorted.inputs) = length-map (rows_of sorted.inputs) (λ (w : Placed Input). input_value text w.value) in
    let same : length vs ≡ length (rows_of sorted.inputs) = ap length e in
    omega (arith, few, long, same)
