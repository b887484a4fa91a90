-- One hash each, and none on a cycle.
use Rattle.std.proofs.Common.{◌≡◌, ◌⊎◌, List, [], ◌∷◌, map, Some, Option, sym, refl, ap, ◌∙◌, subst, inl, inr}
use Rattle.canonical.specs.Kinds.{Value}
use Rattle.canonical.specs.Meanings.{an_output, Meaning, canonical}
use Rattle.canonical.specs.Order.{Member}
use Rattle.file_meaning.specs.Reads.{Reads}
use Rattle.file_meaning.proofs.Meanings as meanings
use Rattle.hash_rows.specs.Keyed as keyed
use Rattle.hash_rows.proofs.Fixing.{rows_fixed}
use Rattle.sink.specs.Numerals.{hex}
use Rattle.store_path.proofs.Deciding.{same_text}
use Rattle.hash_modulo.specs.Hashes.{Digest, fixed_string, path_of, hashed_rows, with_inputs, HashString, of_fixed, of_text, Hashed, hashed}
use Rattle.hash_modulo.specs.Laws.{OneHash, HashableHasHash, CyclesHaveNone}
use Rattle.hash_modulo.specs.Sets.{Bytes, Files, Means, Row, Names, Rests, near, far, Hashable, hashable}
use Rattle.hash_modulo.proofs.Deciding.{fixed?}

pub one_text : (o : Option Bytes) (t u : Bytes) → o ≡ Some t → o ≡ Some u → t ≡ u
one_text o t u a b = cc

pub one_meaning : (set : Files) (p : Bytes) (m n : Meaning) → Means set p m → Means set p n → m ≡ n
one_meaning set p m n a b =
    let same : b.text ≡ a.text = one_text (set p) b.text a.text b.at a.at in
    meanings.one_meaning p a.text m n a.reads (subst (λ (t : Bytes). Reads p t n) same b.reads)

-- ---- the string of a hash

pub only_once : (os : List (Value an_output)) (a b : Value an_output) → os ≡ a ∷ [] → os ≡ b ∷ [] → a ≡ b
only_once os a b p q = cc

pub rows_agree : (f g : Bytes → Bytes) (rows : List Row) → ((r : Row) → Member r rows → f r.0 ≡ g r.0)
    → map {B = Row} (λ (r : Row). (hex (f r.0), r.1)) rows ≡ map {B = Row} (λ (r : Row). (hex (g r.0), r.1)) rows
rows_agree f g [] e = refl
rows_agree f g (x ∷ xs) e =
    let a : f x.0 ≡ g x.0 = e x (inl refl) in
    let b = rows_agree f g xs (λ r i. e r (inr i)) in
    λ i. (hex (a i), x.1) ∷ b i

pub no_row : Row
no_row = ([], [])

pub one_string : (f g : Bytes → Bytes) (m : Meaning) (s t : Bytes) → ((r : Row) → Names m r → f r.0 ≡ g r.0) → HashString f m s → HashString g m t → s ≡ t
one_string f g m s t agree (of_fixed a p) (of_fixed b q) = p ∙ ap fixed_string (only_once m.0 a.only b.only a.whole b.whole) ∙ sym q
one_string f g m s t agree (of_fixed a p) (of_text n rows r k q) = absurd (n a)
one_string f g m s t agree (of_text n rows r k p) (of_fixed b q) = absurd (n b)
one_string f g m s t agree (of_text n rows r k p) (of_text n' rows' r' k' q) =
    let same : hashed_rows g m ≡ hashed_rows f m = sym (rows_agree f g m.1.0 agree) in
    let k'' : keyed.Gathered path_of (hashed_rows f m) rows' = subst (λ (ps : List Row). keyed.Gathered path_of ps rows') same k' in
    p ∙ ap (λ (l : List Row). canonical (with_inputs m l)) ((rows_fixed path_of no_row (hashed_rows f m)).one rows rows' r r' k k'') ∙ sym q

pub some_string : (g : Bytes → Bytes) (m : Meaning) → (s : Bytes) × HashString g m s
some_string g m = elim (fixed? m) [
  | inl f ↦ (fixed_string f.only, of_fixed f refl)
  | inr n ↦ (let w = (rows_fixed path_of no_row (hashed_rows g m)).some in (canonical (with_inputs m w.0), of_text n w.0 w.1 w.2 refl))
]

-- ---- one hash

pub one_hash : (set : Files) (d : Digest) {p g : Bytes} → Hashed set d p g → (h : Bytes) → Hashed set d p h → g ≡ h
one_hash set d {p} (hashed m f s e y i x a) h (hashed n k t e' y' j z b) =
    let same : n ≡ m = one_meaning set p n m e' e in
    let j' : (r : Row) → Names m r → Hashed set d r.0 (k r.0) = subst (λ (w : Meaning). (r : Row) → Names w r → Hashed set d r.0 (k r.0)) same j in
    let z' : HashString k m t = subst (λ (w : Meaning). HashString k w t) same z in
    a ∙ ap d (one_string f k m s t (λ r o. one_hash set d (i r o) (k r.0) (j' r o)) x z') ∙ sym b

pub one_hash_each : OneHash
one_hash_each set d p g h a b = one_hash set d a h b

-- ---- a function from what is known row by row

abbrev either : {P Q : Type 0} → P ⊎ Q → Bytes → Bytes → Bytes
either (inl p) x y = x
either (inr q) x y = y

abbrev pub Chosen : (Bytes → Bytes → Type 0) → List Row → Type 0
Chosen P rows = (g : Bytes → Bytes) × ((r : Row) → Member r rows → P r.0 (g r.0))

one_more : (P : Bytes → Bytes → Type 0) (x : Row) (xs : List Row) → (h : Bytes) → P x.0 h → Chosen P xs → Chosen P (x ∷ xs)
one_more P x xs h w z = (λ q. either (same_text q x.0) h (z.0 q), λ r i. right r i (same_text r.0 x.0))
  where
    right : (r : Row) → Member r (x ∷ xs) → (c : (r.0 ≡ x.0) ⊎ (r.0 ≡ x.0 → ⊥)) → P r.0 (either c h (z.0 r.0))
    right r i (inl e) = subst (λ (q : Bytes). P q h) (sym e) w
    right r (inl e) (inr ne) = absurd (ne (ap (λ (y : Row). y.0) e))
    right r (inr i) (inr ne) = z.1 r i

pub chosen : (P : Bytes → Bytes → Type 0) (rows : List Row) → ((r : Row) → Member r rows → (h : Bytes) × P r.0 h) → Chosen P rows
chosen P [] f = (λ q. [], λ r i. absurd i)
chosen P (x ∷ xs) f = let z = f x (inl refl) in one_more P x xs z.0 z.1 (chosen P xs (λ r i. f r (inr i)))

pub has_hash : (set : Files) (d : Digest) {p : Bytes} → Hashable set p → (h : Bytes) × Hashed set d p h
has_hash set d {p} (hashable m e y i) =
    let z = chosen (Hashed set d) m.1.0 (λ r o. has_hash set d (i r o)) in
    let s = some_string z.0 m in
    (d s.0, hashed m z.0 s.0 e y z.1 s.1 refl)

pub is_hashable : (set : Files) (d : Digest) {p h : Bytes} → Hashed set d p h → Hashable set p
is_hashable set d (hashed m g s e y i x a) = hashable m e y (λ r o. is_hashable set d (i r o))

pub hashable_has_hash : HashableHasHash
hashable_has_hash set d p = (λ a. has_hash set d a, λ z. is_hashable set d z.1)

-- cycles
pub rests_on : {set : Files} {a b : Bytes} → Rests set a b → (m : Meaning) (r : Row) → Means set b m → Names m r → Rests set a r.0
rests_on {set} (near n s e o q) m r f i = far n s e o (subst (λ (x : Bytes). Rests set x r.0) (sym q) (near m r f i refl))
rests_on (far n s e o t) m r f i = far n s e o (rests_on t m r f i)

pub inputs_hashable : {set : Files} {p : Bytes} → Hashable set p → (m : Meaning) → Means set p m → (r : Row) → Names m r → Hashable set r.0
inputs_hashable {set} {p} (hashable n e y i) m f r o =
    i r (subst (λ (x : Meaning). Names x r) (one_meaning set p m n f e) o)

pub carried : {set : Files} {p q : Bytes} → Rests set p q → Hashable set p → Hashable set q
carried {set} (near m r e o s) h = subst (Hashable set) s (inputs_hashable h m e r o)
carried (far m r e o t) h = carried t (inputs_hashable h m e r o)

pub no_cycle : {set : Files} {p : Bytes} → Hashable set p → Rests set p p → ⊥
no_cycle {set} {p} (hashable n f y i) (near m r e o s) =
    let o' : Names n r = subst (λ (x : Meaning). Names x r) (one_meaning set p m n e f) o in
    no_cycle (i r o') (subst (λ (x : Bytes). Rests set x x) (sym s) (near m r e o s))
no_cycle {set} {p} (hashable n f y i) (far m r e o t) =
    let o' : Names n r = subst (λ (x : Meaning). Names x r) (one_meaning set p m n e f) o in
    no_cycle (i r o') (rests_on t n r f o')

pub cycles_have_none : CyclesHaveNone
cycles_have_none set c t = (λ h. no_cycle h t, λ p u h. no_cycle (carried u h) t)
