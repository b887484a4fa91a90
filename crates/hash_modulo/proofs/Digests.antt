-- The strings digested for a file are there, one list of them, each short; right paths are one each; all depend on texts only through their meanings.
use Rattle.std.proofs.Common.{◌≡◌, ℕ, zero, suc, ◌<◌, ◌≤◌, ◌⊎◌, List, ◌∷◌, ◌++◌, map, length, get_or, sym, refl, ap, ◌∙◌, subst, inl, inr, arith}
use Rattle.canonical.specs.Meanings.{Meaning}
use Rattle.file_meaning.specs.Reads.{Reads}
use Rattle.hash_modulo.specs.Hashes.{Digest, Fixed, fixed_string, Hashed, hashed, HashString}
use Rattle.hash_modulo.specs.Laws.{StringsStand, Wide, StringsShort, DigestedStand, OneRightPath, SomeRightPath, SameMeanings, MeaningAlone}
use Rattle.hash_modulo.specs.Paths.{References, OwnPath, OutputPath, MaskedString}
use Rattle.hash_modulo.specs.Sets.{Bytes, Files, Means, Row, Names, Ready, Hashable, hashable}
use Rattle.hash_modulo.specs.Strings.{own_strings, fixed_strings, output_string, FileStrings, of_fixed, of_text, InputsHashed, Digested, no_output, RightPath, own, output}
use Rattle.hash_modulo.proofs.Deciding.{fixed?}
use Rattle.hash_modulo.proofs.Founding.{hashable_ready}
use Rattle.hash_modulo.proofs.Hashes.{one_text, one_meaning, only_once, one_string, some_string, one_hash_each, chosen, has_hash, inputs_hashable}
use Rattle.hash_modulo.proofs.Lengths.{strings_short_at}
use Rattle.hash_modulo.proofs.Paths.{references, one_list, masked_string, one_masked, own_paths, one_output, output_paths}
use Rattle.hash_modulo.proofs.Within.{within_limits}

-- ---- the strings of a meaning

some_strings : (d : Digest) (path : Bytes) (g : Bytes → Bytes) (m : Meaning) → (ss : List Bytes) × FileStrings d path g m ss
some_strings d path g m = way (fixed? m) (references m) (some_string g m) (masked_string g m)
  where
    way : Fixed m ⊎ (Fixed m → ⊥) → (rs : List Bytes) × References m rs → (s : Bytes) × HashString g m s → (t : Bytes) × MaskedString g m t
        → (ss : List Bytes) × FileStrings d path g m ss
    way (inl f) r s t = (own_strings d path m r.0 ++ (fixed_string f.only ∷ fixed_strings d path f.only), of_fixed f r.0 r.1 refl)
    way (inr n) r s t = (own_strings d path m r.0 ++ (s.0 ∷ t.0 ∷ map (output_string d path t.0) m.0), of_text n r.0 r.1 s.0 s.1 t.0 t.1 refl)

one_strings : (d : Digest) (path : Bytes) (f g : Bytes → Bytes) (m : Meaning) (ss ts : List Bytes)
    → ((r : Row) → Names m r → f r.0 ≡ g r.0) → FileStrings d path f m ss → FileStrings d path g m ts → ss ≡ ts
one_strings d path f g m ss ts agree (of_fixed a rs x p) (of_fixed b rs' y q) =
    let same : rs ≡ rs' = one_list m rs rs' x y in
    let only : a.only ≡ b.only = only_once m.0 a.only b.only a.whole b.whole in
    p ∙ (λ i. own_strings d path m (same i) ++ (fixed_string (only i) ∷ fixed_strings d path (only i))) ∙ sym q
one_strings d path f g m ss ts agree (of_fixed a rs x p) (of_text n rs' y s h t k q) = absurd (n a)
one_strings d path f g m ss ts agree (of_text n rs x s h t k p) (of_fixed b rs' y q) = absurd (n b)
one_strings d path f g m ss ts agree (of_text n rs x s h t k p) (of_text n' rs' y s' h' t' k' q) =
    let same : rs ≡ rs' = one_list m rs rs' x y in
    let hash : s ≡ s' = one_string f g m s s' agree h h' in
    let mask : t ≡ t' = one_masked f g m t t' agree k k' in
    p ∙ (λ i. own_strings d path m (same i) ++ (hash i ∷ mask i ∷ map (output_string d path (mask i)) m.0)) ∙ sym q

pub strings_stand : StringsStand
strings_stand = record { some = some_strings; one = one_strings }

-- ---- the strings of a file of a set

pub hash_wide : {set : Files} {d : Digest} {p h : Bytes} → Wide d → Hashed set d p h → length h ≡ 32
hash_wide w (hashed m g s e y i x a) = ap length a ∙ w s

pub strings_short : StringsShort
strings_short set d w p text ss e short long x =
    let same : x.means.text ≡ text = one_text (set p) x.means.text text x.means.at e in
    let r : Reads p text x.meaning = subst (λ (t : Bytes). Reads p t x.meaning) same x.means.reads in
    strings_short_at d w (within_limits p text x.meaning short long r) (λ r o. hash_wide w (x.inputs r o)) x.strings

one_digested : (set : Files) (d : Digest) (p : Bytes) (ss ts : List Bytes) → Digested set d p ss → Digested set d p ts → ss ≡ ts
one_digested set d p ss ts a b =
    let same : b.meaning ≡ a.meaning = one_meaning set p b.meaning a.meaning b.means a.means in
    let inputs : InputsHashed set d a.meaning b.hashes = subst (λ (m : Meaning). InputsHashed set d m b.hashes) same b.inputs in
    let strings : FileStrings d p b.hashes a.meaning ts = subst (λ (m : Meaning). FileStrings d p b.hashes m ts) same b.strings in
    one_strings d p a.hashes b.hashes a.meaning ss ts
    (λ r o. one_hash_each set d r.0 (a.hashes r.0) (b.hashes r.0) (a.inputs r o) (inputs r o))
    a.strings
    strings

some_digested : (set : Files) (d : Digest) (p : Bytes) → Hashable set p → (ss : List Bytes) × Digested set d p ss
some_digested set d p (hashable m e y i) =
    let z = chosen (Hashed set d) m.1.0 (λ r o. has_hash set d (i r o)) in
    let s = some_strings d p z.0 m in
    (s.0, record { meaning = m; means = e; ready = y; hashes = z.0; inputs = z.1; strings = s.1 })

pub digested_stand : DigestedStand
digested_stand = record { some = some_digested; one = one_digested }

-- ---- right paths

pub one_right_path : OneRightPath
one_right_path set d p j q r (own m e a) (own n f b) =
    let same : n ≡ m = one_meaning set p n m f e in
    own_paths.one d p m q r a (subst (λ (x : Meaning). OwnPath d p x r) same b)
one_right_path set d p j q r (output m e y g i k l a) (output n f z h o k' l' b) =
    let same : n ≡ m = one_meaning set p n m f e in
    let o' : InputsHashed set d m h = subst (λ (x : Meaning). InputsHashed set d x h) same o in
    let b' : OutputPath d p h m (get_or m.0 k no_output) r = subst (λ (x : Meaning). OutputPath d p h x (get_or x.0 k no_output) r) same b in
    one_output d p g h m (get_or m.0 k no_output) q r (λ t u. one_hash_each set d t.0 (g t.0) (h t.0) (i t u) (o' t u)) a b'

own_right_path : (set : Files) (d : Digest) (p : Bytes) (m : Meaning) → Means set p m → (q : Bytes) × RightPath set d p zero q
own_right_path set d p m e = let z = own_paths.some d p m in (z.0, own m e z.1)

each_right_path : (set : Files) (d : Digest) (p : Bytes) (m : Meaning) → Means set p m → Hashable set p
    → (j : ℕ) → j ≤ length m.0 → (q : Bytes) × RightPath set d p j q
each_right_path set d p m e h zero l = own_right_path set d p m e
each_right_path set d p m e h (suc i) l =
    let g = chosen (Hashed set d) m.1.0 (λ r o. has_hash set d (inputs_hashable h m e r o)) in
    let z = output_paths.some d p g.0 m (get_or m.0 i no_output) in
    (z.0, output m e (hashable_ready h m e) g.0 g.1 i (omega arith) z.1)

no_right_path : (set : Files) (d : Digest) (p : Bytes) (m : Meaning) → Means set p m → (j : ℕ) → length m.0 < j → (q : Bytes) → RightPath set d p j q → ⊥
no_right_path set d p m e j past q (own n f a) = omega arith
no_right_path set d p m e j past q (output n f y g i k l a) =
    let same : length n.0 ≡ length m.0 = ap (λ (x : Meaning). length x.0) (one_meaning set p n m f e) in
    omega (arith, same, l, past)

pub some_right_path : SomeRightPath
some_right_path = record { own = own_right_path; some = each_right_path; none = no_right_path }

-- ---- through the meanings

means_too : (one two : Files) → SameMeanings one two → (p : Bytes) (m : Meaning) → Means one p m → Means two p m
means_too one two s p m e = (s.means p m).0 e

ready_too : (one two : Files) → SameMeanings one two → (m : Meaning) → Ready one m → Ready two m
ready_too one two s m y = record {
  present = λ r o. (s.present r.0).0 (y.present r o);
  owned = λ r o k f n j. y.owned r o k ((s.means r.0 k).1 f) n j;
}

hashed_too : (one two : Files) (d : Digest) → SameMeanings one two → {p h : Bytes} → Hashed one d p h → Hashed two d p h
hashed_too one two d w {p} (hashed m g s e y i x a) =
    hashed m g s (means_too one two w p m e) (ready_too one two w m y) (λ r o. hashed_too one two d w (i r o)) x a

path_too : (one two : Files) (d : Digest) → SameMeanings one two → (p : Bytes) {j : ℕ} {q : Bytes} → RightPath one d p j q → RightPath two d p j q
path_too one two d w p (own m e a) = own m (means_too one two w p m e) a
path_too one two d w p (output m e y g i k l a) =
    output m (means_too one two w p m e) (ready_too one two w m y) g (λ r o. hashed_too one two d w (i r o)) k l a

pub meaning_alone : MeaningAlone
meaning_alone one two w d p = record {
  hash = λ h x. hashed_too one two d w x;
  paths = λ j q x. path_too one two d w p x;
  strings = λ ss x. record {
    meaning = x.meaning;
    means = means_too one two w p x.meaning x.means;
    ready = ready_too one two w x.meaning x.ready;
    hashes = x.hashes;
    inputs = λ r o. hashed_too one two d w (x.inputs r o);
    strings = x.strings;
  };
}
