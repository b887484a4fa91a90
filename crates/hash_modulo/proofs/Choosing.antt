-- In a finite set it is decided which files have a hash; and a hash depends on nothing that the file does not rest on.
use Rattle.std.proofs.Common.{◌≡◌, ℕ, zero, suc, ◌⊎◌, List, [], ◌∷◌, length, Some, None, Option, sym, refl, ap, ◌∙◌, subst, inl, inr, arith}
use Rattle.canonical.specs.Kinds.{Value}
use Rattle.canonical.specs.Meanings.{an_output, Meaning}
use Rattle.canonical.specs.Order.{Member}
use Rattle.file_meaning.specs.Reads.{Reads}
use Rattle.file_meaning.proofs.Judged.{every_file, not_both}
use Rattle.store_path.proofs.Deciding.{Known, same_text}
use Rattle.hash_modulo.specs.Hashes.{hashed}
use Rattle.hash_modulo.specs.Laws.{Decided, SomeInputWithout, Local}
use Rattle.hash_modulo.specs.Sets.{Bytes, Files, Present, Means, Readable, Row, Names, Owns, Owned, Ready, Rests, near, far, Hashable, hashable}
use Rattle.hash_modulo.proofs.Founding.{reads_present, hashable_reads, hashable_ready, Place, onward, less_length}
use Rattle.hash_modulo.proofs.Hashes.{one_text, no_cycle, inputs_hashable, one_meaning}

-- all, or one that is not
abbrev pub AllOrOne : {A : Type 0} → (A → Type 0) → List A → Type 0
AllOrOne {A} P xs = ((a : A) → Member a xs → P a) ⊎ ((a : A) × Member a xs × (P a → ⊥))

all_more : {A : Type 0} (P : A → Type 0) (x : A) (xs : List A) → Known (P x) → AllOrOne P xs → AllOrOne P (x ∷ xs)
all_more P x xs (inr n) w = inr (x, inl refl, n)
all_more P x xs (inl p) (inr z) = inr (z.0, inr z.1, z.2)
all_more P x xs (inl p) (inl all) = inl (λ a i. elim i [ inl e ↦ subst P (sym e) p | inr j ↦ all a j ])

pub all? : {A : Type 0} (P : A → Type 0) (xs : List A) → ((a : A) → Member a xs → Known (P a)) → AllOrOne P xs
all? P [] f = inl (λ a i. absurd i)
all? P (x ∷ xs) f = all_more P x xs (f x (inl refl)) (all? P xs (λ a i. f a (inr i)))

-- some output has this name
abbrev Named : List (Value an_output) → Bytes → Type 0
Named os n = (o : Value an_output) × Member o os × (o.0 ≡ n)

named? : (os : List (Value an_output)) (n : Bytes) → Known (Named os n)
named? [] n = inr (λ z. z.1)
named? (o ∷ os) n = elim (same_text o.0 n) [
  | inl e ↦ inl (o, inl refl, e)
  | inr ne ↦ elim (named? os n) [
    | inl z ↦ inl (z.0, inr z.1, z.2)
    | inr not ↦ inr (λ z. elim z.1 [ inl e ↦ ne (ap (λ (x : Value an_output). x.0) (sym e) ∙ z.2) | inr i ↦ not (z.0, i, z.2) ])
  ]
]

pub present? : (o : Option Bytes) → Known ((t : Bytes) × (o ≡ Some t))
present? None = inr (λ z. let e = z.1 in cc)
present? (Some t) = inl (t, refl)

pub readable? : (set : Files) (p : Bytes) → Known (Readable set p)
readable? set p = at (set p) refl
  where
    at : (o : Option Bytes) → set p ≡ o → Known (Readable set p)
    at None e = inr (λ z. let f = z.1.at in cc)
    at (Some t) e = elim (every_file p t) [
      | inl x ↦ inl (x.0, record { text = t; at = e; reads = x.1 })
      | inr f ↦ inr (λ z. not_both p t z.0 f.0 (subst (λ (u : Bytes). Reads p u z.0) (one_text (set p) z.1.text t z.1.at e) z.1.reads) f.1)
    ]

pub owned? : (set : Files) (r : Row) → Known (Owned set r)
owned? set r = elim (readable? set r.0) [
  | inr not ↦ inl (λ m f n i. absurd (not (m, f)))
  | inl z ↦ elim (all? (Named z.0.0) r.1 (λ n i. named? z.0.0 n)) [
    | inl all ↦ inl (λ k f n i. subst (λ (x : Meaning). Owns x n) (one_meaning set r.0 z.0 k z.1 f) (all n i))
    | inr w ↦ inr (λ o. w.2 (o z.0 z.1 w.0 w.1))
  ]
]

pub ready? : (set : Files) (m : Meaning) → Known (Ready set m)
ready? set m = join (all? (λ (r : Row). Present set r.0) m.1.0 (λ r i. present? (set r.0))) (all? (Owned set) m.1.0 (λ r i. owned? set r))
  where
    join : AllOrOne (λ (r : Row). Present set r.0) m.1.0 → AllOrOne (Owned set) m.1.0 → Known (Ready set m)
    join (inr z) w = inr (λ y. z.2 (y.present z.0 z.1))
    join (inl p) (inr z) = inr (λ y. z.2 (y.owned z.0 z.1))
    join (inl p) (inl o) = inl (record { present = p; owned = o })

step : (set : Files) (p : Bytes)
    → (Present set p → Rests set p p ⊎ ((m : Meaning) → Means set p m → (r : Row) → Names m r → Known (Hashable set r.0)))
    → Known (Readable set p) → Known (Hashable set p)
step set p f (inr not) = inr (λ h. not (hashable_reads h))
step set p f (inl (m, e)) = join (f (reads_present set p (m, e))) (ready? set m)
  where
    join : Rests set p p ⊎ ((m : Meaning) → Means set p m → (r : Row) → Names m r → Known (Hashable set r.0))
        → Known (Ready set m) → Known (Hashable set p)
    join (inl t) w = inr (λ h. no_cycle h t)
    join (inr g) (inr not) = inr (λ h. not (hashable_ready h m e))
    join (inr g) (inl y) = elim (all? (λ (r : Row). Hashable set r.0) m.1.0 (g m e))
        [ inl all ↦ inl (hashable m e y all) | inr z ↦ inr (λ h. z.2 (inputs_hashable h m e z.0 z.1)) ]

decide : (set : Files) (n : ℕ) (p : Bytes) → Place set p n → Known (Hashable set p)
decide set zero p w = step set p
    (λ s. elim (w.all p s) [ inl t ↦ inl t | inr i ↦ absurd (omega (arith, less_length p w.ahead i, w.few)) ])
    (readable? set p)
decide set (suc n) p w = step set p
    (λ s. elim (w.all p s) [ inl t ↦ inl t | inr i ↦ inr (λ m e r o. decide set n r.0 (onward set p n w i m r e o)) ])
    (readable? set p)

pub decided : Decided
decided set f p = decide set (length f.0) p (record { ahead = f.0; few = omega arith; all = λ q s. inr (f.1 q s) })

pub some_input_without : SomeInputWithout
some_input_without set f p m e y not = elim (all? (λ (r : Row). Hashable set r.0) m.1.0 (λ r i. decided set f r.0))
    [ inl all ↦ absurd (not (hashable m e y all)) | inr z ↦ z ]

-- another set that agrees
means_too : (one two : Files) (p : Bytes) → one p ≡ two p → (m : Meaning) → Means one p m → Means two p m
means_too one two p e m f = record { text = f.text; at = sym e ∙ f.at; reads = f.reads }

pub local : Local
local one two d p h e b (hashed m g s f y i x a) =
    hashed m g s (means_too one two p e m f)
    (record {
      present = λ r o. (let z = y.present r o in (z.0, sym (b r.0 (near m r f o refl)) ∙ z.1));
      owned = λ r o k q n j. y.owned r o k (means_too two one r.0 (sym (b r.0 (near m r f o refl))) k q) n j;
    })
    (λ r o. local one two d r.0 (g r.0) (b r.0 (near m r f o refl)) (λ q t. b q (far m r f o t)) (i r o))
    x
    a
