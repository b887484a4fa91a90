-- In a finite set, a file has a hash exactly when it is founded.
use Rattle.std.proofs.Common.{◌≡◌, ℕ, zero, suc, ◌≤◌, ◌⊎◌, List, [], ◌∷◌, length, sym, refl, ap, ◌∙◌, subst, inl, inr, arith}
use Rattle.canonical.specs.Meanings.{Meaning}
use Rattle.canonical.specs.Order.{Member}
use Rattle.hash_modulo.specs.Laws.{Good, RowsGood, Founded, InOwnTerms}
use Rattle.hash_modulo.specs.Sets.{Bytes, Files, Present, Means, Readable, Row, Names, Ready, Rests, near, far, Hashable, hashable}
use Rattle.hash_modulo.proofs.Hashes.{rests_on, inputs_hashable, carried, no_cycle, one_meaning}

pub reads_present : (set : Files) (p : Bytes) → Readable set p → Present set p
reads_present set p z = (z.1.text, z.1.at)

pub hashable_reads : {set : Files} {p : Bytes} → Hashable set p → Readable set p
hashable_reads (hashable m e y i) = (m, e)

pub hashable_ready : {set : Files} {p : Bytes} → Hashable set p → (m : Meaning) → Means set p m → Ready set m
hashable_ready {set} {p} (hashable n e y i) m f = subst (Ready set) (one_meaning set p n m e f) y

rows_good : {set : Files} {p : Bytes} → Hashable set p → RowsGood set p
rows_good {set} h m r e o = record {
  present = (hashable_ready h m e).present r o;
  reads = hashable_reads (inputs_hashable h m e r o);
  owned = (hashable_ready h m e).owned r o;
}

founded : (set : Files) (p : Bytes) → Hashable set p → Founded set p
founded set p h = record {
  present = reads_present set p (hashable_reads h);
  reads = hashable_reads h;
  rows = rows_good h;
  rows_below = λ q t. rows_good (carried t h);
  acyclic = no_cycle h;
  acyclic_below = λ q t. no_cycle (carried t h);
}

-- what a founded file's rows name is founded
below : (set : Files) (p : Bytes) → Founded set p → (m : Meaning) (r : Row) → Means set p m → Names m r → Founded set r.0
below set p w m r e o =
    let t : Rests set p r.0 = near m r e o refl in
    let g : Good set r = w.rows m r e o in
    record {
      present = g.present;
      reads = g.reads;
      rows = w.rows_below r.0 t;
      rows_below = λ q u. w.rows_below q (far m r e o u);
      acyclic = w.acyclic_below r.0 t;
      acyclic_below = λ q u. w.acyclic_below q (far m r e o u);
    }

-- a list without one of its members
pub less : {A : Type 0} (a : A) (xs : List A) → Member a xs → List A
less a [] i = []
less a (x ∷ xs) (inl e) = xs
less a (x ∷ xs) (inr i) = x ∷ less a xs i

pub less_length : {A : Type 0} (a : A) (xs : List A) (i : Member a xs) → suc (length (less a xs i)) ≡ length xs
unfolding less
less_length a [] i = absurd i
less_length a (x ∷ xs) (inl e) = refl
less_length a (x ∷ xs) (inr i) = ap suc (less_length a xs i)

less_in : {A : Type 0} (a : A) (xs : List A) (i : Member a xs) (b : A) → Member b xs → (b ≡ a) ⊎ Member b (less a xs i)
unfolding less
less_in a [] i b j = absurd i
less_in a (x ∷ xs) (inl e) b (inl f) = inl (f ∙ sym e)
less_in a (x ∷ xs) (inl e) b (inr j) = inr j
less_in a (x ∷ xs) (inr i) b (inl f) = inr (inl f)
less_in a (x ∷ xs) (inr i) b (inr j) = elim (less_in a xs i b j) [ inl e ↦ inl e | inr k ↦ inr (inr k) ]

-- a way down to p: every file is ahead, or behind and rests on p
pub record Place (set : Files) (p : Bytes) (n : ℕ) : Type 0 where
  pub ahead : List Bytes
  pub few : length ahead ≤ n
  pub all : (q : Bytes) → Present set q → Rests set q p ⊎ Member q ahead

pub onward : (set : Files) (p : Bytes) (n : ℕ) (w : Place set p (suc n)) → Member p w.ahead
    → (m : Meaning) (r : Row) → Means set p m → Names m r → Place set r.0 n
onward set p n w i m r e o = record {
  ahead = less p w.ahead i;
  few = omega (arith, less_length p w.ahead i, w.few);
  all = λ q s. elim (w.all q s) [
    | inl t ↦ inl (rests_on t m r e o)
    | inr a ↦ elim (less_in p w.ahead i q a)
        [ inl f ↦ inl (subst (λ (x : Bytes). Rests set x r.0) (sym f) (near m r e o refl)) | inr b ↦ inr b ]
  ];
}

ready : (set : Files) (p : Bytes) → Founded set p → (m : Meaning) → Means set p m → Ready set m
ready set p w m e = record { present = λ r o. (w.rows m r e o).present; owned = λ r o. (w.rows m r e o).owned }

descend : (set : Files) (n : ℕ) (p : Bytes) → Place set p n → Founded set p → Hashable set p
descend set zero p w k = elim (w.all p k.present) [
  | inl t ↦ absurd (k.acyclic t)
  | inr i ↦ absurd (omega (arith, less_length p w.ahead i, w.few))
]
descend set (suc n) p w k = elim (w.all p k.present) [
  | inl t ↦ absurd (k.acyclic t)
  | inr i ↦ (let m : Meaning = k.reads.0 in let e : Means set p m = k.reads.1 in
      hashable m e (ready set p k m e) (λ r o. descend set n r.0 (onward set p n w i m r e o) (below set p k m r e o)))
]

pub in_own_terms : InOwnTerms
in_own_terms set f p = (
  founded set p,
  descend set (length f.0) p (record { ahead = f.0; few = omega arith; all = λ q s. inr (f.1 q s) }),
)
