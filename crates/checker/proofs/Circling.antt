-- Some file of an image rests on itself, or none does.
use Rattle.std.proofs.Common.{ℕ, zero, suc, ◌≤◌, List, [], ◌∷◌, length, ◌⊎◌, sym, refl, subst, inl, inr, arith}
use Rattle.std.proofs.lemmas.Bool.{cases_eq}
use Rattle.canonical.specs.Meanings.{Meaning}
use Rattle.canonical.specs.Order.{Member}
use Rattle.hash_modulo.specs.Sets.{Bytes, Files, Present, Means, Readable, Row, Names, Rests, near, far}
use Rattle.hash_modulo.proofs.Choosing.{readable?}
use Rattle.hash_modulo.proofs.Founding.{Place, onward, less_length, reads_present}
use Rattle.hash_modulo.proofs.Hashes.{one_meaning}
use Rattle.image.specs.Opening.{Opens}
use Rattle.links.proofs.Files.{set_finite, set_only}
use Rattle.checker.specs.Calls.{OnCycle}
use Rattle.checker.specs.Views.{View, files, path_at}

-- some file rests on itself
abbrev Cycle : Files → Type 0
Cycle set = (c : Bytes) × Rests set c c

-- neither the file nor any that it rests on rests on itself
record Clear (set : Files) (p : Bytes) : Type 0 where
  here : Rests set p p → ⊥
  below : (q : Bytes) → Rests set p q → Rests set q q → ⊥

module _ (set : Files) where
  pub rests_read : {p q : Bytes} → Rests set p q → Readable set p
  rests_read (near m r e o s) = (m, e)
  rests_read (far m r e o t) = (m, e)

  clear_below : (p : Bytes) (m : Meaning) → Means set p m → ((r : Row) → Names m r → Clear set r.0) → (q : Bytes) → Rests set p q → Rests set q q → ⊥
  clear_below p m e all q (near n r f o s) u =
      (all r (subst (λ (x : Meaning). Names x r) (one_meaning set p n m f e) o)).here (subst (λ (x : Bytes). Rests set x x) (sym s) u)
  clear_below p m e all q (far n r f o t) u = (all r (subst (λ (x : Meaning). Names x r) (one_meaning set p n m f e) o)).below q t u

  clear_all : (p : Bytes) (m : Meaning) → Means set p m → ((r : Row) → Names m r → Clear set r.0) → Clear set p
  clear_all p m e all = record { here = λ t. clear_below p m e all p t t; below = clear_below p m e all }

  -- of a list of rows whose files are clear, or show a cycle
  rows? : (m : Meaning) → ((r : Row) → Names m r → Cycle set ⊎ Clear set r.0) → Cycle set ⊎ ((r : Row) → Names m r → Clear set r.0)
  rows? m f = go m.1.0 f
    where
      more : (x : Row) (xs : List Row) → Clear set x.0 → ((r : Row) → Member r xs → Clear set r.0) → (r : Row) → Member r (x ∷ xs) → Clear set r.0
      more x xs c all r (inl e) = subst (λ (y : Row). Clear set y.0) (sym e) c
      more x xs c all r (inr i) = all r i

      go : (rows : List Row) → ((r : Row) → Member r rows → Cycle set ⊎ Clear set r.0) → Cycle set ⊎ ((r : Row) → Member r rows → Clear set r.0)
      go [] f = inr (λ r i. absurd i)
      go (x ∷ xs) f = elim (f x (inl refl)) [
        | inl c ↦ inl c
        | inr k ↦ elim (go xs (λ r i. f r (inr i))) [ inl c ↦ inl c | inr all ↦ inr (more x xs k all) ]
      ]

  step : (p : Bytes) → (Present set p → Cycle set ⊎ ((m : Meaning) → Means set p m → (r : Row) → Names m r → Cycle set ⊎ Clear set r.0)) → Cycle set ⊎ Clear set p
  step p f = elim (readable? set p) [
    | inr n ↦ inr (record { here = λ t. n (rests_read t); below = λ q t u. n (rests_read t) })
    | inl z ↦ elim (f (reads_present set p z)) [
      | inl c ↦ inl c
      | inr g ↦ elim (rows? z.0 (g z.0 z.1)) [ inl c ↦ inl c | inr all ↦ inr (clear_all p z.0 z.1 all) ]
    ]
  ]

  search : (n : ℕ) (p : Bytes) → Place set p n → Cycle set ⊎ Clear set p
  search zero p w =
      step p (λ s. elim (w.all p s) [ inl t ↦ inl (p, t) | inr i ↦ absurd (omega (arith, less_length p w.ahead i, w.few)) ])
  search (suc n) p w =
      step p (λ s. elim (w.all p s) [ inl t ↦ inl (p, t) | inr i ↦ inr (λ m e r o. search n r.0 (onward set p n w i m r e o)) ])

-- of the first n files
searched : (v : View) → Opens v.image v.count → (n : ℕ) → Cycle (files v) ⊎ ((k : ℕ) → 1 ≤ k → k ≤ n → Rests (files v) (path_at v k) (path_at v k) → ⊥)
searched v o zero = inr (λ k a b t. omega arith)
searched v o (suc n) = elim (searched v o n) [
  | inl c ↦ inl c
  | inr none ↦ (let f = set_finite v.image v.count o in
      elim (search (files v) (length f.0) (path_at v (suc n)) (record { ahead = f.0; few = omega arith; all = λ q s. inr (f.1 q s) })) [
        | inl c ↦ inl c
        | inr k ↦ inr (λ j a b t. elim (cases_eq j (suc n)) [
          | inl e ↦ k.here (subst (λ (i : ℕ). Rests (files v) (path_at v i) (path_at v i)) e t)
          | inr ne ↦ none j a (omega arith) t
        ])
      ])
]

pub on_cycle : (v : View) → Opens v.image v.count → (c : ℕ) × OnCycle v c
on_cycle v o = elim (searched v o v.count) [
  | inl c ↦ (let z = rests_read (files v) c.1 in
      let f = set_only v.image v.count c.0 z.1.text z.1.at in
      (f.number, inr ((f.from, f.to), subst (λ (x : Bytes). Rests (files v) x x) (sym f.path) c.1)))
  | inr none ↦ (
    0,
    inl (
      refl,
      λ p t. (let z = rests_read (files v) t in
          let f = set_only v.image v.count p z.1.text z.1.at in
          none f.number f.from f.to (subst (λ (x : Bytes). Rests (files v) x x) (sym f.path) t)),
    ),
  )
]
