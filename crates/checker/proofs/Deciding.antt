-- What is decided of a view: which questions of a call are answered yes, and which files are ready.
use Rattle.std.proofs.Common.{◌≡◌, ℕ, zero, suc, ◌<◌, ◌≤◌, Bool, true, false, List, length, Some, None, Option, ◌⊎◌, sym, refl, ap, ◌∙◌, subst, inl, inr, arith}
use Rattle.std.proofs.lemmas.Bool.{cases_eq}
use Rattle.canonical.specs.Meanings.{Meaning}
use Rattle.canonical.specs.Order.{Member}
use Rattle.hash_modulo.specs.Sets.{Bytes, Files, Means, Row, Names, Ready}
use Rattle.hash_modulo.proofs.Choosing.{all?, readable?, ready?}
use Rattle.hash_modulo.proofs.Hashes.{one_meaning}
use Rattle.store_path.proofs.Deciding.{Known, both, like, no_longer, at_most, same_text}
use Rattle.checker.specs.Calls.{HasHash, HasOutput}
use Rattle.checker.specs.Views.{View, Open, files, path_at, Exists, NumberOf, PendingAt, TakenAt, HashedAt, UnhashedAt, ReadyFile, early, spoilt, supplied}
use Rattle.checker.specs.declared.state.Hashes.{Hashes}
use Rattle.checker.specs.declared.state.Settlement.{Settlement}
use Rattle.checker.specs.declared.state.State.{State}
use Rattle.checker.specs.declared.state.State.TheVariants.{Pending, Taken, Settled}
use Rattle.checker.proofs.Keeping.{clash, not_settled, taken_settled, not_taken, same_settlement, no_hash}

-- ---- numbers

-- the lowest number with a property, or none below n has it
abbrev Lowest : (ℕ → Type 0) → ℕ → Type 0
Lowest P n = ((k : ℕ) × P k × ((j : ℕ) → j < k → P j → ⊥)) ⊎ ((k : ℕ) → k < n → P k → ⊥)

lowest? : (P : ℕ → Type 0) → ((k : ℕ) → Known (P k)) → (n : ℕ) → Lowest P n
lowest? P known zero = inr (λ k l p. omega arith)
lowest? P known (suc n) = elim (lowest? P known n) [
  | inl z ↦ inl z
  | inr none ↦ elim (known n) [
    | inl p ↦ inl (n, p, none)
    | inr not ↦ inr (λ k l p. elim (cases_eq k n) [ inl e ↦ not (subst P e p) | inr ne ↦ none k (omega arith) p ])
  ]
]

-- of the files of a view
abbrev pub LowestFile : (ℕ → Type 0) → Type 0
LowestFile P = ((k : ℕ) × P k × ((j : ℕ) → j < k → P j → ⊥)) ⊎ ((k : ℕ) → P k → ⊥)

pub lowest_file? : (v : View) (P : ℕ → Type 0) → ((k : ℕ) → Known (P k)) → ((k : ℕ) → P k → Exists v k) → LowestFile P
lowest_file? v P known exists = elim (lowest? P known (suc v.count)) [
  | inl z ↦ inl z
  | inr none ↦ inr (λ k p. (let l = (exists k p).1 in none k (omega arith) p))
]

-- ---- files and states

pub open? : (v : View) → Known (Open v)
open? v = way v.opened
  where
    way : (b : Bool) → Known (b ≡ true)
    way true = inl refl
    way false = inr (λ e. clash (cc))

pub exists? : (v : View) (k : ℕ) → Known (Exists v k)
exists? v k = both (at_most 1 k) (at_most k v.count)

pending? : (x : State) → Known (x ≡ Pending)
pending? Pending = inl refl
pending? Taken = inr (λ e. not_taken Taken e refl)
pending? (Settled s) = inr (λ e. not_settled (Settled s) s e refl)

taken? : (x : State) → Known (x ≡ Taken)
taken? Pending = inr (λ e. not_taken Pending refl e)
taken? Taken = inl refl
taken? (Settled s) = inr (λ e. taken_settled (Settled s) s e refl)

pub pending_at? : (v : View) (k : ℕ) → Known (PendingAt v k)
pending_at? v k = like (λ p. record { exists = p.0; is = p.1 }) (λ t. (t.exists, t.is)) (both (exists? v k) (pending? (v.row k)))

pub taken_at? : (v : View) (k : ℕ) → Known (TakenAt v k)
taken_at? v k = like (λ p. record { exists = p.0; is = p.1 }) (λ t. (t.exists, t.is)) (both (exists? v k) (taken? (v.row k)))

-- a file is settled with hashes, settled without, or not settled
data Standing (v : View) (k : ℕ) : Type 0 where
  with_hashes : (h : Hashes) → HashedAt v k h → Standing v k
  without_hashes : UnhashedAt v k → Standing v k
  unsettled : ((s : Settlement) → v.row k ≡ Settled s → ⊥) → Standing v k

standing : (v : View) (k : ℕ) → Exists v k → Standing v k
standing v k x = way (v.row k) refl
  where
    hashes : (s : Settlement) → v.row k ≡ Settled s → (o : Option Hashes) → s.hashes ≡ o → Standing v k
    hashes s e None n = without_hashes (record { exists = x; settlement = s; settled = e; is = n })
    hashes s e (Some h) n = with_hashes h (record { exists = x; settlement = s; settled = e; is = n })

    way : (x : State) → v.row k ≡ x → Standing v k
    way Pending e = unsettled (λ s f. not_settled (v.row k) s e f)
    way Taken e = unsettled (λ s f. taken_settled (v.row k) s e f)
    way (Settled s) e = hashes s e s.hashes refl

apart : (v : View) (k : ℕ) (h : Hashes) → HashedAt v k h → UnhashedAt v k → ⊥
apart v k h a u =
    let same : a.settlement ≡ u.settlement = same_settlement (v.row k) a.settlement u.settlement a.settled u.settled in
    no_hash u.settlement.hashes h u.is (ap (λ (s : Settlement). s.hashes) (sym same) ∙ a.is)

unhashed? : (v : View) (k : ℕ) → Known (UnhashedAt v k)
unhashed? v k = elim (exists? v k) [ inr n ↦ inr (λ u. n u.exists) | inl x ↦ way (standing v k x) ]
  where
    way : Standing v k → Known (UnhashedAt v k)
    way (with_hashes h a) = inr (λ u. apart v k h a u)
    way (without_hashes u) = inl u
    way (unsettled n) = inr (λ u. n u.settlement u.settled)

pub has_hash? : (v : View) (k : ℕ) → Known (HasHash v k)
has_hash? v k = elim (exists? v k) [ inr n ↦ inr (λ z. n z.1.exists) | inl x ↦ way (standing v k x) ]
  where
    way : Standing v k → Known (HasHash v k)
    way (with_hashes h a) = inl (h, a)
    way (without_hashes u) = inr (λ z. apart v k z.0 z.1 u)
    way (unsettled n) = inr (λ z. n z.1.settlement z.1.settled)

pub has_output? : (v : View) (k j : ℕ) → Known (HasOutput v k j)
has_output? v k j = elim (readable? (files v) (path_at v k)) [
  | inr n ↦ inr (λ z. n (z.0, z.1))
  | inl z ↦ elim (at_most j (length z.0.0)) [
    | inl l ↦ inl (z.0, z.1, l)
    | inr n ↦ inr (λ w. n (subst (λ (m : Meaning). j ≤ length m.0) (one_meaning (files v) (path_at v k) w.0 z.0 w.1 z.1) w.2))
  ]
]

-- ---- ready files

number? : (v : View) (p : Bytes) (k : ℕ) → Known (NumberOf v p k)
number? v p k = like (λ z. record { exists = z.0; is = z.1 }) (λ n. (n.exists, n.is)) (both (exists? v k) (same_text (path_at v k) p))

-- the row's file is settled without a hash
abbrev Spoils : View → Row → Type 0
Spoils v r = (j : ℕ) × NumberOf v r.0 j × UnhashedAt v j

spoils? : (v : View) (r : Row) → Known (Spoils v r)
spoils? v r =
    elim (lowest_file? v (λ (j : ℕ). NumberOf v r.0 j × UnhashedAt v j) (λ j. both (number? v r.0 j) (unhashed? v j)) (λ j z. z.0.exists)) [
      | inl z ↦ inl (z.0, z.1.0, z.1.1)
      | inr none ↦ inr (λ z. none z.0 (z.1, z.2))
    ]

-- the row's file is settled with one
abbrev Supplies : View → Row → Type 0
Supplies v r = (j : ℕ) × (h : Hashes) × NumberOf v r.0 j × HashedAt v j h

supplies? : (v : View) (r : Row) → Known (Supplies v r)
supplies? v r =
    elim (lowest_file? v (λ (j : ℕ). NumberOf v r.0 j × HasHash v j) (λ j. both (number? v r.0 j) (has_hash? v j)) (λ j z. z.0.exists)) [
      | inl z ↦ inl (z.0, z.1.1.0, z.1.0, z.1.1.1)
      | inr none ↦ inr (λ z. none z.0 (z.2, (z.1, z.3)))
    ]

some_spoils? : (v : View) (rows : List Row) → ((r : Row) × Member r rows × Spoils v r) ⊎ ((r : Row) → Member r rows → Spoils v r → ⊥)
some_spoils? v rows = elim (all? (λ (r : Row). Spoils v r → ⊥) rows (λ r i. no_longer (spoils? v r))) [
  | inl none ↦ inr none
  | inr z ↦ elim (spoils? v z.0) [ inl s ↦ inl (z.0, z.1, s) | inr n ↦ absurd (z.2 n) ]
]

pub ready_file? : (v : View) (k : ℕ) → Known (ReadyFile v k)
ready_file? v k = elim (readable? set p) [
  | inr n ↦ inl (early (λ m e y. n (m, e)))
  | inl z ↦ elim (ready? set z.0) [
    | inr n ↦ inl (early (λ m e y. n (subst (Ready set) (one_meaning set p m z.0 e z.1) y)))
    | inl y ↦ elim (some_spoils? v z.0.1.0) [
      | inl s ↦ inl (spoilt z.0 z.1 s.0 s.1 s.2.0 s.2.1 s.2.2)
      | inr none ↦ elim (all? (Supplies v) z.0.1.0 (λ r i. supplies? v r)) [
        | inl all ↦ inl (supplied z.0 z.1 all)
        | inr s ↦ inr (unready z.0 z.1 y none s.0 s.1 s.2)
      ]
    ]
  ]
]
  where
    set : Files
    set = files v

    p : Bytes
    p = path_at v k

    unready : (m : Meaning) → Means set p m → Ready set m → ((r : Row) → Names m r → Spoils v r → ⊥) → (r : Row) → Names m r → (Supplies v r → ⊥) → ReadyFile v k → ⊥
    unready m e y none r o not (early f) = f m e y
    unready m e y none r o not (spoilt n f q i j a u) = none q (subst (λ (x : Meaning). Names x q) (one_meaning set p n m f e) i) (j, a, u)
    unready m e y none r o not (supplied n f all) = not (all r (subst (λ (x : Meaning). Names x r) (one_meaning set p m n e f) o))
