-- Every call that changes a view leaves it sound, and in a sound view with no ready file no waiting file has a hash.
use Rattle.std.proofs.Common.{◌≡◌, ℕ, ◌-◌, ◌<◌, ◌⊎◌, Some, None, Ok, Err, Option, Result, sym, refl, ap, ◌∙◌, subst, inl, inr, arith}
use Rattle.std.proofs.lemmas.Bool.{cases_eq}
use Rattle.canonical.specs.Meanings.{Meaning}
use Rattle.hash_modulo.specs.Hashes.{Hashed}
use Rattle.hash_modulo.specs.Sets.{Bytes, Files, Present, Means, Row, Names, Ready, Hashable, hashable}
use Rattle.hash_modulo.proofs.Founding.{hashable_ready}
use Rattle.hash_modulo.proofs.Hashes.{one_meaning, is_hashable, inputs_hashable}
use Rattle.image.specs.Opening.{Opens}
use Rattle.links.proofs.Files.{set_only}
use Rattle.sink.specs.Write as sinks
use Rattle.checker.specs.Calls.{Kind, D, MaskedHash, NoneTaken, Chosen, first_ready, first_pending, Takes, Outcome, with_hash, without, Decides, Settles, PutsBack}
use Rattle.checker.specs.Seen.{view_none}
use Rattle.checker.specs.Soundness.{RowRight, WaitingAt, NoneReady, InputsHashedAt, SoundView}
use Rattle.checker.specs.Views.{View, fresh, files, path_at, Exists, NumberOf, PendingAt, TakenAt, HashedAt, UnhashedAt, ReadyFile, early, spoilt, supplied, Changes}
use Rattle.checker.specs.declared.refused.CallRefusal.{CallRefusal}
use Rattle.checker.specs.declared.state.Hashes.{Hashes}
use Rattle.checker.specs.declared.state.Settlement.{Settlement}
use Rattle.checker.specs.declared.state.State.{State}
use Rattle.checker.specs.declared.state.State.TheVariants.{Pending, Taken, Settled}

-- ---- states

pub clash : ◌≡◌ {A = ℕ} 0 1 → ⊥
clash e = omega arith

pub not_settled : (x : State) (s : Settlement) → x ≡ Pending → x ≡ Settled s → ⊥
not_settled x s a b = clash (cc)

pub taken_settled : (x : State) (s : Settlement) → x ≡ Taken → x ≡ Settled s → ⊥
taken_settled x s a b = clash (cc)

pub not_taken : (x : State) → x ≡ Pending → x ≡ Taken → ⊥
not_taken x a b = clash (cc)

pub same_settlement : (x : State) (s t : Settlement) → x ≡ Settled s → x ≡ Settled t → s ≡ t
same_settlement x s t a b = cc

pub no_hash : (o : Option Hashes) (h : Hashes) → o ≡ None → o ≡ Some h → ⊥
no_hash o h a b = clash (cc)

same_hashes : (o : Option Hashes) (h k : Hashes) → o ≡ Some h → o ≡ Some k → h ≡ k
same_hashes o h k a b = cc

-- ---- views

-- the view with other states
abbrev pub with_rows : View → (ℕ → State) → View
with_rows v row = record { opened = v.opened; image = v.image; count = v.count; row = row }

pub same_view : {v w : View} {k : ℕ} {s : State} → Changes v k s w → with_rows v w.row ≡ w
same_view {v} {w} c = λ i. record { opened = sym c.opened i; image = sym c.image i; count = sym c.count i; row = w.row }

-- an input that is settled with a hash is so where all that was settled stays
stays_supplied : (v : View) (row : ℕ → State) → ((j : ℕ) (s : Settlement) → v.row j ≡ Settled s → row j ≡ Settled s) → (r : Row)
    → (j : ℕ) × (h : Hashes) × NumberOf v r.0 j × HashedAt v j h → (j : ℕ) × (h : Hashes) × NumberOf (with_rows v row) r.0 j × HashedAt (with_rows v row) j h
stays_supplied v row f r (j, h, a, u) = (
  j,
  h,
  record { exists = a.exists; is = a.is },
  record { exists = u.exists; settlement = u.settlement; settled = f j u.settlement u.settled; is = u.is },
)

-- a ready file stays ready where all that was settled stays
stays_ready : (v : View) (row : ℕ → State) → ((j : ℕ) (s : Settlement) → v.row j ≡ Settled s → row j ≡ Settled s) → (k : ℕ) → ReadyFile v k → ReadyFile (with_rows v row) k
stays_ready v row f k (early n) = early n
stays_ready v row f k (spoilt m e r o j a u) =
    spoilt m e r o j (record { exists = a.exists; is = a.is })
    (record { exists = u.exists; settlement = u.settlement; settled = f j u.settlement u.settled; is = u.is })
stays_ready v row f k (supplied m e all) = supplied m e (λ r o. stays_supplied v row f r (all r o))

-- ---- files without a hash

pub settled_without : (kind : Kind) (v : View) → SoundView kind v → (j : ℕ) → UnhashedAt v j → Hashable (files v) (path_at v j) → ⊥
settled_without kind v sound j u = (sound.right j u.settlement u.exists u.settled).without u.is

-- an input that has a hash and does not wait is settled with one
settled_with : (kind : Kind) (v : View) → SoundView kind v → (p : Bytes) → Hashable (files v) p → ((k : ℕ) → WaitingAt v k → path_at v k ≡ p → ⊥)
    → (j : ℕ) × NumberOf v p j → (j : ℕ) × (h : Hashes) × NumberOf v p j × HashedAt v j h
settled_with kind v sound p y idle (j, a) = way (v.row j) refl
  where
    hashes : (s : Settlement) → v.row j ≡ Settled s → (o : Option Hashes) → s.hashes ≡ o → (j : ℕ) × (h : Hashes) × NumberOf v p j × HashedAt v j h
    hashes s e None n =
        absurd (settled_without kind v sound j (record { exists = a.exists; settlement = s; settled = e; is = n }) (subst (Hashable (files v)) (sym a.is) y))
    hashes s e (Some h) n = (j, h, a, record { exists = a.exists; settlement = s; settled = e; is = n })

    way : (x : State) → v.row j ≡ x → (j : ℕ) × (h : Hashes) × NumberOf v p j × HashedAt v j h
    way Pending e = absurd (idle j (inl (record { exists = a.exists; is = e })) a.is)
    way Taken e = absurd (idle j (inr (record { exists = a.exists; is = e })) a.is)
    way (Settled s) e = hashes s e s.hashes refl

-- a file that is present has a number
pub number_of : (v : View) (p : Bytes) → Present (files v) p → (j : ℕ) × NumberOf v p j
number_of v p z = let f = set_only v.image v.count p z.0 z.1 in (f.number, record { exists = (f.from, f.to); is = f.path })

stuck_at : (kind : Kind) (v : View) → SoundView kind v → NoneReady v → {p : Bytes} → Hashable (files v) p → (k : ℕ) → WaitingAt v k → path_at v k ≡ p → ⊥
stuck_at kind v sound none (hashable m e y i) k a same =
    none k a (supplied m (subst (λ (q : Bytes). Means (files v) q m) (sym same) e)
    (λ r o. settled_with kind v sound r.0 (i r o) (stuck_at kind v sound none (i r o)) (number_of v r.0 (y.present r o))))

pub stuck : (kind : Kind) (v : View) → SoundView kind v → NoneReady v → (k : ℕ) → WaitingAt v k → Hashable (files v) (path_at v k) → ⊥
stuck kind v sound none k a y = stuck_at kind v sound none y k a refl

-- ---- the inputs of a file with a hash

-- a taken file that can have a hash has its inputs settled with hashes: it is ready, since else no waiting file can have one
taken_inputs : (kind : Kind) (v : View) → SoundView kind v → (k : ℕ) → TakenAt v k → Hashable (files v) (path_at v k) → InputsHashedAt v k
taken_inputs kind v sound k taken y m e r o = elim (sound.held k taken) [
  | inl ready ↦ supplies ready
  | inr none ↦ absurd (stuck kind v sound none k (inr taken) y)
]
  where
    supplies : ReadyFile v k → (j : ℕ) × (h : Hashes) × NumberOf v r.0 j × HashedAt v j h
    supplies (early f) = absurd (f m e (hashable_ready y m e))
    supplies (spoilt n f s u j a x) = absurd (settled_without kind v sound j x (subst (Hashable (files v)) (sym a.is) (inputs_hashable y n f s u)))
    supplies (supplied n f all) = all r (subst (λ (x : Meaning). Names x r) (one_meaning (files v) (path_at v k) m n e f) o)

-- the file k was not settled, and if it is settled with a hash now, its inputs are
changed_inputs : (kind : Kind) (v : View) (row : ℕ → State) (k : ℕ) → ((s : Settlement) → v.row k ≡ Settled s → ⊥) → ((j : ℕ) → (j ≡ k → ⊥) → row j ≡ v.row j)
    → ((s : Settlement) (h : Hashes) → row k ≡ Settled s → s.hashes ≡ Some h → InputsHashedAt v k) → SoundView kind v
    → (j : ℕ) (h : Hashes) → HashedAt (with_rows v row) j h → InputsHashedAt (with_rows v row) j
changed_inputs kind v row k not others new sound j h a m e r o = stays_supplied v row stays r (inputs (cases_eq j k) m e r o)
  where
    inputs : (j ≡ k) ⊎ (j ≡ k → ⊥) → InputsHashedAt v j
    inputs (inl same) = subst (InputsHashedAt v) (sym same) (new a.settlement h (ap row (sym same) ∙ a.settled) a.is)
    inputs (inr n) = sound.inputs j h (record { exists = a.exists; settlement = a.settlement; settled = sym (others j n) ∙ a.settled; is = a.is })

    stays : (i : ℕ) (s : Settlement) → v.row i ≡ Settled s → row i ≡ Settled s
    stays i s e = others i (λ same. not s (ap v.row (sym same) ∙ e)) ∙ e

-- ---- open

no_file : (k : ℕ) → Exists view_none k → ⊥
no_file k x = omega (arith, x.0, x.1)

-- where nothing is opened there is no file
pub none_sound : (kind : Kind) (v : View) → v ≡ view_none → SoundView kind v
none_sound kind v e = subst (SoundView kind) (sym e) (record {
  right = λ k s x q. absurd (no_file k x);
  one = λ j k a b. absurd (no_file j a.exists);
  held = λ k a. absurd (no_file k a.exists);
  inputs = λ k h a. absurd (no_file k a.exists);
})

pub fresh_sound : (kind : Kind) (img : Bytes) (n : ℕ) → SoundView kind (fresh img n)
fresh_sound kind img n = record {
  right = λ k s x e. absurd (not_settled Pending s refl e);
  one = λ j k a b. absurd (not_taken Pending refl a.is);
  held = λ k a. absurd (not_taken Pending refl a.is);
  inputs = λ k h a. absurd (not_settled Pending a.settlement refl a.settled);
}

-- ---- take

-- what is handed out was pending
pub is_pending : (v : View) (k : ℕ) → Chosen v k → PendingAt v k
is_pending v k (first_ready p r n) = p
is_pending v k (first_pending p n m) = p

taken_sound : (kind : Kind) (v : View) (row : ℕ → State) (k : ℕ) → NoneTaken v → Chosen v k → row k ≡ Taken → ((j : ℕ) → (j ≡ k → ⊥) → row j ≡ v.row j)
    → SoundView kind v → SoundView kind (with_rows v row)
taken_sound kind v row k none chosen here others sound = record {
  right = λ j s x e. sound.right j s x (before j s e);
  one = λ i j a b. only i a ∙ sym (only j b);
  held = λ j a. subst (λ (i : ℕ). ReadyFile (with_rows v row) i ⊎ NoneReady (with_rows v row)) (sym (only j a)) (holds chosen);
  inputs = changed_inputs kind v row k (λ s. not_settled (v.row k) s pending.is) others (λ s h e f. absurd (taken_settled (row k) s here e)) sound;
}
  where
    before : (j : ℕ) (s : Settlement) → row j ≡ Settled s → v.row j ≡ Settled s
    before j s e = sym (others j (λ same. taken_settled (row j) s (ap row same ∙ here) e)) ∙ e

    pending : PendingAt v k
    pending = is_pending v k chosen

    after : (j : ℕ) (s : Settlement) → v.row j ≡ Settled s → row j ≡ Settled s
    after j s e = others j (λ same. not_settled (v.row j) s (ap v.row same ∙ pending.is) e) ∙ e

    only : (j : ℕ) → TakenAt (with_rows v row) j → j ≡ k
    only j a = elim (cases_eq j k) [ inl e ↦ e | inr n ↦ absurd (none j (record { exists = a.exists; is = sym (others j n) ∙ a.is })) ]

    unready : ((j : ℕ) → PendingAt v j → ReadyFile v j → ⊥) → (j : ℕ) → WaitingAt (with_rows v row) j → ReadyFile v j → ⊥
    unready n j (inl p) r = n j (record { exists = p.exists; is = sym (others j (λ same. not_taken (row j) p.is (ap row same ∙ here))) ∙ p.is }) r
    unready n j (inr t) r = n k pending (subst (ReadyFile v) (only j t) r)

    holds : Chosen v k → ReadyFile (with_rows v row) k ⊎ NoneReady (with_rows v row)
    holds (first_ready p r n) = inl (stays_ready v row after k r)
    holds (first_pending p n m) = inr (λ j a r. unready n j a (stays_ready (with_rows v row) v.row before j r))

pub take_keeps : (kind : Kind) (v w : View) (r : Result ℕ CallRefusal) → Takes v r w → SoundView kind v → SoundView kind w
take_keeps kind v w (Ok k) (o, none, chosen, c) sound = subst (SoundView kind) (same_view c) (taken_sound kind v w.row k none chosen c.here c.others sound)
take_keeps kind v w (Err e) (q, same) sound = subst (SoundView kind) (sym same) sound

-- ---- settle and put back

-- the taken file is in another state
left_sound : (kind : Kind) (v : View) (row : ℕ → State) (k : ℕ) → TakenAt v k → (row k ≡ Taken → ⊥) → ((j : ℕ) → (j ≡ k → ⊥) → row j ≡ v.row j)
    → ((s : Settlement) → row k ≡ Settled s → RowRight kind (files v) (path_at v k) s)
    → ((s : Settlement) (h : Hashes) → row k ≡ Settled s → s.hashes ≡ Some h → InputsHashedAt v k) → SoundView kind v → SoundView kind (with_rows v row)
left_sound kind v row k taken left others right new sound = record {
  right = λ j s x e. elim (cases_eq j k) [
    | inl same ↦ subst (λ (i : ℕ). RowRight kind (files v) (path_at v i) s) (sym same) (right s (ap row (sym same) ∙ e))
    | inr n ↦ sound.right j s x (sym (others j n) ∙ e)
  ];
  one = λ i j a b. absurd (none i a);
  held = λ j a. absurd (none j a);
  inputs = changed_inputs kind v row k (λ s. taken_settled (v.row k) s taken.is) others new sound;
}
  where
    none : (j : ℕ) → TakenAt (with_rows v row) j → ⊥
    none j a = elim (cases_eq j k) [
      | inl same ↦ left (ap row (sym same) ∙ a.is)
      | inr n ↦ n (sound.one j k (record { exists = a.exists; is = sym (others j n) ∙ a.is }) taken)
    ]

row_right : (kind : Kind) (set : Files) (p : Bytes) (s : Settlement) (before after : sinks.Meaning) (n : ℕ) → Decides kind set p s before n after → RowRight kind set p s
row_right kind set p s before after n d = way d.outcome
  where
    way : Outcome kind set p before n after s.hashes → RowRight kind set p s
    way (with_hash h ss e x m g c l) = record {
      verdict = d.verdict;
      hash = λ k f. subst (λ (a : Hashes). Hashed set (D kind) p a.hash.bytes) (same_hashes s.hashes h k e f) x;
      masked = λ k f. subst (λ (a : Hashes). MaskedHash set (D kind) p a.masked) (same_hashes s.hashes h k e f) m;
      without = λ f. absurd (no_hash s.hashes h f e);
    }
    way (without e none c l) = record {
      verdict = d.verdict;
      hash = λ k f. absurd (no_hash s.hashes k e f);
      masked = λ k f. absurd (no_hash s.hashes k e f);
      without = λ f. none;
    }

outcome_hashable : (kind : Kind) (set : Files) (p : Bytes) (before after : sinks.Meaning) (n : ℕ) (o : Option Hashes) (h : Hashes) → Outcome kind set p before n after o → o ≡ Some h → Hashable set p
outcome_hashable kind set p before after n o h (with_hash g ss e x m c i l) f = is_hashable set (D kind) x
outcome_hashable kind set p before after n o h (without e none c l) f = absurd (no_hash o h e f)

pub settle_keeps : (kind : Kind) (v w : View) (k : ℕ) (before after : sinks.Meaning) (r : Result ℕ CallRefusal) → Settles kind v k before r w after
    → SoundView kind v → SoundView kind w
settle_keeps kind v w k before after (Ok n) (s, o, taken, c, d) sound =
    subst (SoundView kind) (same_view c)
    (left_sound kind v w.row k taken (λ e. taken_settled (w.row k) s e c.here) c.others
    (λ t e. subst (RowRight kind (files v) (path_at v k)) (same_settlement (w.row k) s t c.here e) (row_right kind (files v) (path_at v k) s before after n d))
    (λ t h e f. taken_inputs kind v sound k taken
    (outcome_hashable kind (files v) (path_at v k) before after n s.hashes h d.outcome (ap (λ (x : Settlement). x.hashes) (same_settlement (w.row k) s t c.here e) ∙ f)))
    sound)
settle_keeps kind v w k before after (Err e) (q, same, kept) sound = subst (SoundView kind) (sym same) sound

pub back_keeps : {T : Type 0} (kind : Kind) (v w : View) (k : ℕ) (r : Result T CallRefusal) → PutsBack v k r w → SoundView kind v → SoundView kind w
back_keeps kind v w k (Ok x) (o, taken, c) sound =
    subst (SoundView kind) (same_view c)
    (left_sound kind v w.row k taken (not_taken (w.row k) c.here) c.others (λ s e. absurd (not_settled (w.row k) s c.here e)) (λ s h e f. absurd (not_settled (w.row k) s c.here e)) sound)
back_keeps kind v w k (Err e) (q, same) sound = subst (SoundView kind) (sym same) sound

-- ---- waiting inputs

not_waiting : (v : View) (j : ℕ) (h : Hashes) → WaitingAt v j → HashedAt v j h → ⊥
not_waiting v j h (inl p) u = not_settled (v.row j) u.settlement p.is u.settled
not_waiting v j h (inr t) u = taken_settled (v.row j) u.settlement t.is u.settled

-- no two files of an image that opens have one path
pub one_number : (v : View) → Opens v.image v.count → (p : Bytes) (i j : ℕ) → NumberOf v p i → NumberOf v p j → i ≡ j
one_number v o p i j a b =
    let x = a.exists in
    let y = b.exists in
    let f : i < j → ⊥ = λ l. o.different (j - 1) (omega arith) (i - 1) (omega arith) (a.is ∙ sym b.is) in
    let g : j < i → ⊥ = λ l. o.different (i - 1) (omega arith) (j - 1) (omega arith) (b.is ∙ sym a.is) in
    omega arith

-- a taken file that passes the questions up to 19, with a waiting input and none that is settled without a hash, is not ready: no waiting file is
pub unhashed_input : (kind : Kind) (v : View) → SoundView kind v
    → (once : (p : Bytes) (i j : ℕ) → NumberOf v p i → NumberOf v p j → i ≡ j)
    → (k : ℕ) → TakenAt v k → (m : Meaning) → Means (files v) (path_at v k) m → Ready (files v) m
    → (j : ℕ) → WaitingAt v j → ((r : Row) × Names m r × NumberOf v r.0 j) → ((i : ℕ) → UnhashedAt v i → ((r : Row) × Names m r × NumberOf v r.0 i) → ⊥)
    → Hashable (files v) (path_at v j) → ⊥
unhashed_input kind v sound once k taken m e y j a (r, o, n) hashed_all h = elim (sound.held k taken) [
  | inl ready ↦ unready ready
  | inr none ↦ stuck kind v sound none j a h
]
  where
    unready : ReadyFile v k → ⊥
    unready (early f) = f m e y
    unready (spoilt n₁ e₁ r₁ o₁ i a₁ u) =
        hashed_all i u (r₁, subst (λ (x : Meaning). Names x r₁) (one_meaning (files v) (path_at v k) n₁ m e₁ e) o₁, a₁)
    unready (supplied n₁ e₁ all) =
        let z = all r (subst (λ (x : Meaning). Names x r) (one_meaning (files v) (path_at v k) m n₁ e e₁) o) in
        not_waiting v j z.1 a (subst (λ (i : ℕ). HashedAt v i z.1) (once r.0 z.0 j z.2 n) z.3)
