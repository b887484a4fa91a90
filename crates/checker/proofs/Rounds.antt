-- Rounds, each a take and a settle of the file that was taken: as many of them as there are files settle every file.
use Rattle.std.proofs.Common.{◌≡◌, ℕ, zero, suc, ◌+◌, ◌-◌, ◌≤◌, Ok, Err, Result, sym, refl, ap, ◌∙◌, subst, inl, inr, arith}
use Rattle.std.proofs.lemmas.Bool.{cases_eq}
use Rattle.sink.specs.Write as sinks
use Rattle.checker.specs.Calls.{Kind, NoneTaken, TakeRefused, Takes, VisitRefused, Settles}
use Rattle.checker.specs.Views.{View, Open, Exists, PendingAt, TakenAt, Changes}
use Rattle.checker.specs.declared.refused.CallRefusal.{CallRefusal}
use Rattle.checker.specs.declared.state.State.{State}
use Rattle.checker.specs.declared.state.State.TheVariants.{Pending, Taken, Settled}
use Rattle.checker.proofs.Keeping.{is_pending, taken_settled}
use Rattle.checker.proofs.Running.{SettledAt}

-- ---- how many files are not settled

-- 1 for a file that is not settled, 0 for one that is
abbrev one_left : State → ℕ
one_left Pending = 1
one_left Taken = 1
one_left (Settled s) = 0

-- how many of the first n files are not settled
abbrev pub left : (ℕ → State) → ℕ → ℕ
left row zero = 0
left row (suc n) = left row n + one_left (row (suc n))

one_at_most : (x : State) → one_left x ≤ 1
one_at_most Pending = omega arith
one_at_most Taken = omega arith
one_at_most (Settled s) = omega arith

pub left_few : (row : ℕ → State) (n : ℕ) → left row n ≤ n
left_few row zero = omega arith
left_few row (suc n) = omega (arith, left_few row n, one_at_most (row (suc n)))

left_same : (row other : ℕ → State) (n : ℕ) → ((k : ℕ) → 1 ≤ k → k ≤ n → other k ≡ row k) → left other n ≡ left row n
left_same row other zero same = refl
left_same row other (suc n) same =
    let here : other (suc n) ≡ row (suc n) = same (suc n) (omega arith) (omega arith) in
    omega (arith, left_same row other n (λ k low high. same k low (omega arith)), ap one_left here)

-- the file k is settled, and the others stay
left_fewer : (row other : ℕ → State) (n k : ℕ) → 1 ≤ k → k ≤ n → one_left (row k) ≡ 1 → one_left (other k) ≡ 0 → ((j : ℕ) → (j ≡ k → ⊥) → other j ≡ row j) → suc (left other n) ≡ left row n
left_fewer row other zero k low high was is others = absurd (let f : 1 ≤ 0 = omega arith in omega arith)
left_fewer row other (suc n) k low high was is others = elim (cases_eq (suc n) k) [
  | inl e ↦
      let below = left_same row other n (λ j from to. others j (λ f. omega arith)) in
      omega (arith, below, was, is, ap (λ j. one_left (row j)) e, ap (λ j. one_left (other j)) e)
  | inr other_one ↦
      let below = left_fewer row other n k low (omega arith) was is others in
      omega (arith, below, ap one_left (others (suc n) other_one))
]

-- where all are settled none is left, and where none is left all are settled
left_none : (row : ℕ → State) (n : ℕ) → ((k : ℕ) → 1 ≤ k → k ≤ n → one_left (row k) ≡ 0) → left row n ≡ 0
left_none row zero all = refl
left_none row (suc n) all = omega (arith, left_none row n (λ k low high. all k low (omega arith)), all (suc n) (omega arith) (omega arith))

none_left : (row : ℕ → State) (n : ℕ) → left row n ≡ 0 → (k : ℕ) → 1 ≤ k → k ≤ n → one_left (row k) ≡ 0
none_left row zero none k low high = absurd (let f : 1 ≤ 0 = omega arith in omega arith)
none_left row (suc n) none k low high = elim (cases_eq (suc n) k) [
  | inl e ↦ omega (arith, none, ap (λ j. one_left (row j)) e)
  | inr other ↦ none_left row n (omega (arith, none)) k low (omega arith)
]

is_settled : (v : View) (k : ℕ) (x : State) → v.row k ≡ x → one_left x ≡ 0 → SettledAt v k
is_settled v k Pending e none = absurd (omega arith)
is_settled v k Taken e none = absurd (omega arith)
is_settled v k (Settled s) e none = (s, e)

pub all_settled : (v : View) → left v.row v.count ≡ 0 → (k : ℕ) → Exists v k → SettledAt v k
all_settled v none k x = is_settled v k (v.row k) refl (none_left v.row v.count none k x.0 x.1)

-- ---- one round

-- what a round keeps: a set is opened, and no file is taken
pub record Calm (v : View) : Type 0 where
  pub opened : Open v
  pub free : NoneTaken v

-- the files stay, and of those that are not settled there is one less, if there is one
pub record Round (v w : View) : Type 0 where
  pub calm : Calm w
  pub image : w.image ≡ v.image
  pub count : w.count ≡ v.count
  pub fewer : left w.row w.count ≤ left v.row v.count - 1

-- neither pending nor taken
no_more : (v : View) (k : ℕ) → Exists v k → NoneTaken v → (PendingAt v k → ⊥) → (x : State) → v.row k ≡ x → one_left (v.row k) ≡ 0
no_more v k x free none Pending e = absurd (none (record { exists = x; is = e }))
no_more v k x free none Taken e = absurd (free k (record { exists = x; is = e }))
no_more v k x free none (Settled s) e = ap one_left e

-- none is pending
over : (v : View) → Calm v → ((k : ℕ) → PendingAt v k → ⊥) → Round v v
over v a none = record {
  calm = a;
  image = refl;
  count = refl;
  fewer = omega (arith, left_none v.row v.count (λ k low high. no_more v k (low, high) a.free (none k) (v.row k) refl));
}

module _ (kind : Kind) where
  -- a settle where no file is taken is refused
  refused_settle : (v w : View) (k : ℕ) (before after : sinks.Meaning) (r : Result ℕ CallRefusal) → NoneTaken v → Settles kind v k before r w after → w ≡ v
  refused_settle v w k before after (Ok c) free (s, o, taken, ch, d) = absurd (free k taken)
  refused_settle v w k before after (Err e) free (q, same, kept) = same

  -- the file that was taken is settled
  taken_round : (v u w : View) (k : ℕ) (before after : sinks.Meaning) (r : Result ℕ CallRefusal) → Calm v → PendingAt v k → Changes v k Taken u
      → Settles kind u k before r w after → Round v w
  taken_round v u w k before after (Ok c) a pending ch (s, o, taken, now, d) = record {
    calm = record { opened = now.opened ∙ (ch.opened ∙ a.opened); free = free };
    image = now.image ∙ ch.image;
    count = now.count ∙ ch.count;
    fewer = omega (arith, ap (left w.row) (now.count ∙ ch.count), one_fewer);
  }
    where
      others : (j : ℕ) → (j ≡ k → ⊥) → w.row j ≡ v.row j
      others j not = now.others j not ∙ ch.others j not

      one_fewer : suc (left w.row v.count) ≡ left v.row v.count
      one_fewer = left_fewer v.row w.row v.count k pending.exists.0 pending.exists.1 (ap one_left pending.is) (ap one_left now.here) others

      free : NoneTaken w
      free j t = elim (cases_eq j k) [
        | inl e ↦ taken_settled (w.row j) s t.is (ap w.row e ∙ now.here)
        | inr not ↦ a.free j (record { exists = (t.exists.0, subst (λ (m : ℕ). j ≤ m) (now.count ∙ ch.count) t.exists.1); is = sym (others j not) ∙ t.is })
      ]
  taken_round v u w k before after (Err e) a pending ch (q, same, kept) = none q
    where
      open_there : Open u
      open_there = ch.opened ∙ a.opened

      there : TakenAt u k
      there = record { exists = (pending.exists.0, subst (λ (m : ℕ). k ≤ m) (sym ch.count) pending.exists.1); is = ch.here }

      none : VisitRefused u k e → Round v w
      none (inl (not, f)) = absurd (not open_there)
      none (inr (o, inl (not, f))) = absurd (not there)
      none (inr (o, inr (t, done))) = absurd done

  -- a take, and a settle of what it took or, where it is refused, of any file
  pub round : (v u w : View) (r : Result ℕ CallRefusal) (k : ℕ) (before after : sinks.Meaning) (z : Result ℕ CallRefusal) → Calm v → ((j : ℕ) → r ≡ Ok j → k ≡ j)
      → Takes v r u → Settles kind u k before z w after → Round v w
  round v u w (Ok j) k before after z a last (o, free, chosen, ch) settles =
      taken_round v u w j before after z a (is_pending v j chosen) ch (subst (λ (i : ℕ). Settles kind u i before z w after) (last j refl) settles)
  round v u w (Err e) k before after z a last (q, same) settles = none q
    where
      stays : w ≡ v
      stays = refused_settle u w k before after z (subst NoneTaken (sym same) a.free) settles ∙ same

      none : TakeRefused v e → Round v w
      none (inl (not, f)) = absurd (not a.opened)
      none (inr (o, inl (not, f))) = absurd (not a.free)
      none (inr (o, inr (free, inl (not, f)))) = subst (Round v) (sym stays) (over v a (λ j p. not (j, p)))
      none (inr (o, inr (free, inr (some, done)))) = absurd done
