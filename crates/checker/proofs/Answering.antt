-- Every call has an answer: the questions are decided in their order, and where all are answered yes it is done.
use Rattle.std.proofs.Common.{ℕ, ◌≤◌, eqb, cond, List, ◌++◌, length, drop, Ok, Err, Option, Result, refl, inl, inr}
use Rattle.std.proofs.lemmas.Bool.{cond-true, cond-false, eq-eqb, ne_eqb}
use Rattle.canonical.specs.Meanings.{canonical}
use Rattle.hash_modulo.proofs.Choosing.{readable?}
use Rattle.hash_modulo.proofs.Hashes.{is_hashable}
use Rattle.image.specs.Opening.{Opens}
use Rattle.sink.specs.Write as sinks
use Rattle.store_path.proofs.Deciding.{at_most, both}
use Rattle.verdict.specs.Verdicts.{Verdict}
use Rattle.checker.specs.Calls.{Kind, D, Put, first_ready, first_pending, Takes, Settles, PutsBack, Tells, file_line, Lines, summary, Tails, Rewrites, Paths, Circles}
use Rattle.checker.specs.Theorem.{HashesHold, SoundHashesHold, EveryCallAnswers}
use Rattle.checker.specs.Views.{View, files, path_at, PendingAt, TakenAt, ReadyFile, Changes, told}
use Rattle.checker.specs.declared.refused.CallRefusal.{CallRefusal}
use Rattle.checker.specs.declared.refused.CallRefusal.TheVariants.{NotOpened, VisitOut, NonePending, NotTaken, NoFile, NoHash, NoOutput, NotRead, Short}
use Rattle.checker.specs.declared.state.State.{State}
use Rattle.checker.specs.declared.state.State.TheVariants.{Pending, Taken, Settled}
use Rattle.checker.proofs.Circling.{on_cycle}
use Rattle.checker.proofs.Deciding.{open?, exists?, pending_at?, taken_at?, has_hash?, has_output?, ready_file?, lowest_file?}
use Rattle.checker.proofs.Locating.{digest_wide, settle_decides, located, path_held}

-- the view with one file in another state
abbrev changed : View → ℕ → State → View
changed v k s = record { opened = v.opened; image = v.image; count = v.count; row = λ j. cond (eqb j k) s (v.row j) }

changes : (v : View) (k : ℕ) (s : State) → Changes v k s (changed v k s)
changes v k s = record {
  opened = refl;
  image = refl;
  count = refl;
  here = cond-true (eqb k k) s (v.row k) (eq-eqb k k refl);
  others = λ j n. cond-false (eqb j k) s (v.row j) (ne_eqb j k n);
}

puts : (bs out : List ℕ) → length bs ≤ length out → Put bs out (length bs) (bs ++ drop (length bs) out)
puts bs out l = record { fits = l; count = refl; is = refl }

module _ (v : View) where
  -- ---- take

  abbrev PendingReady : ℕ → Type 0
  PendingReady k = PendingAt v k × ReadyFile v k

  takes : (r : Result ℕ CallRefusal) × (w : View) × Takes v r w
  takes = elim (open? v) [
    | inr n ↦ (Err NotOpened, v, (inl (n, refl), refl))
    | inl o ↦ elim (lowest_file? v (TakenAt v) (taken_at? v) (λ k t. t.exists)) [
      | inl z ↦ (Err VisitOut, v, (inr (o, inl ((λ none. none z.0 z.1), refl)), refl))
      | inr none ↦ elim (lowest_file? v PendingReady (λ k. both (pending_at? v k) (ready_file? v k)) (λ k z. z.0.exists)) [
        | inl z ↦ (Ok z.0, changed v z.0 Taken, (o, none, first_ready z.1.0 z.1.1 (λ j l p r. z.2 j l (p, r)), changes v z.0 Taken))
        | inr unready ↦ elim (lowest_file? v (PendingAt v) (pending_at? v) (λ k p. p.exists)) [
          | inl z ↦ (Ok z.0, changed v z.0 Taken, (o, none, first_pending z.1 (λ j p r. unready j (p, r)) z.2, changes v z.0 Taken))
          | inr idle ↦ (Err NonePending, v, (inr (o, inr (none, inl ((λ z. idle z.0 z.1), refl))), refl))
        ]
      ]
    ]
  ]

  -- ---- settle and put back

  settles : (kind : Kind) → Opens v.image v.count → (k : ℕ) (before : sinks.Meaning)
      → (r : Result ℕ CallRefusal) × (w : View) × (after : sinks.Meaning) × Settles kind v k before r w after
  settles kind image k before = elim (open? v) [
    | inr n ↦ (Err NotOpened, v, before, (inl (n, refl), refl, refl))
    | inl o ↦ elim (taken_at? v k) [
      | inr n ↦ (Err NotTaken, v, before, (inr (o, inl (n, refl)), refl, refl))
      | inl t ↦ (let d = settle_decides kind v image (digest_wide kind) k t.exists before in
          (Ok d.count, changed v k (Settled d.settlement), d.after, (d.settlement, o, t, changes v k (Settled d.settlement), d.decides)))
    ]
  ]

  puts_back : (k : ℕ) → (r : Result (Unit {0}) CallRefusal) × (w : View) × PutsBack v k r w
  puts_back k = elim (open? v) [
    | inr n ↦ (Err NotOpened, v, (inl (n, refl), refl))
    | inl o ↦ elim (taken_at? v k) [
      | inr n ↦ (Err NotTaken, v, (inr (o, inl (n, refl)), refl))
      | inl t ↦ (Ok tt, changed v k Pending, (o, t, changes v k Pending))
    ]
  ]

  -- ---- verdict, line, tail

  tells : (k : ℕ) → (r : Result (Option Verdict) CallRefusal) × Tells v k r
  tells k = elim (open? v) [
    | inr n ↦ (Err NotOpened, inl (n, refl))
    | inl o ↦ elim (exists? v k) [
      | inr n ↦ (Err NoFile, inr (o, inl (n, refl)))
      | inl x ↦ (Ok (told (v.row k)), (o, x, refl))
    ]
  ]

  lines : (k : ℕ) (out : List ℕ) → (r : Result ℕ CallRefusal) × (after : List ℕ) × Lines v k out r after
  lines k out = elim (open? v) [
    | inr n ↦ (Err NotOpened, out, (inl (n, refl), refl))
    | inl o ↦ elim (exists? v k) [
      | inr n ↦ (Err NoFile, out, (inr (o, inl (n, refl)), refl))
      | inl x ↦ elim (at_most (length (file_line v k)) (length out)) [
        | inr n ↦ (Err Short, out, (inr (o, inr (x, inl (n, refl))), refl))
        | inl l ↦ (Ok (length (file_line v k)), file_line v k ++ drop (length (file_line v k)) out, (o, x, puts (file_line v k) out l))
      ]
    ]
  ]

  tails : (out : List ℕ) → (r : Result ℕ CallRefusal) × (after : List ℕ) × Tails v out r after
  tails out = elim (open? v) [
    | inr n ↦ (Err NotOpened, out, (inl (n, refl), refl))
    | inl o ↦ elim (at_most (length (summary v)) (length out)) [
      | inr n ↦ (Err Short, out, (inr (o, inl (n, refl)), refl))
      | inl l ↦ (Ok (length (summary v)), summary v ++ drop (length (summary v)) out, (o, puts (summary v) out l))
    ]
  ]

  -- ---- rewrite

  rewrites : (k : ℕ) (out : List ℕ) → (r : Result ℕ CallRefusal) × (after : List ℕ) × Rewrites v k out r after
  rewrites k out = elim (open? v) [
    | inr n ↦ (Err NotOpened, out, (inl (n, refl), refl))
    | inl o ↦ elim (exists? v k) [
      | inr n ↦ (Err NoFile, out, (inr (o, inl (n, refl)), refl))
      | inl x ↦ elim (readable? (files v) (path_at v k)) [
        | inr n ↦ (Err NotRead, out, (inr (o, inr (x, inl (n, refl))), refl))
        | inl z ↦ elim (at_most (length (canonical z.0)) (length out)) [
          | inr n ↦ (Err Short, out, (inr (o, inr (x, inr (z, inl ((λ f. n (f z.0 z.1)), refl)))), refl))
          | inl l ↦ (Ok (length (canonical z.0)), canonical z.0 ++ drop (length (canonical z.0)) out, (z.0, o, x, z.1, puts (canonical z.0) out l))
        ]
      ]
    ]
  ]

  -- ---- path

  paths : (kind : Kind) → HashesHold v → (k j : ℕ) (out : List ℕ) (before : sinks.Meaning)
      → (r : Result ℕ CallRefusal) × (after : List ℕ) × (sink : sinks.Meaning) × Paths kind v k j out before r after sink
  paths kind hold k j out before = elim (open? v) [
    | inr n ↦ (Err NotOpened, out, before, (inl (n, refl), refl, refl))
    | inl o ↦ elim (exists? v k) [
      | inr n ↦ (Err NoFile, out, before, (inr (o, inl (n, refl)), refl, refl))
      | inl x ↦ elim (has_hash? v k) [
        | inr n ↦ (Err NoHash, out, before, (inr (o, inr (x, inl (n, refl))), refl, refl))
        | inl h ↦ elim (has_output? v k j) [
          | inr n ↦ (Err NoOutput, out, before, (inr (o, inr (x, inr (h, inl (n, refl)))), refl, refl))
          | inl z ↦ (let w = located (files v) (D kind) (path_at v k) (hold k h.0 h.1) z.0 z.1 j z.2 in
              let s = path_held kind before w.needed in
              elim (at_most (length w.right) (length out)) [
                | inr n ↦ (Err Short, out, before, (inr (o, inr (x, inr (h, inr (z, inl ((λ f. n (f w.right w.is)), refl))))), refl, refl))
                | inl l ↦ (Ok (length w.right), w.right ++ drop (length w.right) out, s.0, (o, x, h, z, record { right = w.right; is = w.is; put = puts w.right out l; strings = w.strings; needed = w.needed; holds = s.1 }))
              ])
        ]
      ]
    ]
  ]

  -- ---- circle

  circles : Opens v.image v.count → (r : Result ℕ CallRefusal) × Circles v r
  circles image = elim (open? v) [
    | inr n ↦ (Err NotOpened, inl (n, refl))
    | inl o ↦ (let c = on_cycle v image in (Ok c.0, (o, c.1)))
  ]

pub sound_hashes_hold : SoundHashesHold
sound_hashes_hold kind v sound k h a = is_hashable (files v) (D kind) ((sound.right k a.settlement a.exists a.settled).hash h a.is)

pub every_call_answers : EveryCallAnswers
every_call_answers kind v image = record {
  take = takes v;
  settle = settles v kind image;
  put_back = puts_back v;
  verdict = tells v;
  path = paths v kind;
  rewrite = rewrites v;
  circle = circles v image;
  line = lines v;
  tail = tails v;
}
