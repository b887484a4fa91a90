-- Every list of calls from a newly opened checker on has right answers, settles no file twice, and its counts add up.
use Rattle.std.proofs.Common.{◌≡◌, ℕ, zero, suc, ◌+◌, ◌≤◌, ◌⊎◌, List, [], ◌∷◌, ◌++◌, Some, None, Ok, Err, Option, Result, sym, refl, ap, ◌∙◌, subst, inl, inr, arith}
use Rattle.canonical.specs.Meanings.{canonical}
use Rattle.canonical.specs.Order.{Member}
use Rattle.derivation.specs.declared.spot.Spot.{Spot}
use Rattle.hash_modulo.specs.Laws.{Iff}
use Rattle.hash_modulo.specs.Sets.{Bytes, Files, Finite, Means, Rests, Hashable}
use Rattle.hash_modulo.specs.Strings.{RightPath}
use Rattle.hash_modulo.proofs.Hashes.{is_hashable}
use Rattle.image.specs.Layout.{file_path}
use Rattle.links.specs.Sets.{set_of}
use Rattle.links.proofs.Files.{set_finite}
use Rattle.report.specs.Texts.{tail_text}
use Rattle.sink.specs.Write as sinks
use Rattle.verdict.specs.Judged.{Judged}
use Rattle.verdict.specs.Laws.{BothUnhashed}
use Rattle.verdict.specs.Verdicts.{Verdict}
use Rattle.verdict.specs.declared.fault.Fault.{Fault}
use Rattle.verdict.specs.declared.fault.Fault.TheVariants.{Unhashed}
use Rattle.verdict.proofs.Exactly.{accepted_exactly}
use Rattle.verdict.proofs.One.{one_verdict}
use Rattle.checker.specs.Calls.{Kind, D, Put, TakeRefused, Takes, Settles, PutsBack, Tells, file_line, Lines, one_accepted, accepted, summary, Tails, Rewrites, Paths, Circles}
use Rattle.checker.specs.Events.{Event, took, settled, returned, told, located, rewritten, circled, lined, tailed, Stage, Happens, Runs, Leads}
use Rattle.checker.specs.Soundness.{RowRight, SoundView}
use Rattle.checker.specs.Theorem.{VerdictRight, settles, Numbered, ToldRight, Wrote, AcceptedBy, HowMany, no_files, one_more, no_more, EventRight, AnswersRight, Right, ClientTheorem, RunTheorem}
use Rattle.checker.specs.Views as views
use Rattle.checker.specs.Views.{View, fresh, Exists, PendingAt, TakenAt}
use Rattle.checker.specs.declared.call.Window.{Window}
use Rattle.checker.specs.declared.refused.CallRefusal.{CallRefusal}
use Rattle.checker.specs.declared.refused.CallRefusal.TheVariants.{NotOpened, VisitOut, NonePending}
use Rattle.checker.specs.declared.state.Hashes.{Hashes}
use Rattle.checker.specs.declared.state.Settlement.{Settlement}
use Rattle.checker.specs.declared.state.State.{State}
use Rattle.checker.specs.declared.state.State.TheVariants.{Pending, Taken, Settled}
use Rattle.checker.proofs.Keeping.{is_pending, not_settled, not_taken, taken_settled, fresh_sound}
use Rattle.checker.proofs.Phases.{phase_after}
use Rattle.checker.proofs.Rewriting.{put_front}
use Rattle.checker.proofs.Running.{SettledAt, Of, over, settle_count, Ran, ran}

-- ---- verdicts and hashes

refused : (f : Fault) → ◌≡◌ {A = Verdict} (Err f) (Ok tt) → ⊥
refused f e = cc

accepted_not : (x : Spot) → ◌≡◌ {A = Verdict} (Ok tt) (Err (Unhashed x)) → ⊥
accepted_not x e = cc

module _ (kind : Kind) (set : Files) (fin : Finite set) (p : Bytes) where
  verdict_right : (w : Verdict) → Judged set (D kind) p w → VerdictRight kind set p w
  verdict_right w j =
      let accepted = accepted_exactly set fin (D kind) p in
      record {
        judged = j;
        accepted = (λ e. accepted.0 (subst (Judged set (D kind) p) e j), λ s. only (one_verdict set (D kind) p w (Ok tt) j (accepted.1 s)));
      }
    where
      only : (w ≡ Ok tt) ⊎ BothUnhashed w (Ok tt) → w ≡ Ok tt
      only (inl e) = e
      only (inr b) = absurd (accepted_not b.two b.second)

  hashes_right : (s : Settlement) → RowRight kind set p s → Iff ((h : Hashes) × (s.hashes ≡ Some h)) (Hashable set p)
  hashes_right s r = (λ z. is_hashable set (D kind) (r.hash z.0 z.1), λ y. has y s.hashes refl)
    where
      has : Hashable set p → (o : Option Hashes) → s.hashes ≡ o → (h : Hashes) × (s.hashes ≡ Some h)
      has y None e = absurd (r.without e y)
      has y (Some h) e = (h, e)

-- ---- what one call answers

not_told : (w : Verdict) → Some w ≡ None → ⊥
not_told w e = cc

same_told : (v w : Verdict) → Some w ≡ Some v → v ≡ w
same_told v w e = cc

-- a list of calls and one call more
leads_on : (kind : Kind) (before : List Event) (e : Event) (v : View) (s t : Stage) → Leads kind v before s.view → Happens kind s e t → Leads kind v (before ++ (e ∷ [])) t.view
leads_on kind [] e v s t same h = (s, same, t, h, refl)
leads_on kind (f ∷ before) e v s t (r, from, u, g, more) h = (r, from, u, g, leads_on kind before e u.view s t more h)

-- a run leads from its first view to its last
runs_lead : (kind : Kind) (es : List Event) (s t : Stage) → Runs kind s es t → Leads kind s.view es t.view
runs_lead kind [] s t same = ap (λ (x : Stage). x.view) same
runs_lead kind (e ∷ es) s t (u, h, more) = (s, refl, u, h, runs_lead kind es u t more)

wrote : (text out after : List ℕ) (count : ℕ) → Put text out count after → Wrote text after count
wrote text out after count p = (p.count, put_front text out count after p)

-- the settled files of a view are those that were settled by these calls
record Known (before : List Event) (v : View) : Type 0 where
  pub there : (k : ℕ) → Member k (settles before) → SettledAt v k
  pub back : (k : ℕ) → SettledAt v k → Member k (settles before)

module _ (kind : Kind) (img : Bytes) (n : ℕ) (fin : Finite (set_of img n)) where
  module _ (v : View) (a : Of kind img n v) (sound : SoundView kind v) (before : List Event) (known : Known before v) where
    file_of : (k : ℕ) → Exists v k → Numbered n k
    file_of k x = (x.0, subst (λ (m : ℕ). k ≤ m) a.count x.1)

    exists : (k : ℕ) → Numbered n k → Exists v k
    exists k x = (x.0, subst (λ (m : ℕ). k ≤ m) (sym a.count) x.1)

    not_yet : (k : ℕ) → ((s : Settlement) → v.row k ≡ Settled s → ⊥) → Member k (settles before) → ⊥
    not_yet k not i = let z = known.there k i in not z.0 z.1

    row_verdict : (k : ℕ) (s : Settlement) → Exists v k → v.row k ≡ Settled s → VerdictRight kind (set_of img n) (file_path img k) s.verdict
    row_verdict k s x e =
        verdict_right kind (set_of img n) fin (file_path img k) s.verdict
        (over kind img n (λ i m. Judged (set_of i m) (D kind) (file_path i k) s.verdict) v a (sound.right k s x e).verdict)

    take_right : (r : Result ℕ CallRefusal) (w : View) → Takes v r w → EventRight kind img n before (took r)
    take_right (Ok k) w (o, none, chosen, c) = (file_of k pending.exists, not_yet k (λ s. not_settled (v.row k) s pending.is))
      where
        pending : PendingAt v k
        pending = is_pending v k chosen
    take_right (Err e) w (q, same) = none_left q
      where
        none_left : TakeRefused v e → e ≡ NonePending → (k : ℕ) → Numbered n k → Member k (settles before)
        none_left (inl (not, f)) is k x = absurd (let g : NotOpened ≡ NonePending = sym f ∙ is in cc)
        none_left (inr (o, inl (not, f))) is k x = absurd (let g : VisitOut ≡ NonePending = sym f ∙ is in cc)
        none_left (inr (o, inr (free, inl (not, f)))) is k x = way (v.row k) refl
          where
            way : (y : State) → v.row k ≡ y → Member k (settles before)
            way Pending g = absurd (not (k, record { exists = exists k x; is = g }))
            way Taken g = absurd (free k (record { exists = exists k x; is = g }))
            way (Settled s) g = known.back k (s, g)
        none_left (inr (o, inr (free, inr (some, done)))) is k x = absurd done

    settle_right : (k : ℕ) (before_sink after : sinks.Meaning) (r : Result ℕ CallRefusal) (w : View) → Settles kind v k before_sink r w after
        → EventRight kind img n before (settled k r)
    settle_right k b c (Ok m) w (s, o, taken, ch, d) =
        (file_of k taken.exists, not_yet k (λ x. taken_settled (v.row k) x taken.is), settle_count kind img n v k b c m s d a)
    settle_right k b c (Err e) w h = tt

    back_right : (k : ℕ) (r : Result (Unit {0}) CallRefusal) (w : View) → PutsBack v k r w → EventRight kind img n before (returned k r)
    back_right k (Ok u) w (o, taken, c) = (file_of k taken.exists, not_yet k (λ x. taken_settled (v.row k) x taken.is))
    back_right k (Err e) w h = tt

    told_now : (k : ℕ) (o : Option Verdict) → Exists v k → o ≡ views.told (v.row k) → ToldRight kind img n before k o
    told_now k None x e = way (v.row k) refl e
      where
        way : (y : State) → v.row k ≡ y → None ≡ views.told y → Member k (settles before) → ⊥
        way Pending f g = not_yet k (λ s. not_settled (v.row k) s f)
        way Taken f g = not_yet k (λ s. taken_settled (v.row k) s f)
        way (Settled s) f g = absurd (not_told s.verdict (sym g))
    told_now k (Some w) x e = way (v.row k) refl e
      where
        way : (y : State) → v.row k ≡ y → Some w ≡ views.told y → ToldRight kind img n before k (Some w)
        way Pending f g = absurd (not_told w g)
        way Taken f g = absurd (not_told w g)
        way (Settled s) f g = (known.back k (s, f), subst (VerdictRight kind (set_of img n) (file_path img k)) (same_told s.verdict w g) (row_verdict k s x f))

    tell_right : (k : ℕ) (r : Result (Option Verdict) CallRefusal) → Tells v k r → EventRight kind img n before (told k r)
    tell_right k (Ok o) (p, x, e) = (file_of k x, told_now k o x e)
    tell_right k (Err e) h = tt

    path_right : (k j : ℕ) (w : Window) (room out : List ℕ) (b c : sinks.Meaning) (r : Result ℕ CallRefusal) → Paths kind v k j room b r out c
        → EventRight kind img n before (located k j w out r)
    path_right k j w room out b c (Ok m) (o, x, (h, y), z, l) = (
      file_of k x,
      known.back k (y.settlement, y.settled),
      l.right,
      over kind img n (λ i m. RightPath (set_of i m) (D kind) (file_path i k) j l.right) v a l.is,
      wrote l.right room out m l.put,
    )
    path_right k j w room out b c (Err e) h = tt

    rewrite_right : (k : ℕ) (w : Window) (room out : List ℕ) (r : Result ℕ CallRefusal) → Rewrites v k room r out
        → EventRight kind img n before (rewritten k w out r)
    rewrite_right k w room out (Ok c) (m, o, x, f, put) =
        (file_of k x, m, over kind img n (λ i q. Means (set_of i q) (file_path i k) m) v a f, wrote (canonical m) room out c put)
    rewrite_right k w room out (Err e) h = tt

    circle_right : (r : Result ℕ CallRefusal) → Circles v r → EventRight kind img n before (circled r)
    circle_right (Ok c) (o, inl (e, none)) = inl (e, over kind img n (λ i m. (p : Bytes) → Rests (set_of i m) p p → ⊥) v a none)
    circle_right (Ok c) (o, inr (x, rests)) =
        inr (file_of c x, over kind img n (λ i m. Rests (set_of i m) (file_path i c) (file_path i c)) v a rests)
    circle_right (Err e) h = tt

    line_right : (k : ℕ) (w : Window) (room out : List ℕ) (r : Result ℕ CallRefusal) → Lines v k room r out
        → EventRight kind img n before (lined k w out r)
    line_right k w room out (Ok c) (o, x, put) =
        (file_of k x, views.told (v.row k), told_now k (views.told (v.row k)) x refl, wrote (file_line v k) room out c put)
    line_right k w room out (Err e) h = tt

    one_further : (m : ℕ) → suc m ≤ n → HowMany kind img n before m (accepted v.row m) → (y : State) → v.row (suc m) ≡ y
        → HowMany kind img n before (suc m) (accepted v.row m + one_accepted y)
    one_further m l less = way
      where
        same : (y : ℕ) → (AcceptedBy kind img n before (suc m) → ⊥) → y ≡ 0 → HowMany kind img n before (suc m) (accepted v.row m + y)
        same y not e = subst (HowMany kind img n before (suc m)) (omega arith) (no_more not less)

        judged : (s : Settlement) → v.row (suc m) ≡ Settled s → (w : Verdict) → s.verdict ≡ w
            → HowMany kind img n before (suc m) (accepted v.row m + elim w [ Ok u ↦ 1 | Err f ↦ 0 ])
        judged s f (Ok tt) e =
            subst (HowMany kind img n before (suc m)) (omega arith)
            (one_more (known.back (suc m) (s, f), (row_verdict (suc m) s (exists (suc m) (omega arith, l)) f).accepted.0 e) less)
        judged s f (Err x) e = same 0 (λ z. refused x (sym e ∙ (row_verdict (suc m) s (exists (suc m) (omega arith, l)) f).accepted.1 z.1)) refl

        way : (y : State) → v.row (suc m) ≡ y → HowMany kind img n before (suc m) (accepted v.row m + one_accepted y)
        way Pending f = same 0 (λ z. not_yet (suc m) (λ s. not_settled (v.row (suc m)) s f) z.0) refl
        way Taken f = same 0 (λ z. not_yet (suc m) (λ s. taken_settled (v.row (suc m)) s f) z.0) refl
        way (Settled s) f = judged s f s.verdict refl

    how_many : (m : ℕ) → m ≤ n → HowMany kind img n before m (accepted v.row m)
    how_many zero l = no_files
    how_many (suc m) l = one_further m l (how_many m (omega arith)) (v.row (suc m)) refl

    tail_right : (w : Window) (room out : List ℕ) (r : Result ℕ CallRefusal) → Tails v room r out → EventRight kind img n before (tailed w out r)
    tail_right w room out (Ok c) (o, put) = (
      accepted v.row n,
      how_many n (omega arith),
      subst (λ (m : ℕ). Wrote (tail_text m (accepted v.row m)) out c) a.count (wrote (summary v) room out c put),
    )
    tail_right w room out (Err e) h = tt

  event_right : (e : Event) (s t : Stage) → Happens kind s e t → Of kind img n s.view → SoundView kind s.view → (before : List Event)
      → Known before s.view → EventRight kind img n before e
  event_right (took r) s t (h, m) a sound before known = take_right s.view a sound before known r t.view h
  event_right (settled k r) s t (h, b) a sound before known = settle_right s.view a sound before known k s.sink t.sink r t.view h
  event_right (returned k r) s t (h, m) a sound before known = back_right s.view a sound before known k r t.view h
  event_right (told k r) s t (h, same) a sound before known = tell_right s.view a sound before known k r h
  event_right (located k j w out r) s t (h, same, b) a sound before known = path_right s.view a sound before known k j w _ out s.sink t.sink r h
  event_right (rewritten k w out r) s t (h, x) a sound before known = rewrite_right s.view a sound before known k w _ out r h
  event_right (circled r) s t (h, same) a sound before known = circle_right s.view a sound before known r h
  event_right (lined k w out r) s t (h, x) a sound before known = line_right s.view a sound before known k w _ out r h
  event_right (tailed w out r) s t (h, x) a sound before known = tail_right s.view a sound before known w _ out r h

  -- ---- what a list of calls answers

  -- from a view with no settled file on
  module _ (start : View) (a : Of kind img n start) (sound : SoundView kind start) (none : (k : ℕ) → SettledAt start k → ⊥) where
    known_by : (before : List Event) (v : View) → Ran kind img n start before v → Known before v
    known_by before v r = record {
      there = λ k i. (r.gains.new k i).0;
      back = λ k z. elim (r.gains.all k z) [ inl y ↦ absurd (none k y) | inr i ↦ i ];
    }

    answers_right : (before es : List Event) (v w : View) → Leads kind start before v → Leads kind v es w → AnswersRight kind img n before es
    answers_right before [] v w r more = tt
    answers_right before (e ∷ es) v w r (s, from, t, h, more) =
        let here : Leads kind start before s.view = subst (Leads kind start before) (sym from) r in
        let so_far = ran kind img n before start s.view here a sound in (
          event_right e s t h so_far.is so_far.sound before (known_by before s.view so_far),
          answers_right (before ++ (e ∷ [])) es t.view w (leads_on kind before e start s t here h) more,
        )

  row_of : (w : View) → Of kind img n w → SoundView kind w → (k : ℕ) (s : Settlement) → 1 ≤ k → k ≤ n → w.row k ≡ Settled s → RowRight kind (set_of img n) (file_path img k) s
  row_of w a sound k s from to e =
      over kind img n (λ i m. RowRight kind (set_of i m) (file_path i k) s) w a (sound.right k s (from, subst (λ (m : ℕ). k ≤ m) (sym a.count) to) e)

  all_right : (start w : View) → Of kind img n start → SoundView kind start → ((k : ℕ) → SettledAt start k → ⊥)
      → ((k : ℕ) → TakenAt start k → ⊥) → (es : List Event) → Leads kind start es w → Right kind img n es w
  all_right start w a sound none idle es leads =
      let r = ran kind img n es start w leads a sound in
      let known = known_by start a sound none es w r in
      record {
        answers = answers_right start a sound none [] es start w refl leads;
        opened = r.is.opened;
        image = r.is.image;
        count = r.is.count;
        verdicts = λ k s from to e. verdict_right kind (set_of img n) fin (file_path img k) s.verdict (row_of w r.is r.sound k s from to e).verdict;
        hashes = λ k s from to e. hashes_right kind (set_of img n) fin (file_path img k) s (row_of w r.is r.sound k s from to e);
        are = λ k s h from to e f. let row = row_of w r.is r.sound k s from to e in (row.hash h f, row.masked h f);
        exactly = λ k from to. (known.there k, known.back k);
        once = r.gains.once;
        total = r.gains.total;
        phases = λ k from to. phase_after kind start w es k (from, subst (λ (m : ℕ). k ≤ m) (sym r.is.count) to) leads (idle k) (known.there k) (known.back k);
        one = r.sound.one;
        sound = r.sound;
      }

pub client_theorem : ClientTheorem
client_theorem kind img n opens es w leads =
    let is : Of kind img n (fresh img n) = record { opened = refl; image = refl; count = refl } in
    all_right kind img n (set_finite img n opens) (fresh img n) w is (fresh_sound kind img n) (λ k z. not_settled Pending z.0 refl z.1) (λ k z. not_taken Pending refl z.is) es leads

pub run_theorem : RunTheorem
run_theorem kind img n opens sink buffer es t runs =
    client_theorem kind img n opens es t.view (runs_lead kind es (record { view = fresh img n; sink = sink; buffer = buffer }) t runs)
