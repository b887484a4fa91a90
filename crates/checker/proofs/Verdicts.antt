-- What the calls of a report answer: the rounds settle every file, and then the verdict of each is told.
use Rattle.std.proofs.Common.{◌≡◌, ℕ, zero, suc, ◌+◌, ◌-◌, ◌<◌, ◌≤◌, min, List, [], ◌∷◌, ◌++◌, map, length, get_or, take, drop, Some, Ok, Err, Option, Result, sym, refl, ap, ◌∙◌, subst, inl, inr, arith}
use Rattle.std.proofs.lemmas.Bool.{cases_eq, cases_lt}
use Rattle.std.proofs.lemmas.List.{append-nil, drop-map, drop_all}
use Rattle.hash_modulo.specs.Sets.{Bytes}
use Rattle.image.specs.Layout.{file_path}
use Rattle.image.specs.Opening.{Opens, Refused}
use Rattle.image.specs.declared.refusal.Refusal.{Refusal}
use Rattle.image.proofs.Answers.{one_answer}
use Rattle.image.specs.Layout.{slot_count, link}
use Rattle.image.proofs.Pigeons.{pigeons}
use Rattle.links.specs.Sets.{set_of}
use Rattle.report.specs.Texts.{refused_text}
use Rattle.sink.specs.Write.{Step, Held, Writes}
use Rattle.sink.specs.declared.full.Full.{Full}
use Rattle.sink.proofs.Writing.{as_text}
use Rattle.verdict.specs.Verdicts.{Verdict}
use Rattle.checker.specs.Calls.{Kind, Tells}
use Rattle.checker.specs.Events.{Event, took, settled, returned, told, located, rewritten, circled, lined, tailed, Stage, Happens}
use Rattle.checker.specs.Opened.{open_number, open_slot, OpenRefused, OpensSet}
use Rattle.checker.specs.Playing.{offered, last_taken, Fits, Values, stage, Turn, Plays, RunDone}
use Rattle.checker.specs.Reports.{rounds_then, verdicts_from, report_calls, told_by, verdicts_in, report_text, AllJudged, files_to, AllDigested, refused, judged, Reported}
use Rattle.checker.specs.Seen.{view_of, view_none}
use Rattle.checker.specs.Theorem.{VerdictRight, settles, counted, Total}
use Rattle.checker.specs.Views as views
use Rattle.checker.specs.Views.{View, fresh, Open, Exists}
use Rattle.checker.specs.declared.call.Answer.{Answer}
use Rattle.checker.specs.declared.call.Answer.TheVariants as answers
use Rattle.checker.specs.declared.call.Call.{Call}
use Rattle.checker.specs.declared.call.Call.TheVariants as calls
use Rattle.checker.specs.declared.call.Offer.{Offer}
use Rattle.checker.specs.declared.call.Offer.TheVariants.{LastTaken}
use Rattle.checker.specs.declared.call.Ran.{Ran}
use Rattle.checker.specs.declared.refused.CallRefusal.{CallRefusal}
use Rattle.checker.specs.declared.refused.OpenRefusal.{OpenRefusal}
use Rattle.checker.specs.declared.refused.OpenRefusal.TheVariants.{AlreadyOpen, Image}
use Rattle.checker.specs.declared.state.Settlement.{Settlement}
use Rattle.checker.specs.declared.state.State.{State}
use Rattle.checker.specs.declared.state.State.TheVariants.{Settled}
use Rattle.checker.proofs.Keeping.{clash, not_taken}
use Rattle.checker.proofs.Reporting.{tells_more, tells_none}
use Rattle.checker.proofs.Rounds.{left, left_few, all_settled, Calm, Round, round}
use Rattle.checker.proofs.Running.{SettledAt}
use Rattle.checker.proofs.Totals.{in_order, numbered, rounds_none, verdicts_none, rise_counted}

-- ---- which event a call is

was_take : (last : ℕ) (a : Answer) (e : Event) → Fits last calls.Take a e → (r : Result ℕ CallRefusal) × (e ≡ took r)
was_take last a (took r) f = (r, refl)
was_take last a (settled k r) (o, c, i, b) = absurd (clash (cc))
was_take last a (returned k r) (o, c, i, b) = absurd (clash (cc))
was_take last a (told k r) (c, b) = absurd (clash (cc))
was_take last a (located k j w out r) (c, b) = absurd (clash (cc))
was_take last a (rewritten k w out r) (c, b) = absurd (clash (cc))
was_take last a (circled r) (c, b) = absurd (clash (cc))
was_take last a (lined k w out r) (c, b) = absurd (clash (cc))
was_take last a (tailed w out r) (c, b) = absurd (clash (cc))

same_offer : (o : Offer) → calls.Settle LastTaken ≡ calls.Settle o → o ≡ LastTaken
same_offer o c = cc

was_settle : (last : ℕ) (a : Answer) (e : Event) → Fits last (calls.Settle LastTaken) a e → (r : Result ℕ CallRefusal) × (e ≡ settled last r)
was_settle last a (took r) (c, b) = absurd (clash (cc))
was_settle last a (settled k r) (o, c, i, b) = (r, ap (λ (j : ℕ). settled j r) (i ∙ ap (offered last) (same_offer o c)))
was_settle last a (returned k r) (o, c, i, b) = absurd (clash (cc))
was_settle last a (told k r) (c, b) = absurd (clash (cc))
was_settle last a (located k j w out r) (c, b) = absurd (clash (cc))
was_settle last a (rewritten k w out r) (c, b) = absurd (clash (cc))
was_settle last a (circled r) (c, b) = absurd (clash (cc))
was_settle last a (lined k w out r) (c, b) = absurd (clash (cc))
was_settle last a (tailed w out r) (c, b) = absurd (clash (cc))

same_file : (j k : ℕ) → calls.Verdict k ≡ calls.Verdict j → j ≡ k
same_file j k c = cc

was_verdict : (last k : ℕ) (a : Answer) (e : Event) → Fits last (calls.Verdict k) a e
    → (r : Result (Option Verdict) CallRefusal) × (e ≡ told k r) × (a ≡ answers.Verdict r)
was_verdict last k a (took r) (c, b) = absurd (clash (cc))
was_verdict last k a (settled j r) (o, c, i, b) = absurd (clash (cc))
was_verdict last k a (returned j r) (o, c, i, b) = absurd (clash (cc))
was_verdict last k a (told j r) (c, b) = (r, ap (λ (i : ℕ). told i r) (same_file j k c), b)
was_verdict last k a (located i j w out r) (c, b) = absurd (clash (cc))
was_verdict last k a (rewritten j w out r) (c, b) = absurd (clash (cc))
was_verdict last k a (circled r) (c, b) = absurd (clash (cc))
was_verdict last k a (lined j w out r) (c, b) = absurd (clash (cc))
was_verdict last k a (tailed w out r) (c, b) = absurd (clash (cc))

-- ---- an image has 256 files at most

few_files : (img : Bytes) (n : ℕ) → Opens img n → n ≤ 256
few_files img n opens = elim (cases_lt (slot_count img) n) [
  | inl more ↦ absurd (pigeons (slot_count img) (link img)
      (λ m below. ((opens.chained.good m (omega arith)).some, (opens.chained.good m (omega arith)).within))
      (λ l m under below. (opens.chained.good m (omega arith)).fresh l under))
  | inr most ↦ omega (arith, opens.slotted.few)
]

-- ---- the rounds

abbrev twice : ℕ → ℕ
twice zero = 0
twice (suc m) = suc (suc (twice m))

module _ {S : Type 0} (held : S → Held) (kind : Kind) where
  abbrev seen : Values held → View
  seen x = view_of x.checker

  round_played : (last : ℕ) (a b : Answer) (e f : Event) (x y z : Values held) → Calm (seen x) → Turn held kind last calls.Take a e x y
      → Turn held kind (last_taken last e) (calls.Settle LastTaken) b f y z → Round (seen x) (seen z)
  round_played last a b e f x y z calm t s =
      let (r, is) = was_take last a e t.fits in
      let (q, then) = was_settle (last_taken last e) b f s.fits in
      let (takes, moves) = subst (λ (e : Event). Happens kind (stage held x) e (stage held y)) is t.happens in
      let (settles, same) = subst (λ (f : Event). Happens kind (stage held y) f (stage held z)) then s.happens in
      round kind (seen x) (seen y) (seen z) r (last_taken last e) _ _ q calm (λ j g. ap (last_taken last) (is ∙ ap took g)) takes settles

  -- what is played after m rounds
  record After (m : ℕ) (cs : List Call) (bs : List Answer) (x z : Values held) : Type 0 where
    pub last : ℕ
    pub given : List Answer
    pub events : List Event
    pub start : Values held
    pub cut : drop (twice m) bs ≡ given
    pub plays : Plays held kind last cs given events start z
    pub calm : Calm (seen start)
    pub image : (seen start).image ≡ (seen x).image
    pub count : (seen start).count ≡ (seen x).count
    pub fewer : left (seen start).row (seen start).count ≤ left (seen x).row (seen x).count - m

  rounds_play : (m last : ℕ) (cs : List Call) (bs : List Answer) (es : List Event) (x z : Values held) → Calm (seen x)
      → Plays held kind last (rounds_then m cs) bs es x z → After m cs bs x z
  rounds_play zero last cs bs es x z calm p = record {
    last = last;
    given = bs;
    events = es;
    start = x;
    cut = refl;
    plays = p;
    calm = calm;
    image = refl;
    count = refl;
    fewer = omega arith;
  }
  rounds_play (suc m) last cs [] es x z calm p = absurd p
  rounds_play (suc m) last cs (a ∷ bs) [] x z calm p = absurd p
  rounds_play (suc m) last cs (a ∷ []) (e ∷ es) x z calm (y, t, p) = absurd p
  rounds_play (suc m) last cs (a ∷ b ∷ bs) (e ∷ []) x z calm (y, t, p) = absurd p
  rounds_play (suc m) last cs (a ∷ b ∷ bs) (e ∷ f ∷ es) x z calm (y, t, (u, s, p)) =
      let one = round_played last a b e f x y u calm t s in
      let rest = rounds_play m (last_taken (last_taken last e) f) cs bs es u z one.calm p in
      record {
        last = rest.last;
        given = rest.given;
        events = rest.events;
        start = rest.start;
        cut = rest.cut;
        plays = rest.plays;
        calm = rest.calm;
        image = rest.image ∙ one.image;
        count = rest.count ∙ one.count;
        fewer = omega (arith, rest.fewer, one.fewer);
      }

  -- ---- the verdicts

  -- the verdicts of the files from the file k on
  record AllTold (v : View) (k : ℕ) (ws : List Verdict) : Type 0 where
    pub many : k + length ws ≡ v.count + 1
    pub each : (j : ℕ) → k ≤ j → j ≤ v.count → (s : Settlement) × (v.row j ≡ Settled s) × (get_or ws (j - k) (Ok tt) ≡ s.verdict)

  none_told : (v : View) (k : ℕ) → k ≡ v.count + 1 → AllTold v k []
  none_told v k e = record { many = omega arith; each = λ j low high. absurd (let f : suc j ≤ j = omega arith in omega arith) }

  one_told : (v : View) (k : ℕ) (s : Settlement) (ws : List Verdict) → v.row k ≡ Settled s → AllTold v (suc k) ws → AllTold v k (s.verdict ∷ ws)
  one_told v k s ws is rest = record { many = omega (arith, rest.many); each = each }
    where
      each : (j : ℕ) → k ≤ j → j ≤ v.count → (x : Settlement) × (v.row j ≡ Settled x) × (get_or (s.verdict ∷ ws) (j - k) (Ok tt) ≡ x.verdict)
      each j low high = elim (cases_eq j k) [
        | inl same ↦
            let first : j - k ≡ 0 = omega arith in
            (s, ap v.row same ∙ is, ap (λ (i : ℕ). get_or (s.verdict ∷ ws) i (Ok tt)) first)
        | inr other ↦
            let above : suc k ≤ j = omega arith in
            let later : j - k ≡ suc (j - suc k) = omega arith in
            let (x, e, w) = rest.each j above high in
            (x, e, ap (λ (i : ℕ). get_or (s.verdict ∷ ws) i (Ok tt)) later ∙ w)
      ]

  told_so : (x : State) (s : Settlement) → x ≡ Settled s → views.told x ≡ Some s.verdict
  told_so x s e = ap views.told e

  -- an answer to a verdict call of the file k, and the verdicts that the answers after it tell
  tell : (v : View) → Open v → ((j : ℕ) → Exists v j → SettledAt v j) → (k : ℕ) → 1 ≤ k → k ≤ v.count + 1 → (a : Answer) (bs : List Answer)
      → (r : Result (Option Verdict) CallRefusal) → a ≡ answers.Verdict r → Tells v k r → (k ≤ v.count → AllTold v (suc k) (verdicts_in (map Some bs)))
      → AllTold v k (verdicts_in (map Some (a ∷ bs)))
  tell v opened all k low high a bs (Ok o) is (x, exists, e) rest =
      let (s, f) = all k exists in
      let says : told_by a ≡ Some s.verdict = ap told_by is ∙ (e ∙ told_so (v.row k) s f) in
      subst (AllTold v k) (sym (tells_more (Some a) (map Some bs) s.verdict says)) (one_told v k s (verdicts_in (map Some bs)) f (rest exists.1))
  tell v opened all k low high a bs (Err f) is (inl (not, e)) rest = absurd (not opened)
  tell v opened all k low high a bs (Err f) is (inr (x, inl (not, e))) rest =
      let past : k ≡ v.count + 1 = elim (cases_lt v.count k) [ inl more ↦ omega arith | inr there ↦ absurd (not (low, there)) ] in
      subst (AllTold v k) (sym (tells_none (Some a) (map Some bs) (ap told_by is))) (none_told v k past)
  tell v opened all k low high a bs (Err f) is (inr (x, inr (exists, done))) rest = absurd done

  -- a verdict call leaves the view
  told_stays : (last k : ℕ) (a : Answer) (e : Event) (x y : Values held) → Turn held kind last (calls.Verdict k) a e x y → seen y ≡ seen x
  told_stays last k a e x y t =
      let (r, is, b) = was_verdict last k a e t.fits in
      ap (λ (s : Stage). s.view) (subst (λ (e : Event). Happens kind (stage held x) e (stage held y)) is t.happens).1

  tells_stay : (m k last : ℕ) (bs : List Answer) (es : List Event) (x z : Values held) → Plays held kind last (verdicts_from k m) bs es x z → seen z ≡ seen x
  tells_stay zero k last [] [] x z p = ap seen p
  tells_stay zero k last [] (e ∷ es) x z p = absurd p
  tells_stay zero k last (a ∷ bs) es x z p = absurd p
  tells_stay (suc m) k last [] es x z p = absurd p
  tells_stay (suc m) k last (a ∷ bs) [] x z p = absurd p
  tells_stay (suc m) k last (a ∷ bs) (e ∷ es) x z (y, t, p) = tells_stay m (suc k) (last_taken last e) bs es y z p ∙ told_stays last k a e x y t

  tells_play : (v : View) → Open v → ((j : ℕ) → Exists v j → SettledAt v j) → (m k last : ℕ) (bs : List Answer) (es : List Event) (x z : Values held)
      → seen x ≡ v → 1 ≤ k → k ≤ v.count + 1 → v.count < k + m → Plays held kind last (verdicts_from k m) bs es x z → AllTold v k (verdicts_in (map Some bs))
  tells_play v opened all zero k last [] [] x z is low high enough p = none_told v k (omega arith)
  tells_play v opened all zero k last [] (e ∷ es) x z is low high enough p = absurd p
  tells_play v opened all zero k last (a ∷ bs) es x z is low high enough p = absurd p
  tells_play v opened all (suc m) k last [] es x z is low high enough p = absurd p
  tells_play v opened all (suc m) k last (a ∷ bs) [] x z is low high enough p = absurd p
  tells_play v opened all (suc m) k last (a ∷ bs) (e ∷ es) x z is low high enough (y, t, p) =
      let (r, was, answer) = was_verdict last k a e t.fits in
      let (tells, same) = subst (λ (e : Event). Happens kind (stage held x) e (stage held y)) was t.happens in
      tell v opened all k low high a bs r answer (subst (λ (v : View). Tells v k r) is tells)
      (λ there. tells_play v opened all m (suc k) (last_taken last e) bs es y z (told_stays last k a e x y t ∙ is) (omega arith) (omega arith) (omega arith) p)

  -- ---- the whole list

  -- after the rounds over an image every file is settled, and then each verdict is told
  told_after : (v : View) (m : ℕ) (bs : List Answer) (es : List Event) (x z : Values held) → seen x ≡ v → Calm v → v.count ≤ m
      → Plays held kind 0 (rounds_then m (verdicts_from 1 m)) bs es x z
      → ((seen z).count ≡ v.count) × AllTold (seen z) 1 (verdicts_in (map Some (drop (twice m) bs)))
  told_after v m bs es x z is calm few p =
      let a = rounds_play m 0 (verdicts_from 1 m) bs es x z (subst Calm (sym is) calm) p in
      let w = seen a.start in
      let stays : seen z ≡ w = tells_stay m 1 a.last a.given a.events a.start z a.plays in
      let count : w.count ≡ v.count = a.count ∙ ap (λ (v : View). v.count) is in
      let none : left w.row w.count ≡ 0 = omega (arith, a.fewer, left_few (seen x).row (seen x).count, ap (λ (v : View). v.count) is) in
      let tells = tells_play w a.calm.opened (all_settled w none) m 1 a.last a.given a.events a.start z refl (omega arith) (omega arith) (omega (arith, count)) a.plays in (
        ap (λ (v : View). v.count) stays ∙ count,
        subst (λ (v : View). AllTold v 1 (verdicts_in (map Some (drop (twice m) bs)))) (sym stays)
            (subst (λ (bs : List Answer). AllTold w 1 (verdicts_in (map Some bs))) (sym a.cut) tells),
      )

  fresh_calm : (img : Bytes) (n : ℕ) → Calm (fresh img n)
  fresh_calm img n = record { opened = refl; free = λ k t. not_taken _ refl t.is }

  -- there is room for the answers of all these calls, so that all are made
  all_made : (img : Bytes) (answers answered : List (Option Answer)) (sink sink_after : S) (buffer buffer_after : List ℕ) (r : Ran)
      → RunDone held kind img report_calls answers sink buffer r answered sink_after buffer_after → length answers ≡ 768 → r.count ≡ 768
  all_made img answers answered sink sink_after buffer buffer_after r run long = run.played.is ∙ ap (λ (k : ℕ). min 768 k) long

  all_play : (img : Bytes) (answers answered : List (Option Answer)) (sink sink_after : S) (buffer buffer_after : List ℕ) (r : Ran)
      → (run : RunDone held kind img report_calls answers sink buffer r answered sink_after buffer_after) → length answers ≡ 768
      → Plays held kind 0 report_calls run.played.given run.played.events
      (record { checker = run.first; sink = sink; buffer = buffer }) (record { checker = run.final; sink = sink_after; buffer = buffer_after })
  all_play img answers answered sink sink_after buffer buffer_after r run long =
      subst (λ (k : ℕ). Plays held kind 0 (take k report_calls) run.played.given run.played.events
      (record { checker = run.first; sink = sink; buffer = buffer }) (record { checker = run.final; sink = sink_after; buffer = buffer_after }))
      (all_made img answers answered sink sink_after buffer buffer_after r run long) run.played.plays

  all_told : (img : Bytes) (answers answered : List (Option Answer)) (sink sink_after : S) (buffer buffer_after : List ℕ) (r : Ran)
      → (run : RunDone held kind img report_calls answers sink buffer r answered sink_after buffer_after) → length answers ≡ 768 → (x : Unit {0}) → r.opened ≡ Ok x
      → (n : ℕ) × Opens img n × ((view_of run.final).count ≡ n) × AllTold (view_of run.final) 1 (verdicts_in (map Some (drop 512 run.played.given)))
  all_told img answers answered sink sink_after buffer buffer_after r run long x is =
      let (not, (n, opens, first)) = subst (λ (o : Result (Unit {0}) OpenRefusal). OpensSet view_none img o (view_of run.first)) is run.opens in
      let (same, tells) = told_after (fresh img n) 256 run.played.given run.played.events (record { checker = run.first; sink = sink; buffer = buffer })
      (record { checker = run.final; sink = sink_after; buffer = buffer_after }) first (fresh_calm img n) (few_files img n opens)
      (all_play img answers answered sink sink_after buffer buffer_after r run long) in
      (n, opens, same, tells)

  -- what is digested in a run of these calls is what is digested for all files
  pub all_digested : (img : Bytes) (answers answered : List (Option Answer)) (sink sink_after : S) (buffer buffer_after : List ℕ) (r : Ran)
      → RunDone held kind img report_calls answers sink buffer r answered sink_after buffer_after → length answers ≡ 768 → (x : Unit {0}) → r.opened ≡ Ok x
      → (n : ℕ) → Opens img n → AllDigested kind img n (held sink).meaning (held sink_after).meaning
  all_digested img answers answered sink sink_after buffer buffer_after r run long x is n opens =
      let (m, also, count, tells) = all_told img answers answered sink sink_after buffer buffer_after r run long x is in
      let right = run.right n opens in
      let few : (view_of run.final).count ≡ n = right.count in
      let (rise, digests, total) = run.rise n opens in
      let es = run.played.events in
      let sum : rise ≡ counted es
      = rise_counted kind img n held 0 report_calls run.played.given es _ _ rise (rounds_none 256 (verdicts_from 1 256) (verdicts_none 1 256))
      (all_play img answers answered sink sink_after buffer buffer_after r run long) digests in (
        rise,
        subst (Total kind img n (files_to n)) (sym sum) (in_order kind img n n (counted es) (settles es) right.once (numbered kind img n [] es right.answers)
            (λ k q. let (s, f, w) = tells.each k q.0 (omega (arith, q.1, few)) in (right.exactly k q.0 q.1).1 (s, f)) right.total),
        total,
      )

  -- the answers of a run of these calls tell the verdicts of all files
  pub all_judged : (img : Bytes) (answers answered : List (Option Answer)) (sink sink_after : S) (buffer buffer_after : List ℕ) (r : Ran)
      → RunDone held kind img report_calls answers sink buffer r answered sink_after buffer_after → length answers ≡ 768 → (x : Unit {0}) → r.opened ≡ Ok x
      → (n : ℕ) × Opens img n × AllJudged kind img n (verdicts_in (drop 512 answered))
  all_judged img answers answered sink sink_after buffer buffer_after r run long x is =
      let given = run.played.given in
      let count = all_made img answers answered sink sink_after buffer buffer_after r run long in
      let (n, opens, same, tells) = all_told img answers answered sink sink_after buffer buffer_after r run long x is in
      let whole : answered ≡ map Some given
      = run.played.are ∙ (ap (λ (l : List (Option Answer)). map Some given ++ l) (drop_all r.count answers (omega (arith, count, long))) ∙ append-nil (map Some given)) in
      let front : drop 512 answered ≡ map Some (drop 512 given) = ap (λ (l : List (Option Answer)). drop 512 l) whole ∙ drop-map (λ (a : Answer). Some a) 512 given in (
        n,
        opens,
        subst (λ (l : List (Option Answer)). AllJudged kind img n (verdicts_in l)) (sym front) (record {
          many = omega (arith, tells.many, same);
          right = λ k f.
              let (s, e, w) = tells.each k f.0 (omega (arith, f.1, same)) in
              subst (VerdictRight kind (set_of img n) (file_path img k)) (sym w) ((run.right n opens).verdicts k s f.0 f.1 e);
        }),
      )

-- ---- what is written

no_answer : (n : ℕ) (e : Refusal) → ◌≡◌ {A = Result ℕ Refusal} (Ok n) (Err e) → ⊥
no_answer n e is = cc

not_open : Open view_none → ⊥
not_open o = cc

module _ {S : Type 0} {held : S → Held} {kind : Kind} {img : Bytes} {cs : List Call} {answers answered : List (Option Answer)} {sink sink_after : S}
    {buffer buffer_after : List ℕ} {ran : Ran} (run : RunDone held kind img cs answers sink buffer ran answered sink_after buffer_after) where
  module _ {f : Step} {h k : Held} {r : Result (Unit {0}) Full} where
    -- the image opened
    pub report_lines : {x : Unit {0}} → ran.opened ≡ Ok x → cs ≡ report_calls → length answers ≡ 768 → {front : List (Option Answer)} → front ≡ drop 512 answered
        → Writes f h (report_text (verdicts_in front)) r k → Reported f h kind img r k
    report_lines {x} is asked long {front} rest written =
        let all = subst (λ (cs : List Call). RunDone held kind img cs answers sink buffer ran answered sink_after buffer_after) asked run in
        let (n, opens, right) = all_judged held kind img answers answered sink sink_after buffer buffer_after ran all long x is in
        (report_text (verdicts_in (drop 512 answered)), judged n opens (verdicts_in (drop 512 answered)) right refl, as_text (ap (λ l. report_text (verdicts_in l)) rest) written)

    -- the image is refused
    pub report_refused : {e : OpenRefusal} → ran.opened ≡ Err e → Writes f h (refused_text (open_number e) (open_slot e)) r k → Reported f h kind img r k
    report_refused {e} is written =
        by_refusal e (subst (λ (o : Result (Unit {0}) OpenRefusal). OpensSet view_none img o (view_of run.first)) is run.opens).0 written
      where
        by_refusal : (e : OpenRefusal) → OpenRefused view_none img e → Writes f h (refused_text (open_number e) (open_slot e)) r k → Reported f h kind img r k
        by_refusal AlreadyOpen was written = absurd (not_open was)
        by_refusal (Image e) was written = (refused_text (open_number (Image e)) (open_slot (Image e)), refused e was.1 refl, written)

  -- what is digested where the image opened
  pub digest_sums : {x : Unit {0}} → ran.opened ≡ Ok x → cs ≡ report_calls → length answers ≡ 768
      → (n : ℕ) → Opens img n → AllDigested kind img n (held sink).meaning (held sink_after).meaning
  digest_sums {x} is asked long =
      all_digested held kind img answers answered sink sink_after buffer buffer_after ran
      (subst (λ (cs : List Call). RunDone held kind img cs answers sink buffer ran answered sink_after buffer_after) asked run) long x is

  -- an image that opens is not refused
  pub digest_refused : {e : OpenRefusal} → ran.opened ≡ Err e → (n : ℕ) → Opens img n → AllDigested kind img n (held sink).meaning (held sink_after).meaning
  digest_refused {e} is n opens = by_refusal e (subst (λ (o : Result (Unit {0}) OpenRefusal). OpensSet view_none img o (view_of run.first)) is run.opens).0
    where
      by_refusal : (e : OpenRefusal) → OpenRefused view_none img e → AllDigested kind img n (held sink).meaning (held sink_after).meaning
      by_refusal AlreadyOpen was = absurd (not_open was)
      by_refusal (Image f) was = absurd (no_answer n f (one_answer img (Ok n) (Err f) opens was.1))

  -- the digest sink stays where the image is refused
  pub digest_stays : {e : OpenRefusal} → ran.opened ≡ Err e → sink_after ≡ sink
  digest_stays {e} is = (run.closed e is).1

  -- an image that is refused does not open
  pub digest_opened : {x : Unit {0}} → ran.opened ≡ Ok x → (e : Refusal) → Refused img e → sink_after ≡ sink
  digest_opened is e was =
      let (n, opens, first) = (subst (λ (o : Result (Unit {0}) OpenRefusal). OpensSet view_none img o (view_of run.first)) is run.opens).1 in
      absurd (no_answer n e (one_answer img (Ok n) (Err e) opens was))
