-- A list of calls of a run, one more call at a time; and that it is a run of their events.
use Rattle.std.proofs.Common.{◌≡◌, ℕ, suc, ◌+◌, ◌^◌, ◌<◌, min, List, [], ◌∷◌, ◌++◌, length, get_or, take, drop, set, map, Some, Ok, Err, Option, Result, sym, refl, ap, ◌∙◌, subst, arith}
use Rattle.std.specs.List.{AllByRecursion}
use Rattle.std.proofs.lemmas.List.{take_more, drop_more, length-take-le, length-map, set_at, map_push, append_assoc}
use Rattle.hash_modulo.specs.Sets.{Bytes}
use Rattle.image.specs.Opening.{Opens}
use Rattle.image.proofs.Answers.{one_answer}
use Rattle.sink.specs.Write.{Held}
use Rattle.checker.specs.Calls.{Kind}
use Rattle.checker.specs.Events.{Event, Runs}
use Rattle.checker.specs.Opened.{OpensSet}
use Rattle.checker.specs.Playing.{NotOpenedAt, last_taken, Values, stage, DigestsIn, Turn, Turned, Plays, Played, RunDone}
use Rattle.checker.specs.Seen.{view_of, view_none}
use Rattle.checker.specs.Soundness.{SoundView}
use Rattle.checker.specs.Theorem.{Right}
use Rattle.checker.specs.Views.{View, fresh}
use Rattle.checker.specs.declared.call.Answer.{Answer}
use Rattle.checker.specs.declared.call.Call.{Call}
use Rattle.checker.specs.declared.checker.Checker.{Checker}
use Rattle.checker.specs.declared.refused.OpenRefusal.{OpenRefusal}
use Rattle.checker.specs.declared.refused.OpenRefusal.TheVariants.{AlreadyOpen, Image}
use Rattle.checker.proofs.Closed.{closed_plays, not_open}
use Rattle.checker.proofs.Keeping.{none_sound, fresh_sound}
use Rattle.checker.proofs.Rising.{totals_rise}
use Rattle.checker.proofs.Steps.{sound_steps}
use Rattle.checker.proofs.Telling.{run_theorem}

-- the file that was taken last after these events
abbrev pub last_after : ℕ → List Event → ℕ
last_after last [] = last
last_after last (e ∷ es) = last_after (last_taken last e) es

module _ {S : Type 0} (held : S → Held) (kind : Kind) where
  -- one more turn
  plays_more : (last : ℕ) (cs : List Call) (bs : List Answer) (es : List Event) (x y z : Values held) (c : Call) (a : Answer) (e : Event)
      → Plays held kind last cs bs es x y → Turn held kind (last_after last es) c a e y z
      → Plays held kind last (cs ++ c ∷ []) (bs ++ a ∷ []) (es ++ e ∷ []) x z
  plays_more last [] [] [] x y z c a e same t = (z, subst (λ (w : Values held). Turn held kind last c a e w z) same t, refl)
  plays_more last [] [] (f ∷ es) x y z c a e p t = absurd p
  plays_more last [] (b ∷ bs) es x y z c a e p t = absurd p
  plays_more last (d ∷ cs) [] es x y z c a e p t = absurd p
  plays_more last (d ∷ cs) (b ∷ bs) [] x y z c a e p t = absurd p
  plays_more last (d ∷ cs) (b ∷ bs) (f ∷ es) x y z c a e (w, first, p) t = (w, first, plays_more (last_taken last f) cs bs es w y z c a e p t)

  -- as many answers as calls
  plays_length : (last : ℕ) (cs : List Call) (bs : List Answer) (es : List Event) (x z : Values held) → Plays held kind last cs bs es x z → length bs ≡ length cs
  plays_length last [] [] [] x z p = refl
  plays_length last [] [] (f ∷ es) x z p = absurd p
  plays_length last [] (b ∷ bs) es x z p = absurd p
  plays_length last (d ∷ cs) [] es x z p = absurd p
  plays_length last (d ∷ cs) (b ∷ bs) [] x z p = absurd p
  plays_length last (d ∷ cs) (b ∷ bs) (f ∷ es) x z (w, first, p) = ap suc (plays_length (last_taken last f) cs bs es w z p)

  last_more : (last : ℕ) (es : List Event) (e : Event) → last_after last (es ++ e ∷ []) ≡ last_taken (last_after last es) e
  last_more last [] e = refl
  last_more last (f ∷ es) e = last_more (last_taken last f) es e

  -- the events are those of a run
  plays_runs : (last : ℕ) (cs : List Call) (bs : List Answer) (es : List Event) (x z : Values held) → Plays held kind last cs bs es x z
      → Runs kind (stage held x) es (stage held z)
  plays_runs last [] [] [] x z p = ap (stage held) p
  plays_runs last [] [] (f ∷ es) x z p = absurd p
  plays_runs last [] (b ∷ bs) es x z p = absurd p
  plays_runs last (d ∷ cs) [] es x z p = absurd p
  plays_runs last (d ∷ cs) (b ∷ bs) [] x z p = absurd p
  plays_runs last (d ∷ cs) (b ∷ bs) (f ∷ es) x z (w, first, p) = (stage held w, first.happens, plays_runs (last_taken last f) cs bs es w z p)

  -- what holds after the first i turns
  pub record SoFar (calls : List Call) (answers : List (Option Answer)) (x : Values held) (i last : ℕ) (answered : List (Option Answer)) (z : Values held) : Type 0 where
    pub given : List Answer
    pub events : List Event
    pub plays : Plays held kind 0 (take i calls) given events x z
    pub taken_last : last ≡ last_after 0 events
    pub are : answered ≡ map Some given ++ drop i answers
    pub sound : SoundView kind (view_of z.checker)

  pub none_so_far : (calls : List Call) (answers : List (Option Answer)) (x : Values held) → SoundView kind (view_of x.checker) → SoFar calls answers x 0 0 answers x
  none_so_far calls answers x sound = record { given = []; events = []; plays = refl; taken_last = refl; are = refl; sound = sound }

  answered_more : (given : List Answer) (answers answered : List (Option Answer)) (i : ℕ) (a : Answer) → i < length answers → length given ≡ i
      → answered ≡ map Some given ++ drop i answers → set answered i (Some a) ≡ map Some (given ++ a ∷ []) ++ drop (i + 1) answers
  answered_more given answers answered i a low long e =
      ap (λ (l : List (Option Answer)). set l i (Some a)) (e ∙ ap (λ (l : List (Option Answer)). map Some given ++ l) (drop_more answers i (Some a) low))
      ∙ set_at (map Some given) (get_or answers i (Some a)) (drop (i + 1) answers) (Some a) i (length-map given Some ∙ long)
      ∙ sym (append_assoc (map Some given) (Some a ∷ []) (drop (i + 1) answers))
      ∙ ap (λ (l : List (Option Answer)). l ++ drop (i + 1) answers) (sym (map_push Some given a))

  pub one_more : (calls : List Call) (answers : List (Option Answer)) (x : Values held) (i last : ℕ) (answered : List (Option Answer)) (y : Values held) (c : Call) (a : Answer) (next : ℕ) (z : Values held)
      → i < length calls → i < length answers → c ≡ get_or calls i c → SoFar calls answers x i last answered y → (SoundView kind (view_of y.checker) → Turned held kind last c a y next z)
      → SoFar calls answers x (i + 1) next (set answered i (Some a)) z
  one_more calls answers x i last answered y c a next z low room is s turned = record {
    given = s.given ++ a ∷ [];
    events = s.events ++ t.event ∷ [];
    plays = subst (λ (cs : List Call). Plays held kind 0 cs (s.given ++ a ∷ []) (s.events ++ t.event ∷ []) x z)
        (ap (λ (d : Call). take i calls ++ d ∷ []) is ∙ sym (take_more calls i c low))
        (plays_more 0 (take i calls) s.given s.events x y z c a t.event s.plays (subst (λ (n : ℕ). Turn held kind n c a t.event y z) s.taken_last t.turn));
    taken_last = t.taken_last ∙ ap (λ (n : ℕ). last_taken n t.event) s.taken_last ∙ sym (last_more 0 s.events t.event);
    are = answered_more s.given answers answered i a room (plays_length 0 (take i calls) s.given s.events x y s.plays ∙ length-take-le i calls (omega (arith, low))) s.are;
    sound = sound_steps kind (stage held y) (stage held z) t.event s.sound t.turn.happens;
  }
    where
      t : Turned held kind last c a y next z
      t = turned s.sound

  pub played : (calls : List Call) (answers : List (Option Answer)) (x : Values held) (i last n : ℕ) (answered : List (Option Answer)) (z : Values held) → i ≡ n → n ≡ min (length calls) (length answers)
      → SoFar calls answers x i last answered z → Played held kind calls answers x n answered z
  played calls answers x i last n answered z e is s = record {
    is = is;
    given = s.given;
    events = s.events;
    plays = subst (λ (m : ℕ). Plays held kind 0 (take m calls) s.given s.events x z) e s.plays;
    are = s.are ∙ ap (λ (m : ℕ). map Some s.given ++ drop m answers) e;
  }

  -- ---- from a checker that was opened, or not

  pub first_sound : (img : Bytes) (r : Result (Unit {0}) OpenRefusal) (v : View) → OpensSet view_none img r v → SoundView kind v
  first_sound img (Ok u) v (q, (n, o, e)) = subst (SoundView kind) (sym e) (fresh_sound kind img n)
  first_sound img (Err f) v (q, e) = none_sound kind v e

  is_fresh : (img : Bytes) (r : Result (Unit {0}) OpenRefusal) (v : View) → OpensSet view_none img r v → (n : ℕ) → Opens img n → v ≡ fresh img n
  is_fresh img (Ok u) v (q, (m, o, e)) n opens = e ∙ ap (fresh img) (let same = one_answer img (Ok m) (Ok n) o opens in cc)
  is_fresh img (Err (Image f)) v ((q, r), e) n opens = absurd (let same = one_answer img (Err f) (Ok n) r opens in cc)
  is_fresh img (Err AlreadyOpen) v (o, e) n opens = absurd (cc)

  -- a run from a newly opened checker on
  fresh_runs : (img : Bytes) (r : Result (Unit {0}) OpenRefusal) (calls : List Call) (answers answered : List (Option Answer)) (count : ℕ) (x z : Values held)
      → OpensSet view_none img r (view_of x.checker) → (p : Played held kind calls answers x count answered z) → (n : ℕ) → Opens img n
      → Runs kind (record { view = fresh img n; sink = (held x.sink).meaning; buffer = x.buffer }) p.events (stage held z)
  fresh_runs img r calls answers answered count x z o p n opens =
      subst (λ (v : View). Runs kind (record { view = v; sink = (held x.sink).meaning; buffer = x.buffer }) p.events (stage held z)) (is_fresh img r (view_of x.checker) o n opens)
      (plays_runs 0 (take count calls) p.given p.events x z p.plays)

  rise_run : (img : Bytes) (r : Result (Unit {0}) OpenRefusal) (calls : List Call) (answers answered : List (Option Answer)) (count : ℕ) (x z : Values held)
      → (held x.sink).meaning.total < 2 ^ 64 → OpensSet view_none img r (view_of x.checker) → (p : Played held kind calls answers x count answered z)
      → (n : ℕ) → Opens img n → DigestsIn held kind img n p.events x.sink z.sink
  rise_run img r calls answers answered count x z low o p n opens =
      totals_rise kind (record { view = fresh img n; sink = (held x.sink).meaning; buffer = x.buffer }) (stage held z) p.events low
      (fresh_runs img r calls answers answered count x z o p n opens)

  pub right_run : (img : Bytes) (r : Result (Unit {0}) OpenRefusal) (calls : List Call) (answers answered : List (Option Answer)) (count : ℕ) (x z : Values held)
      → OpensSet view_none img r (view_of x.checker) → (p : Played held kind calls answers x count answered z)
      → (n : ℕ) → Opens img n → Right kind img n p.events (view_of z.checker)
  right_run img r calls answers answered count x z o p n opens =
      run_theorem kind img n opens (held x.sink).meaning x.buffer p.events (stage held z) (fresh_runs img r calls answers answered count x z o p n opens)

  -- a run, from what opening answered and what was played then
  pub run_done : (img : Bytes) (calls : List Call) (answers answered : List (Option Answer)) (sink after : S) (buffer rest : List ℕ) (r : Result (Unit {0}) OpenRefusal) (count : ℕ)
      (blank first final : Checker) → ((s : S) → (held s).meaning.total < 2 ^ 64) → view_of blank ≡ view_none → OpensSet (view_of blank) img r (view_of first)
      → (SoundView kind (view_of first)
      → Played held kind calls answers (record { checker = first; sink = sink; buffer = buffer }) count answered (record { checker = final; sink = after; buffer = rest }))
      → RunDone held kind img calls answers sink buffer (record { opened = r; count = count }) answered after rest
  run_done img calls answers answered sink after buffer rest r count blank first final wraps none o p = record {
    first = first;
    opens = opens;
    final = final;
    played = all;
    closed = λ e q. stays all.events (closed_plays held kind 0 (take count calls) all.given all.events before behind (not_open img r e (view_of first) q opens) all.plays);
    right = right_run img r calls answers answered count before behind opens all;
    rise = rise_run img r calls answers answered count before behind (wraps sink) opens all;
  }
    where
      before : Values held
      before = record { checker = first; sink = sink; buffer = buffer }

      behind : Values held
      behind = record { checker = final; sink = after; buffer = rest }

      stays : (es : List Event) → AllByRecursion NotOpenedAt es × (behind ≡ before) → AllByRecursion NotOpenedAt es × (after ≡ sink) × (rest ≡ buffer)
      stays es (n, e) = (n, ap (λ (x : Values held). x.sink) e, ap (λ (x : Values held). x.buffer) e)

      opens : OpensSet view_none img r (view_of first)
      opens = subst (λ (v : View). OpensSet v img r (view_of first)) none o

      all : Played held kind calls answers (record { checker = first; sink = sink; buffer = buffer }) count answered (record { checker = final; sink = after; buffer = rest })
      all = p (first_sound img r (view_of first) opens)
