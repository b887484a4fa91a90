-- Lists of calls over one checker: what one call leaves of it the next finds. In a run one sink and one buffer go from call to call as well.
-- Source: this project's own rule (docs/CALLS.md, "Runs").
use Rattle.std.specs.Prelude.{◌≡◌, ℕ, ◌+◌, List, [], ◌∷◌, ◌++◌, take, drop, Option, Result}
use Rattle.std.specs.Result.{IsErr}
use Rattle.sink.specs.Write as sinks
use Rattle.verdict.specs.Verdicts.{Verdict}
use Rattle.checker.specs.Calls.{Kind, Takes, Settles, PutsBack, Tells, Lines, Tails, Rewrites, Paths, Circles}
use Rattle.checker.specs.Views.{View}
use Rattle.checker.specs.declared.call.Window.{Window}
use Rattle.checker.specs.declared.refused.CallRefusal.{CallRefusal}

-- the part of a buffer that a window lends
abbrev pub part : Window → List ℕ → List ℕ
part w buffer = take w.size (drop w.from buffer)

-- the buffer with other bytes in that part
abbrev pub patched : Window → List ℕ → List ℕ → List ℕ
patched w buffer out = take w.from buffer ++ (out ++ drop (w.from + w.size) buffer)

-- a call with its arguments and its answer; a settle or a put back offers a visit to a file, and a call that writes comes with what it left
-- in its part of the buffer
pub data Event : Type 0 where
  took : Result ℕ CallRefusal → Event
  settled : (k : ℕ) → Result ℕ CallRefusal → Event
  returned : (k : ℕ) → Result (Unit {0}) CallRefusal → Event
  told : (k : ℕ) → Result (Option Verdict) CallRefusal → Event
  located : (k j : ℕ) → Window → (out : List ℕ) → Result ℕ CallRefusal → Event
  rewritten : (k : ℕ) → Window → (out : List ℕ) → Result ℕ CallRefusal → Event
  circled : Result ℕ CallRefusal → Event
  lined : (k : ℕ) → Window → (out : List ℕ) → Result ℕ CallRefusal → Event
  tailed : Window → (out : List ℕ) → Result ℕ CallRefusal → Event

-- the call was refused
abbrev pub Refused : Event → Type 0
Refused (took r) = IsErr r
Refused (settled k r) = IsErr r
Refused (returned k r) = IsErr r
Refused (told k r) = IsErr r
Refused (located k j w out r) = IsErr r
Refused (rewritten k w out r) = IsErr r
Refused (circled r) = IsErr r
Refused (lined k w out r) = IsErr r
Refused (tailed w out r) = IsErr r

-- a call with its arguments and without its answer
pub data Request : Type 0 where
  taking : Request
  settling : (k : ℕ) → Request
  returning : (k : ℕ) → Request
  telling : (k : ℕ) → Request
  locating : (k j : ℕ) → Window → Request
  rewriting : (k : ℕ) → Window → Request
  circling : Request
  lining : (k : ℕ) → Window → Request
  tailing : Window → Request

abbrev pub asked : Event → Request
asked (took r) = taking
asked (settled k r) = settling k
asked (returned k r) = returning k
asked (told k r) = telling k
asked (located k j w out r) = locating k j w
asked (rewritten k w out r) = rewriting k w
asked (circled r) = circling
asked (lined k w out r) = lining k w
asked (tailed w out r) = tailing w

-- the checker, the sink and the buffer between two calls
pub record Stage : Type 0 where
  pub view : View
  pub sink : sinks.Meaning
  pub buffer : List ℕ

-- the call leaves all but the view as it was
pub record Moves (s : Stage) (w : View) (t : Stage) : Type 0 where
  pub view : t.view ≡ w
  pub sink : t.sink ≡ s.sink
  pub buffer : t.buffer ≡ s.buffer

-- the call leaves all but a part of the buffer as it was
pub record Writes (s : Stage) (w : Window) (out : List ℕ) (t : Stage) : Type 0 where
  pub view : t.view ≡ s.view
  pub sink : t.sink ≡ s.sink
  pub buffer : t.buffer ≡ patched w s.buffer out

-- each event meets the relation of its call
abbrev pub Happens : Kind → Stage → Event → Stage → Type 0
Happens kind s (took r) t = Takes s.view r t.view × Moves s t.view t
Happens kind s (settled k r) t = Settles kind s.view k s.sink r t.view t.sink × (t.buffer ≡ s.buffer)
Happens kind s (returned k r) t = PutsBack s.view k r t.view × Moves s t.view t
Happens kind s (told k r) t = Tells s.view k r × (t ≡ s)
Happens kind s (located k j w out r) t =
    Paths kind s.view k j (part w s.buffer) s.sink r out t.sink × (t.view ≡ s.view) × (t.buffer ≡ patched w s.buffer out)
Happens kind s (rewritten k w out r) t = Rewrites s.view k (part w s.buffer) r out × Writes s w out t
Happens kind s (circled r) t = Circles s.view r × (t ≡ s)
Happens kind s (lined k w out r) t = Lines s.view k (part w s.buffer) r out × Writes s w out t
Happens kind s (tailed w out r) t = Tails s.view (part w s.buffer) r out × Writes s w out t

-- a list of calls leads from one stage to another
abbrev pub Runs : Kind → Stage → List Event → Stage → Type 0
Runs kind s [] t = t ≡ s
Runs kind s (e ∷ es) t = (u : Stage) × Happens kind s e u × Runs kind u es t

-- a list of calls leads from one view to another, whatever sink of the kind and whatever buffer each call is lent
abbrev pub Leads : Kind → View → List Event → View → Type 0
Leads kind v [] w = w ≡ v
Leads kind v (e ∷ es) w = (s : Stage) × (s.view ≡ v) × (t : Stage) × Happens kind s e t × Leads kind t.view es w
