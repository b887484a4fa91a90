-- A list of calls over one checker, one sink and one buffer as they stand in the code: which event each call and its answer are, and that a
-- refused one leaves all as it was.
-- Source: this project's own rule (docs/CALLS.md, "Runs").
use Rattle.std.specs.Prelude.{◌≡◌, ℕ, ◌+◌, ◌%◌, ◌^◌, List, [], ◌∷◌, ◌++◌, take, drop, length, min, map, Some, Ok, Err, Option}
use Rattle.std.specs.List.{AllByRecursion}
use Rattle.hash_modulo.specs.Sets.{Bytes}
use Rattle.image.specs.Opening.{Opens}
use Rattle.sink.specs.Write.{Held}
use Rattle.checker.specs.Calls.{Kind}
use Rattle.checker.specs.Events.{Event, took, settled, returned, told, located, rewritten, circled, lined, tailed, Refused, Stage, Happens}
use Rattle.checker.specs.Opened.{OpensSet}
use Rattle.checker.specs.Seen.{view_of, view_none}
use Rattle.checker.specs.Theorem.{Rise, Right}
use Rattle.checker.specs.declared.call.Answer.{Answer}
use Rattle.checker.specs.declared.call.Answer.TheVariants as answers
use Rattle.checker.specs.declared.call.Call.{Call}
use Rattle.checker.specs.declared.call.Call.TheVariants as calls
use Rattle.checker.specs.declared.call.Offer.{Offer}
use Rattle.checker.specs.declared.call.Offer.TheVariants.{LastTaken, File}
use Rattle.checker.specs.declared.call.Ran.{Ran}
use Rattle.checker.specs.declared.checker.Checker.{Checker}
use Rattle.checker.specs.declared.refused.CallRefusal.TheVariants.{NotOpened}
use Rattle.checker.specs.declared.refused.OpenRefusal.{OpenRefusal}

-- the file to which a visit is offered, where `last` was taken last, 0 before any
abbrev pub offered : ℕ → Offer → ℕ
offered last LastTaken = last
offered last (File k) = k

-- the file that was taken last, after one more call
abbrev pub last_taken : ℕ → Event → ℕ
last_taken last (took (Ok k)) = k
last_taken last (took (Err e)) = last
last_taken last (settled k r) = last
last_taken last (returned k r) = last
last_taken last (told k r) = last
last_taken last (located k j w out r) = last
last_taken last (rewritten k w out r) = last
last_taken last (circled r) = last
last_taken last (lined k w out r) = last
last_taken last (tailed w out r) = last

-- a call and its answer are this event, where `last` was taken last
abbrev pub Fits : ℕ → Call → Answer → Event → Type 0
Fits last c a (took r) = (c ≡ calls.Take) × (a ≡ answers.Taken r)
Fits last c a (settled k r) = (o : Offer) × (c ≡ calls.Settle o) × (k ≡ offered last o) × (a ≡ answers.Settled r)
Fits last c a (returned k r) = (o : Offer) × (c ≡ calls.PutBack o) × (k ≡ offered last o) × (a ≡ answers.PutBack r)
Fits last c a (told k r) = (c ≡ calls.Verdict k) × (a ≡ answers.Verdict r)
Fits last c a (located k j w out r) = (c ≡ calls.Path k j w) × (a ≡ answers.Written r)
Fits last c a (rewritten k w out r) = (c ≡ calls.Rewrite k w) × (a ≡ answers.Written r)
Fits last c a (circled r) = (c ≡ calls.Circle) × (a ≡ answers.Circle r)
Fits last c a (lined k w out r) = (c ≡ calls.Line k w) × (a ≡ answers.Written r)
Fits last c a (tailed w out r) = (c ≡ calls.Tail w) × (a ≡ answers.Written r)

-- the call is refused with 31: no set is opened
abbrev pub NotOpenedAt : Event → Type 0
NotOpenedAt (took r) = r ≡ Err NotOpened
NotOpenedAt (settled k r) = r ≡ Err NotOpened
NotOpenedAt (returned k r) = r ≡ Err NotOpened
NotOpenedAt (told k r) = r ≡ Err NotOpened
NotOpenedAt (located k j w out r) = r ≡ Err NotOpened
NotOpenedAt (rewritten k w out r) = r ≡ Err NotOpened
NotOpenedAt (circled r) = r ≡ Err NotOpened
NotOpenedAt (lined k w out r) = r ≡ Err NotOpened
NotOpenedAt (tailed w out r) = r ≡ Err NotOpened

module _ {S : Type 0} (held : S → Held) where
  -- the checker, the sink and the buffer between two calls
  pub record Values : Type 0 where
    pub checker : Checker
    pub sink : S
    pub buffer : List ℕ

  -- what they stand for
  abbrev pub stage : Values → Stage
  stage x = record { view = view_of x.checker; sink = (held x.sink).meaning; buffer = x.buffer }

  -- from one sink to the next the total rises by r, modulo 2 ^ 64
  abbrev pub RisesBy : ℕ → S → S → Type 0
  RisesBy r a b = (held b).meaning.total ≡ ((held a).meaning.total + r) % (2 ^ 64)

  -- What a call does to the sink: a settle raises its total by what it counts, and of a path that is written `Paths` says it. Every other call
  -- leaves the sink itself.
  abbrev pub SinkAfter : Event → S → S → Type 0
  SinkAfter (took r) a b = b ≡ a
  SinkAfter (settled k (Ok n)) a b = RisesBy n a b
  SinkAfter (settled k (Err e)) a b = b ≡ a
  SinkAfter (returned k r) a b = b ≡ a
  SinkAfter (told k r) a b = b ≡ a
  SinkAfter (located k j w out (Ok n)) a b = Unit {0}
  SinkAfter (located k j w out (Err e)) a b = b ≡ a
  SinkAfter (rewritten k w out r) a b = b ≡ a
  SinkAfter (circled r) a b = b ≡ a
  SinkAfter (lined k w out r) a b = b ≡ a
  SinkAfter (tailed w out r) a b = b ≡ a

  -- along these calls over an image with n files the total rises by as many bytes as they digest
  abbrev pub DigestsIn : Kind → Bytes → ℕ → List Event → S → S → Type 0
  DigestsIn kind img n es a b = (r : ℕ) × Rise kind img n es r × RisesBy r a b

  -- a call, its answer and the event that they are: it happens, and a refused one leaves all as it was
  pub record Turn (kind : Kind) (last : ℕ) (c : Call) (a : Answer) (e : Event) (x y : Values) : Type 0 where
    pub fits : Fits last c a e
    pub happens : Happens kind (stage x) e (stage y)
    pub same : Refused e → y ≡ x
    pub sink : SinkAfter e x.sink y.sink

  -- some event is that call with that answer, and `next` is the file that was taken last after it
  pub record Turned (kind : Kind) (last : ℕ) (c : Call) (a : Answer) (x : Values) (next : ℕ) (y : Values) : Type 0 where
    pub event : Event
    pub turn : Turn kind last c a event x y
    pub taken_last : next ≡ last_taken last event

  -- the calls are made in turn, each with its answer and its event
  abbrev pub Plays : Kind → ℕ → List Call → List Answer → List Event → Values → Values → Type 0
  Plays kind last [] [] [] x z = z ≡ x
  Plays kind last [] [] (e ∷ es) x z = ⊥
  Plays kind last [] (a ∷ bs) es x z = ⊥
  Plays kind last (c ∷ cs) [] es x z = ⊥
  Plays kind last (c ∷ cs) (a ∷ bs) [] x z = ⊥
  Plays kind last (c ∷ cs) (a ∷ bs) (e ∷ es) x z = (y : Values) × Turn kind last c a e x y × Plays kind (last_taken last e) cs bs es y z

  -- As many of the calls are made as there is room for answers; later answers stay.
  pub record Played (kind : Kind) (calls : List Call) (answers : List (Option Answer)) (x : Values) (count : ℕ) (answered : List (Option Answer)) (z : Values) : Type 0 where
    pub is : count ≡ min (length calls) (length answers)
    pub given : List Answer
    pub events : List Event
    pub plays : Plays kind 0 (take count calls) given events x z
    pub are : answered ≡ map Some given ++ drop count answers

  -- What a run over an image does: it opens a checker, and plays the calls. Where the image does not open, every call is refused with 31, and
  -- the sink and the buffer stay. Where it opens, every answer that is no refusal is the definition's, and the sink's total rises by what is
  -- digested.
  pub record RunDone (kind : Kind) (img : List ℕ) (calls : List Call) (answers : List (Option Answer)) (sink : S) (buffer : List ℕ)
      (r : Ran) (answered : List (Option Answer)) (sink_after : S) (buffer_after : List ℕ) : Type 0 where
    pub first : Checker
    pub opens : OpensSet view_none img r.opened (view_of first)
    pub final : Checker
    pub played : Played kind calls answers (record { checker = first; sink = sink; buffer = buffer }) r.count answered
        (record { checker = final; sink = sink_after; buffer = buffer_after })
    pub closed : (e : OpenRefusal) → r.opened ≡ Err e → AllByRecursion NotOpenedAt played.events × (sink_after ≡ sink) × (buffer_after ≡ buffer)
    pub right : (n : ℕ) → Opens img n → Right kind img n played.events (view_of final)
    pub rise : (n : ℕ) → Opens img n → DigestsIn kind img n played.events sink sink_after
