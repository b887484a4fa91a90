-- What holds of every list of calls from a newly opened checker on, for every kind of digest sink and every image that opens.
-- Source: this project's own rule (docs/PROMISES.md, "Runs").
use Rattle.std.specs.Prelude.{◌≡◌, ℕ, suc, ◌+◌, ◌%◌, ◌^◌, ◌<◌, ◌≤◌, true, ◌⊎◌, List, [], ◌∷◌, ◌++◌, length, map, take, drop, Some, None, Ok, Err, Option, Result}
use Rattle.std.specs.List.{AllByRecursion}
use Rattle.canonical.specs.Meanings.{Meaning, canonical}
use Rattle.canonical.specs.Order.{Member}
use Rattle.hash_modulo.specs.Hashes.{Hashed}
use Rattle.hash_modulo.specs.Laws.{Iff}
use Rattle.hash_modulo.specs.Sets.{Bytes, Files, Means, Readable, Rests, Hashable}
use Rattle.hash_modulo.specs.Strings.{all_lengths, Digested, RightPath}
use Rattle.image.specs.Layout.{file_path, file_text}
use Rattle.image.specs.Opening.{Opens}
use Rattle.links.specs.Sets.{set_of}
use Rattle.report.specs.Texts.{line_text, tail_text}
use Rattle.sink.specs.Write as sinks
use Rattle.verdict.specs.Judged.{Judged}
use Rattle.verdict.specs.Laws.{Sound, BothUnhashed}
use Rattle.verdict.specs.declared.fault.Fault.TheVariants.{NotCanonical}
use Rattle.verdict.specs.Verdicts.{Verdict}
use Rattle.checker.specs.Calls.{Kind, D, MaskedHash, PathStrings, Takes, Settles, PutsBack, Tells, Lines, Tails, Rewrites, Paths, Circles, shown}
use Rattle.checker.specs.Events.{part, Event, took, settled, returned, told, located, rewritten, circled, lined, tailed, Refused, Request, asked, Stage, Happens, Runs, Leads}
use Rattle.checker.specs.Opened.{SomeOpening, OneOpening}
use Rattle.checker.specs.Soundness.{SoundView}
use Rattle.checker.specs.Views.{View, fresh, files, path_at, Exists, TakenAt, HashedAt}
use Rattle.checker.specs.declared.call.Window.{Window}
use Rattle.checker.specs.declared.refused.CallRefusal.{CallRefusal}
use Rattle.checker.specs.declared.refused.CallRefusal.TheVariants.{NonePending, NotRead}
use Rattle.checker.specs.declared.state.Hashes.{Hashes}
use Rattle.checker.specs.declared.state.Settlement.{Settlement}
use Rattle.checker.specs.declared.state.State.{State}
use Rattle.checker.specs.declared.state.State.TheVariants.{Pending, Taken, Settled}

-- ---- verdicts, paths, texts

-- w is the verdict of the file at p by the definition, and accepted exactly where the three things hold
pub record VerdictRight (kind : Kind) (set : Files) (p : Bytes) (w : Verdict) : Type 0 where
  pub judged : Judged set (D kind) p w
  pub accepted : Iff (w ≡ Ok tt) (Sound set (D kind) p)

-- n is the number of bytes of the strings that are digested for the file at p, 0 where it has no hash
pub data CountRight (kind : Kind) (set : Files) (p : Bytes) (n : ℕ) : Type 0 where
  hashed : (ss : List Bytes) → Digested set (D kind) p ss → n ≡ all_lengths ss → CountRight kind set p n
  unhashed : (Hashable set p → ⊥) → n ≡ 0 → CountRight kind set p n

-- ---- settles

-- the files that were settled, in the order of their settles, and the counts of those settles added up
abbrev pub settles : List Event → List ℕ
settles [] = []
settles (took r ∷ es) = settles es
settles (settled k (Ok n) ∷ es) = k ∷ settles es
settles (settled k (Err e) ∷ es) = settles es
settles (returned k r ∷ es) = settles es
settles (told k r ∷ es) = settles es
settles (located k j w out r ∷ es) = settles es
settles (rewritten k w out r ∷ es) = settles es
settles (circled r ∷ es) = settles es
settles (lined k w out r ∷ es) = settles es
settles (tailed w out r ∷ es) = settles es

abbrev pub counted : List Event → ℕ
counted [] = 0
counted (took r ∷ es) = counted es
counted (settled k (Ok n) ∷ es) = n + counted es
counted (settled k (Err e) ∷ es) = counted es
counted (returned k r ∷ es) = counted es
counted (told k r ∷ es) = counted es
counted (located k j w out r ∷ es) = counted es
counted (rewritten k w out r ∷ es) = counted es
counted (circled r ∷ es) = counted es
counted (lined k w out r ∷ es) = counted es
counted (tailed w out r ∷ es) = counted es

-- ---- phases

-- the call hands the file k out
abbrev pub HandsOut : ℕ → Event → Type 0
HandsOut k (took (Ok j)) = j ≡ k
HandsOut k (took (Err e)) = ⊥
HandsOut k (settled j r) = ⊥
HandsOut k (returned j r) = ⊥
HandsOut k (told j r) = ⊥
HandsOut k (located j i w out r) = ⊥
HandsOut k (rewritten j w out r) = ⊥
HandsOut k (circled r) = ⊥
HandsOut k (lined j w out r) = ⊥
HandsOut k (tailed w out r) = ⊥

-- the call ends a visit to the file k: it settles it or puts it back
abbrev pub Ends : ℕ → Event → Type 0
Ends k (took r) = ⊥
Ends k (settled j (Ok count)) = j ≡ k
Ends k (settled j (Err e)) = ⊥
Ends k (returned j (Ok u)) = j ≡ k
Ends k (returned j (Err e)) = ⊥
Ends k (told j r) = ⊥
Ends k (located j i w out r) = ⊥
Ends k (rewritten j w out r) = ⊥
Ends k (circled r) = ⊥
Ends k (lined j w out r) = ⊥
Ends k (tailed w out r) = ⊥

-- no call ends a visit to the file k
abbrev pub NoneEnds : ℕ → List Event → Type 0
NoneEnds k = AllByRecursion (λ e. Ends k e → ⊥)

-- the file k is out after these calls: one hands it out, and none after that one ends the visit
abbrev pub OutAfter : ℕ → List Event → Type 0
OutAfter k [] = ⊥
OutAfter k (e ∷ es) = (HandsOut k e × NoneEnds k es) ⊎ OutAfter k es

-- a state of the file k that fits these calls: settled where one settled it, taken where it is out, and pending where neither is so
abbrev pub PhaseRight : List Event → ℕ → State → Type 0
PhaseRight es k Pending = (Member k (settles es) → ⊥) × (OutAfter k es → ⊥)
PhaseRight es k Taken = (Member k (settles es) → ⊥) × OutAfter k es
PhaseRight es k (Settled s) = Member k (settles es) × (OutAfter k es → ⊥)

-- ---- answers

-- k is the number of one of n files
abbrev pub Numbered : ℕ → ℕ → Type 0
Numbered n k = (1 ≤ k) × (k ≤ n)

-- what is told of the file k after these calls: nothing before it is settled, and a right verdict from then on
abbrev pub ToldRight : Kind → Bytes → ℕ → List Event → ℕ → Option Verdict → Type 0
ToldRight kind img n before k None = Member k (settles before) → ⊥
ToldRight kind img n before k (Some w) = Member k (settles before) × VerdictRight kind (set_of img n) (file_path img k) w

-- the call left the text at the start of its part of the buffer, and answered its length
abbrev pub Wrote : List ℕ → List ℕ → ℕ → Type 0
Wrote text out count = (count ≡ length text) × (take count out ≡ text)

-- the file k is settled by these calls, and the three things hold by which a file is accepted
abbrev pub AcceptedBy : Kind → Bytes → ℕ → List Event → ℕ → Type 0
AcceptedBy kind img n before k = Member k (settles before) × Sound (set_of img n) (D kind) (file_path img k)

-- of the first m files, a are accepted by then
pub data HowMany (kind : Kind) (img : Bytes) (n : ℕ) (before : List Event) : (m a : ℕ) → Type 0 where
  no_files : HowMany kind img n before 0 0
  one_more : {m a : ℕ} → AcceptedBy kind img n before (suc m) → HowMany kind img n before m a → HowMany kind img n before (suc m) (suc a)
  no_more : {m a : ℕ} → (AcceptedBy kind img n before (suc m) → ⊥) → HowMany kind img n before m a → HowMany kind img n before (suc m) a

-- c is 0 and no file rests on itself, or c is a file that does
abbrev pub CircleRight : Bytes → ℕ → ℕ → Type 0
CircleRight img n c =
    ((c ≡ 0) × ((p : Bytes) → Rests (set_of img n) p p → ⊥)) ⊎ (Numbered n c × Rests (set_of img n) (file_path img c) (file_path img c))

-- what an answer says of the files of an image with n files after the calls before it, in the terms of the definition. Of refusals 33 alone:
-- every file is settled.
abbrev pub EventRight : Kind → Bytes → ℕ → List Event → Event → Type 0
EventRight kind img n before (took (Ok k)) = Numbered n k × (Member k (settles before) → ⊥)
EventRight kind img n before (took (Err e)) = e ≡ NonePending → (k : ℕ) → Numbered n k → Member k (settles before)
EventRight kind img n before (settled k (Ok count)) = Numbered n k × (Member k (settles before) → ⊥) × CountRight kind (set_of img n) (file_path img k) count
EventRight kind img n before (settled k (Err e)) = Unit {0}
EventRight kind img n before (returned k (Ok u)) = Numbered n k × (Member k (settles before) → ⊥)
EventRight kind img n before (returned k (Err e)) = Unit {0}
EventRight kind img n before (told k (Ok o)) = Numbered n k × ToldRight kind img n before k o
EventRight kind img n before (told k (Err e)) = Unit {0}
EventRight kind img n before (located k j w out (Ok count)) =
    Numbered n k × Member k (settles before) × (q : Bytes) × RightPath (set_of img n) (D kind) (file_path img k) j q × Wrote q out count
EventRight kind img n before (located k j w out (Err e)) = Unit {0}
EventRight kind img n before (rewritten k w out (Ok count)) =
    Numbered n k × (m : Meaning) × Means (set_of img n) (file_path img k) m × Wrote (canonical m) out count
EventRight kind img n before (rewritten k w out (Err e)) = Unit {0}
EventRight kind img n before (circled (Ok c)) = CircleRight img n c
EventRight kind img n before (circled (Err e)) = Unit {0}
EventRight kind img n before (lined k w out (Ok count)) =
    Numbered n k × (o : Option Verdict) × ToldRight kind img n before k o × Wrote (line_text k (shown o)) out count
EventRight kind img n before (lined k w out (Err e)) = Unit {0}
EventRight kind img n before (tailed w out (Ok count)) = (a : ℕ) × HowMany kind img n before n a × Wrote (tail_text n a) out count
EventRight kind img n before (tailed w out (Err e)) = Unit {0}

-- each answer is right after the calls before it
abbrev pub AnswersRight : Kind → Bytes → ℕ → List Event → List Event → Type 0
AnswersRight kind img n before [] = Unit {0}
AnswersRight kind img n before (e ∷ es) = EventRight kind img n before e × AnswersRight kind img n (before ++ (e ∷ [])) es

-- ---- sums

-- total is the sum of the counts that are right for these files
abbrev pub Total : Kind → Bytes → ℕ → List ℕ → ℕ → Type 0
Total kind img n [] total = total ≡ 0
Total kind img n (k ∷ ks) total = (a : ℕ) × (b : ℕ) × CountRight kind (set_of img n) (file_path img k) a × Total kind img n ks b × (total ≡ a + b)

abbrev pub Distinct : List ℕ → Type 0
Distinct [] = Unit {0}
Distinct (k ∷ ks) = (Member k ks → ⊥) × Distinct ks

-- ---- the main theorem: a list of calls from a newly opened checker on

-- what holds of the calls' answers, and of the view that they leave
pub record Right (kind : Kind) (img : Bytes) (n : ℕ) (es : List Event) (w : View) : Type 0 where
  -- every answer that is no refusal is the definition's, and none is pending where 33 is answered
  pub answers : AnswersRight kind img n [] es
  -- the image stays, and every settled file has the definition's verdict and hashes
  pub opened : w.opened ≡ true
  pub image : w.image ≡ img
  pub count : w.count ≡ n
  pub verdicts : (k : ℕ) (s : Settlement) → 1 ≤ k → k ≤ n → w.row k ≡ Settled s → VerdictRight kind (set_of img n) (file_path img k) s.verdict
  pub hashes : (k : ℕ) (s : Settlement) → 1 ≤ k → k ≤ n → w.row k ≡ Settled s
      → Iff ((h : Hashes) × (s.hashes ≡ Some h)) (Hashable (set_of img n) (file_path img k))
  pub are : (k : ℕ) (s : Settlement) (h : Hashes) → 1 ≤ k → k ≤ n → w.row k ≡ Settled s → s.hashes ≡ Some h
      → Hashed (set_of img n) (D kind) (file_path img k) h.hash.bytes × MaskedHash (set_of img n) (D kind) (file_path img k) h.masked
  -- the settled files are those of the settles that were not refused, and the counts add up; no file is settled twice
  pub exactly : (k : ℕ) → 1 ≤ k → k ≤ n → Iff (Member k (settles es)) ((s : Settlement) × (w.row k ≡ Settled s))
  pub once : Distinct (settles es)
  pub total : Total kind img n (settles es) (counted es)
  -- whether a file is pending, taken or settled follows from these calls alone
  pub phases : (k : ℕ) → 1 ≤ k → k ≤ n → PhaseRight es k (w.row k)
  -- at most one visit is out
  pub one : (j k : ℕ) → TakenAt w j → TakenAt w k → j ≡ k
  -- and what the next call needs is so: above all, a taken file is ready, or no file that is not settled is; and the inputs of each file settled
  -- with a hash are settled with one
  pub sound : SoundView kind w

-- of every list of calls, one by one: between two of them the client may do as it likes with its sink and its buffer, or lend others of the kind
abbrev pub ClientTheorem : Type 0
ClientTheorem = (kind : Kind) (img : Bytes) (n : ℕ) → Opens img n → (es : List Event) (w : View) → Leads kind (fresh img n) es w → Right kind img n es w

-- and so of every run
abbrev pub RunTheorem : Type 0
RunTheorem = (kind : Kind) (img : Bytes) (n : ℕ) → Opens img n → (sink : sinks.Meaning) (buffer : List ℕ) (es : List Event) (t : Stage)
    → Runs kind (record { view = fresh img n; sink = sink; buffer = buffer }) es t → Right kind img n es t.view

-- a newly opened checker is sound, for every kind of digest sink
abbrev pub FreshSound : Type 0
FreshSound = (kind : Kind) (img : Bytes) (n : ℕ) → SoundView kind (fresh img n)

-- every call leaves a sound view sound
abbrev pub SoundSteps : Type 0
SoundSteps = (kind : Kind) (s t : Stage) (e : Event) → SoundView kind s.view → Happens kind s e t → SoundView kind t.view

-- a refused call changes nothing: the files, the sink and the buffer stay
abbrev pub RefusedStays : Type 0
RefusedStays = (kind : Kind) (s t : Stage) (e : Event) → Refused e → Happens kind s e t → t ≡ s

-- n bytes of text were put at the start of a part of the buffer, which has room for them, and every other byte of the buffer stays; `out` is
-- what is left in that part
pub record Filled (w : Window) (n : ℕ) (before out after : List ℕ) : Type 0 where
  pub text : List ℕ
  pub long : length text ≡ n
  pub fits : n ≤ length (part w before)
  pub left : out ≡ text ++ drop n (part w before)
  pub there : take n (drop w.from after) ≡ text
  pub front : take w.from after ≡ take w.from before
  pub rest : drop (w.from + n) after ≡ drop (w.from + n) before
  pub as_long : length after ≡ length before

-- what the buffer is after a call: what it was, but for the text that the call wrote
abbrev pub BufferAfter : List ℕ → Event → List ℕ → Type 0
BufferAfter before (took r) after = after ≡ before
BufferAfter before (settled k r) after = after ≡ before
BufferAfter before (returned k r) after = after ≡ before
BufferAfter before (told k r) after = after ≡ before
BufferAfter before (located k j w out (Ok n)) after = Filled w n before out after
BufferAfter before (located k j w out (Err e)) after = after ≡ before
BufferAfter before (rewritten k w out (Ok n)) after = Filled w n before out after
BufferAfter before (rewritten k w out (Err e)) after = after ≡ before
BufferAfter before (circled r) after = after ≡ before
BufferAfter before (lined k w out (Ok n)) after = Filled w n before out after
BufferAfter before (lined k w out (Err e)) after = after ≡ before
BufferAfter before (tailed w out (Ok n)) after = Filled w n before out after
BufferAfter before (tailed w out (Err e)) after = after ≡ before

-- a call that writes leaves every byte of the buffer but those of its text, and any other call leaves them all
abbrev pub WrittenStays : Type 0
WrittenStays = (kind : Kind) (s t : Stage) (e : Event) → Happens kind s e t → BufferAfter s.buffer e t.buffer

-- a front of a run is a run, so that what holds of every run holds throughout each
abbrev pub RunsSplit : Type 0
RunsSplit = (kind : Kind) (s t : Stage) (es fs : List Event) → Runs kind s (es ++ fs) t → (u : Stage) × Runs kind s es u × Runs kind u fs t

-- r is how many bytes the call digests: a settle as many as it counts, and a path that is written those of the strings that are digested for it
abbrev pub Adds : Kind → Bytes → ℕ → Event → ℕ → Type 0
Adds kind img n (took x) r = r ≡ 0
Adds kind img n (settled k (Ok count)) r = r ≡ count
Adds kind img n (settled k (Err e)) r = r ≡ 0
Adds kind img n (returned k x) r = r ≡ 0
Adds kind img n (told k x) r = r ≡ 0
Adds kind img n (located k j w out (Ok count)) r =
    (ss : List Bytes) × PathStrings (set_of img n) (D kind) (file_path img k) j ss × (r ≡ all_lengths ss)
Adds kind img n (located k j w out (Err e)) r = r ≡ 0
Adds kind img n (rewritten k w out x) r = r ≡ 0
Adds kind img n (circled x) r = r ≡ 0
Adds kind img n (lined k w out x) r = r ≡ 0
Adds kind img n (tailed w out x) r = r ≡ 0

-- r is how many bytes these calls digest
abbrev pub Rise : Kind → Bytes → ℕ → List Event → ℕ → Type 0
Rise kind img n [] r = r ≡ 0
Rise kind img n (e ∷ es) r = (a : ℕ) × (b : ℕ) × Adds kind img n e a × Rise kind img n es b × (r ≡ a + b)

-- along every run the sink's total rises by as many bytes as the calls digest, modulo 2 ^ 64
abbrev pub TotalsRise : Type 0
TotalsRise = (kind : Kind) (s t : Stage) (es : List Event) → s.sink.total < 2 ^ 64 → Runs kind s es t
    → (r : ℕ) × Rise kind s.view.image s.view.count es r × (t.sink.total ≡ (s.sink.total + r) % (2 ^ 64))

-- a total that is below 2 ^ 64 stays so
abbrev pub TotalsSmall : Type 0
TotalsSmall = (kind : Kind) (s t : Stage) (es : List Event) → s.sink.total < 2 ^ 64 → Runs kind s es t → t.sink.total < 2 ^ 64

-- each settle's count is the rise of the sink's total, modulo 2 ^ 64
abbrev pub CountIsRise : Type 0
CountIsRise = (kind : Kind) (v w : View) (k n : ℕ) (before after : sinks.Meaning) → before.total < 2 ^ 64
    → Settles kind v k before (Ok n) w after → after.total ≡ (before.total + n) % (2 ^ 64)

-- ---- rewriting, over any two images that open

-- two files that read are rewritten alike, same length and same bytes, exactly where their meanings are equal
abbrev pub RewrittenAlike : Type 0
RewrittenAlike = (v w : View) (j k : ℕ) (m n : Meaning) → Means (files v) (path_at v j) m → Means (files w) (path_at w k) n
    → (out other : List ℕ) (a b : ℕ) (after behind : List ℕ) → Rewrites v j out (Ok a) after → Rewrites w k other (Ok b) behind
    → Iff (m ≡ n) ((a ≡ b) × (take a after ≡ take b behind))

-- a file with the path and the rewritten text of a file that reads: it reads, its rewriting is its own text, of its length, and it never gets 24
pub record Again (kind : Kind) (w : View) (k : ℕ) : Type 0 where
  pub reads : Readable (files w) (path_at w k)
  pub not_refused : (out after : List ℕ) → Rewrites w k out (Err NotRead) after → ⊥
  pub itself : (out : List ℕ) (n : ℕ) (after : List ℕ) → Rewrites w k out (Ok n) after → Wrote (file_text w.image k) after n
  pub canonical_already : (place : ℕ) → Judged (files w) (D kind) (path_at w k) (Err (NotCanonical place)) → ⊥

-- where its text is what a rewrite left
abbrev pub RewrittenAgain : Type 0
RewrittenAgain = (kind : Kind) (v w : View) (j k : ℕ) → Opens w.image w.count → Exists w k
    → (out : List ℕ) (a : ℕ) (after : List ℕ) → Rewrites v j out (Ok a) after
    → path_at w k ≡ path_at v j → file_text w.image k ≡ take a after → Again kind w k

-- where its text is the canonical one of what the other file means
abbrev pub CanonicalAgain : Type 0
CanonicalAgain = (kind : Kind) (v w : View) (j k : ℕ) (m : Meaning) → Opens w.image w.count → Exists w k
    → Means (files v) (path_at v j) m → path_at w k ≡ path_at v j → file_text w.image k ≡ canonical m → Again kind w k

-- ---- every call has an answer, and one only but for the row of 20 and the file of circle

-- two settlements that differ at most in the row of 20
abbrev pub Alike : Settlement → Settlement → Type 0
Alike s t = (s.hashes ≡ t.hashes) × ((s.verdict ≡ t.verdict) ⊎ BothUnhashed s.verdict t.verdict)

abbrev pub SameState : State → State → Type 0
SameState Pending Pending = Unit {0}
SameState Pending Taken = ⊥
SameState Pending (Settled t) = ⊥
SameState Taken Pending = ⊥
SameState Taken Taken = Unit {0}
SameState Taken (Settled t) = ⊥
SameState (Settled s) Pending = ⊥
SameState (Settled s) Taken = ⊥
SameState (Settled s) (Settled t) = Alike s t

pub record SameView (v w : View) : Type 0 where
  pub opened : v.opened ≡ w.opened
  pub image : v.image ≡ w.image
  pub count : v.count ≡ w.count
  pub rows : (k : ℕ) → SameState (v.row k) (w.row k)

-- every file that is settled with hashes can have one
abbrev pub HashesHold : View → Type 0
HashesHold v = (k : ℕ) (h : Hashes) → HashedAt v k h → Hashable (files v) (path_at v k)

-- it is so in every sound view
abbrev pub SoundHashesHold : Type 0
SoundHashesHold = (kind : Kind) (v : View) → SoundView kind v → HashesHold v

-- Whatever the digest and the states, but for path, which asks that what is settled with hashes can have one, since the outputs of any
-- other file have no right path.
pub record SomeAnswers (kind : Kind) (v : View) : Type 0 where
  pub take : (r : Result ℕ CallRefusal) × (w : View) × Takes v r w
  pub settle : (k : ℕ) (before : sinks.Meaning) → (r : Result ℕ CallRefusal) × (w : View) × (after : sinks.Meaning) × Settles kind v k before r w after
  pub put_back : (k : ℕ) → (r : Result (Unit {0}) CallRefusal) × (w : View) × PutsBack v k r w
  pub verdict : (k : ℕ) → (r : Result (Option Verdict) CallRefusal) × Tells v k r
  pub path : HashesHold v
      → (k j : ℕ) (out : List ℕ) (before : sinks.Meaning) → (r : Result ℕ CallRefusal) × (after : List ℕ) × (sink : sinks.Meaning) × Paths kind v k j out before r after sink
  pub rewrite : (k : ℕ) (out : List ℕ) → (r : Result ℕ CallRefusal) × (after : List ℕ) × Rewrites v k out r after
  pub circle : (r : Result ℕ CallRefusal) × Circles v r
  pub line : (k : ℕ) (out : List ℕ) → (r : Result ℕ CallRefusal) × (after : List ℕ) × Lines v k out r after
  pub tail : (out : List ℕ) → (r : Result ℕ CallRefusal) × (after : List ℕ) × Tails v out r after

pub record OneAnswer (kind : Kind) (v : View) : Type 0 where
  pub take : (r s : Result ℕ CallRefusal) (w x : View) → Takes v r w → Takes v s x → (r ≡ s) × SameView w x
  pub settle : (k : ℕ) (before : sinks.Meaning) (r s : Result ℕ CallRefusal) (w x : View) (after behind : sinks.Meaning)
      → Settles kind v k before r w after → Settles kind v k before s x behind → (r ≡ s) × SameView w x × (after ≡ behind)
  pub put_back : (k : ℕ) (r s : Result (Unit {0}) CallRefusal) (w x : View) → PutsBack v k r w → PutsBack v k s x → (r ≡ s) × SameView w x
  pub verdict : (k : ℕ) (r s : Result (Option Verdict) CallRefusal) → Tells v k r → Tells v k s → r ≡ s
  pub path : (k j : ℕ) (out : List ℕ) (before : sinks.Meaning) (r s : Result ℕ CallRefusal) (after behind : List ℕ) (sink other : sinks.Meaning)
      → Paths kind v k j out before r after sink → Paths kind v k j out before s behind other → (r ≡ s) × (after ≡ behind) × (sink ≡ other)
  pub rewrite : (k : ℕ) (out : List ℕ) (r s : Result ℕ CallRefusal) (after behind : List ℕ) → Rewrites v k out r after → Rewrites v k out s behind → (r ≡ s) × (after ≡ behind)
  pub line : (k : ℕ) (out : List ℕ) (r s : Result ℕ CallRefusal) (after behind : List ℕ) → Lines v k out r after → Lines v k out s behind → (r ≡ s) × (after ≡ behind)
  pub tail : (out : List ℕ) (r s : Result ℕ CallRefusal) (after behind : List ℕ) → Tails v out r after → Tails v out s behind → (r ≡ s) × (after ≡ behind)
  -- of circle's answers any two refuse, say 0, or name files on a cycle
  pub circle : (e : CallRefusal) (c : ℕ) → Circles v (Err e) → Circles v (Ok c) → ⊥
  pub no_circle : (b c : ℕ) → Circles v (Ok b) → Circles v (Ok c) → b ≡ 0 → c ≡ 0

-- every list of calls has a run from a newly opened checker on
abbrev pub EveryListRuns : Type 0
EveryListRuns = (kind : Kind) (img : Bytes) (n : ℕ) → Opens img n → (sink : sinks.Meaning) (buffer : List ℕ) (rs : List Request)
    → (es : List Event) × (t : Stage) × (map asked es ≡ rs) × Runs kind (record { view = fresh img n; sink = sink; buffer = buffer }) es t

-- whatever the checker's image and states, the digest sink and the buffer, but for what path asks above
abbrev pub EveryCallAnswers : Type 0
EveryCallAnswers = (kind : Kind) (v : View) → Opens v.image v.count → SomeAnswers kind v

-- and whatever the image
abbrev pub OneCallAnswer : Type 0
OneCallAnswer = (kind : Kind) (v : View) → OneAnswer kind v

-- ---- all of it

-- what a list of calls answers, leaves and keeps; what its counts are; that open and every call have an answer, and one only; and when two
-- files are rewritten alike
pub record MainTheorem : Type 0 where
  pub client : ClientTheorem
  pub right : RunTheorem
  pub fresh : FreshSound
  pub sound : SoundSteps
  pub refused : RefusedStays
  pub written : WrittenStays
  pub split : RunsSplit
  pub rise : CountIsRise
  pub small : TotalsSmall
  pub rises : TotalsRise
  pub opening : SomeOpening
  pub one_opening : OneOpening
  pub answered : EveryCallAnswers
  pub hashes : SoundHashesHold
  pub lists : EveryListRuns
  pub one : OneCallAnswer
  pub alike : RewrittenAlike
  pub again : RewrittenAgain
  pub canonical : CanonicalAgain
