-- What each call keeps: soundness and a small total; and that a front of a run is a run.
use Rattle.std.proofs.Common.{◌≡◌, ℕ, ◌+◌, ◌%◌, ◌^◌, ◌<◌, [], ◌∷◌, Ok, Err, Option, sym, refl, ap, subst, arith}
use Rattle.std.proofs.lemmas.Nat.{mod_below}
use Rattle.hash_modulo.specs.Sets.{Bytes, Files}
use Rattle.sink.specs.Write as sinks
use Rattle.checker.specs.Calls.{Kind, Outcome, with_hash, without}
use Rattle.checker.specs.Events.{Event, took, settled, returned, told, located, rewritten, circled, lined, tailed, Stage, Happens}
use Rattle.checker.specs.Soundness.{SoundView}
use Rattle.checker.specs.Theorem.{SoundSteps, RunsSplit, TotalsSmall}
use Rattle.checker.specs.Views.{View}
use Rattle.checker.specs.declared.state.Hashes.{Hashes}
use Rattle.checker.proofs.Keeping.{take_keeps, settle_keeps, back_keeps}

same_sound : (kind : Kind) (v w : View) → w ≡ v → SoundView kind v → SoundView kind w
same_sound kind v w same sound = subst (SoundView kind) (sym same) sound

pub sound_steps : SoundSteps
sound_steps kind s t (took r) sound (h, m) = take_keeps kind s.view t.view r h sound
sound_steps kind s t (settled k r) sound (h, b) = settle_keeps kind s.view t.view k s.sink t.sink r h sound
sound_steps kind s t (returned k r) sound (h, m) = back_keeps kind s.view t.view k r h sound
sound_steps kind s t (told k r) sound (h, same) = same_sound kind s.view t.view (ap (λ (x : Stage). x.view) same) sound
sound_steps kind s t (located k j w out r) sound (h, same, b) = same_sound kind s.view t.view same sound
sound_steps kind s t (rewritten k w out r) sound (h, x) = same_sound kind s.view t.view x.view sound
sound_steps kind s t (circled r) sound (h, same) = same_sound kind s.view t.view (ap (λ (x : Stage). x.view) same) sound
sound_steps kind s t (lined k w out r) sound (h, x) = same_sound kind s.view t.view x.view sound
sound_steps kind s t (tailed w out r) sound (h, x) = same_sound kind s.view t.view x.view sound

pub runs_split : RunsSplit
runs_split kind s t [] fs runs = (s, refl, runs)
runs_split kind s t (e ∷ es) fs (v, h, more) =
    let rest = runs_split kind v t es fs more in
    (rest.0, (v, h, rest.1), rest.2)

-- ---- totals

abbrev Small : sinks.Meaning → Type 0
Small m = m.total < 2 ^ 64

same_small : (m k : sinks.Meaning) → k ≡ m → Small m → Small k
same_small m k same low = subst Small (sym same) low

wrapped_small : (m k : sinks.Meaning) (n : ℕ) → k.total ≡ (m.total + n) % (2 ^ 64) → Small k
wrapped_small m k n e = subst (λ (x : ℕ). x < 2 ^ 64) (sym e) (mod_below (m.total + n) (2 ^ 64) (omega arith))

outcome_small : (kind : Kind) (set : Files) (p : Bytes) (before after : sinks.Meaning) (n : ℕ) (o : Option Hashes) → Small before → Outcome kind set p before n after o → Small after
outcome_small kind set p before after n o low (with_hash h ss e x m g c l) = wrapped_small before after _ l.total
outcome_small kind set p before after n o low (without e none c same) = same_small before after same low

pub step_small : (kind : Kind) (s t : Stage) (e : Event) → Small s.sink → Happens kind s e t → Small t.sink
step_small kind s t (took r) low (h, m) = same_small s.sink t.sink m.sink low
step_small kind s t (settled k (Ok n)) low ((x, o, taken, c, d), b) = outcome_small kind _ _ s.sink t.sink n x.hashes low d.outcome
step_small kind s t (settled k (Err e)) low ((q, v, same), b) = same_small s.sink t.sink same low
step_small kind s t (returned k r) low (h, m) = same_small s.sink t.sink m.sink low
step_small kind s t (told k r) low (h, same) = same_small s.sink t.sink (ap (λ (x : Stage). x.sink) same) low
step_small kind s t (located k j w out (Ok n)) low ((o, x, h, j1, l), v, b) = wrapped_small s.sink t.sink _ l.holds.total
step_small kind s t (located k j w out (Err e)) low ((q, a, same), v, b) = same_small s.sink t.sink same low
step_small kind s t (rewritten k w out r) low (h, x) = same_small s.sink t.sink x.sink low
step_small kind s t (circled r) low (h, same) = same_small s.sink t.sink (ap (λ (x : Stage). x.sink) same) low
step_small kind s t (lined k w out r) low (h, x) = same_small s.sink t.sink x.sink low
step_small kind s t (tailed w out r) low (h, x) = same_small s.sink t.sink x.sink low

pub totals_small : TotalsSmall
totals_small kind s t [] low same = same_small s.sink t.sink (ap (λ (x : Stage). x.sink) same) low
totals_small kind s t (e ∷ es) low (u, h, more) = totals_small kind u t es (step_small kind s u e low h) more
