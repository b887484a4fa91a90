-- Every list of calls has a run from a newly opened checker on.
use Rattle.std.proofs.Common.{◌≡◌, ℕ, List, [], ◌∷◌, map, sym, refl, subst}
use Rattle.hash_modulo.specs.Sets.{Bytes}
use Rattle.image.specs.Opening.{Opens}
use Rattle.checker.specs.Calls.{Kind}
use Rattle.checker.specs.Events.{part, patched, Event, took, settled, returned, told, located, rewritten, circled, lined, tailed, Request, taking, settling, returning, telling, locating, rewriting, circling, lining, tailing, asked, Stage, Happens, Runs}
use Rattle.checker.specs.Soundness.{SoundView}
use Rattle.checker.specs.Theorem.{SomeAnswers, EveryListRuns}
use Rattle.checker.specs.Views.{View, fresh}
use Rattle.checker.proofs.Answering.{every_call_answers, sound_hashes_hold}
use Rattle.checker.proofs.Keeping.{fresh_sound}
use Rattle.checker.proofs.Running.{Of, step}

module _ (kind : Kind) where
  -- a call that is asked for happens
  abbrev Answered : Stage → Request → Type 0
  Answered s r = (e : Event) × (t : Stage) × (asked e ≡ r) × Happens kind s e t

  answered : (s : Stage) → SoundView kind s.view → SomeAnswers kind s.view → (r : Request) → Answered s r
  answered s sound a taking =
      let (r, w, h) = a.take in
      (took r, record { view = w; sink = s.sink; buffer = s.buffer }, refl, (h, record { view = refl; sink = refl; buffer = refl }))
  answered s sound a (settling k) =
      let (r, w, m, h) = a.settle k s.sink in
      (settled k r, record { view = w; sink = m; buffer = s.buffer }, refl, (h, refl))
  answered s sound a (returning k) =
      let (r, w, h) = a.put_back k in
      (returned k r, record { view = w; sink = s.sink; buffer = s.buffer }, refl, (h, record { view = refl; sink = refl; buffer = refl }))
  answered s sound a (telling k) = let (r, h) = a.verdict k in (told k r, s, refl, (h, refl))
  answered s sound a (locating k j w) =
      let (r, out, m, h) = a.path (sound_hashes_hold kind s.view sound) k j (part w s.buffer) s.sink in
      (located k j w out r, record { view = s.view; sink = m; buffer = patched w s.buffer out }, refl, (h, refl, refl))
  answered s sound a (rewriting k w) =
      let (r, out, h) = a.rewrite k (part w s.buffer) in
      (rewritten k w out r, record { view = s.view; sink = s.sink; buffer = patched w s.buffer out }, refl, (h, record { view = refl; sink = refl; buffer = refl }))
  answered s sound a circling = let (r, h) = a.circle in (circled r, s, refl, (h, refl))
  answered s sound a (lining k w) =
      let (r, out, h) = a.line k (part w s.buffer) in
      (lined k w out r, record { view = s.view; sink = s.sink; buffer = patched w s.buffer out }, refl, (h, record { view = refl; sink = refl; buffer = refl }))
  answered s sound a (tailing w) =
      let (r, out, h) = a.tail (part w s.buffer) in
      (tailed w out r, record { view = s.view; sink = s.sink; buffer = patched w s.buffer out }, refl, (h, record { view = refl; sink = refl; buffer = refl }))

  module _ (img : Bytes) (n : ℕ) (opens : Opens img n) where
    some : (v : View) → Of kind img n v → SomeAnswers kind v
    some v a = every_call_answers kind v (subst (λ (i : Bytes). Opens i v.count) (sym a.image) (subst (Opens img) (sym a.count) opens))

    all_run : (rs : List Request) (s : Stage) → Of kind img n s.view → SoundView kind s.view → (es : List Event) × (t : Stage) × (map asked es ≡ rs) × Runs kind s es t
    all_run [] s a sound = ([], s, refl, refl)
    all_run (r ∷ rs) s a sound =
        let (e, u, q, h) = answered s sound (some s.view a) r in
        let one = step kind img n e s u h a sound in
        let (es, t, qs, more) = all_run rs u one.is one.sound in
        (e ∷ es, t, (λ i. q i ∷ qs i), (u, h, more))

pub every_list_runs : EveryListRuns
every_list_runs kind img n opens sink buffer rs =
    all_run kind img n opens rs (record { view = fresh img n; sink = sink; buffer = buffer }) (record { opened = refl; image = refl; count = refl }) (fresh_sound kind img n)
