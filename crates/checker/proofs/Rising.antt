-- Along a run the sink's total rises by as many bytes as the calls digest, modulo 2 ^ 64.
use Rattle.std.proofs.Common.{◌≡◌, ℕ, ◌+◌, ◌%◌, ◌^◌, ◌<◌, [], ◌∷◌, Ok, Err, Result, refl, ap, subst, arith}
use Rattle.hash_modulo.specs.Sets.{Bytes}
use Rattle.hash_modulo.specs.Strings.{all_lengths}
use Rattle.sink.specs.Write as sinks
use Rattle.checker.specs.Calls.{Kind, Takes, Settles, PutsBack}
use Rattle.checker.specs.Events.{Event, took, settled, returned, told, located, rewritten, circled, lined, tailed, Stage, Happens}
use Rattle.checker.specs.Theorem.{Adds, Rise, TotalsRise}
use Rattle.checker.specs.Views.{View, Changes}
use Rattle.checker.specs.declared.refused.CallRefusal.{CallRefusal}
use Rattle.checker.specs.declared.state.State.{State}
use Rattle.checker.proofs.Counting.{stays, risen}
use Rattle.checker.proofs.Steps.{step_small}

-- ---- the files stay

record SameFiles (v w : View) : Type 0 where
  pub image : w.image ≡ v.image
  pub count : w.count ≡ v.count

unchanged : (v w : View) → w ≡ v → SameFiles v w
unchanged v w same = record { image = ap (λ (x : View). x.image) same; count = ap (λ (x : View). x.count) same }

moved : (v w : View) (k : ℕ) (x : State) → Changes v k x w → SameFiles v w
moved v w k x c = record { image = c.image; count = c.count }

take_files : (v w : View) (r : Result ℕ CallRefusal) → Takes v r w → SameFiles v w
take_files v w (Ok k) (o, none, chosen, c) = moved v w k _ c
take_files v w (Err e) (q, same) = unchanged v w same

settle_files : (kind : Kind) (v w : View) (k : ℕ) (before after : sinks.Meaning) (r : Result ℕ CallRefusal) → Settles kind v k before r w after → SameFiles v w
settle_files kind v w k before after (Ok n) (s, o, taken, c, d) = moved v w k _ c
settle_files kind v w k before after (Err e) (q, same, kept) = unchanged v w same

back_files : {T : Type 0} (v w : View) (k : ℕ) (r : Result T CallRefusal) → PutsBack v k r w → SameFiles v w
back_files v w k (Ok x) (o, taken, c) = moved v w k _ c
back_files v w k (Err e) (q, same) = unchanged v w same

same_files : (kind : Kind) (s t : Stage) (e : Event) → Happens kind s e t → SameFiles s.view t.view
same_files kind s t (took r) (h, m) = take_files s.view t.view r h
same_files kind s t (settled k r) (h, b) = settle_files kind s.view t.view k s.sink t.sink r h
same_files kind s t (returned k r) (h, m) = back_files s.view t.view k r h
same_files kind s t (told k r) (h, same) = unchanged s.view t.view (ap (λ (x : Stage). x.view) same)
same_files kind s t (located k j w out r) (h, same, b) = unchanged s.view t.view same
same_files kind s t (rewritten k w out r) (h, x) = unchanged s.view t.view x.view
same_files kind s t (circled r) (h, same) = unchanged s.view t.view (ap (λ (x : Stage). x.view) same)
same_files kind s t (lined k w out r) (h, x) = unchanged s.view t.view x.view
same_files kind s t (tailed w out r) (h, x) = unchanged s.view t.view x.view

-- ---- totals

abbrev Rises : sinks.Meaning → ℕ → sinks.Meaning → Type 0
Rises before r after = after.total ≡ (before.total + r) % (2 ^ 64)

-- what one call adds
abbrev Added : Kind → Stage → Event → Stage → Type 0
Added kind s e t = (a : ℕ) × Adds kind s.view.image s.view.count e a × Rises s.sink a t.sink

still : (s t : Stage) → s.sink.total < 2 ^ 64 → t.sink ≡ s.sink → Rises s.sink 0 t.sink
still s t low same = stays s.sink.total t.sink.total 0 low (ap (λ (m : sinks.Meaning). m.total) same) refl

added : (kind : Kind) (s t : Stage) (e : Event) → s.sink.total < 2 ^ 64 → Happens kind s e t → Added kind s e t
added kind s t (took r) low (h, m) = (0, refl, still s t low m.sink)
added kind s t (settled k (Ok n)) low ((x, o, taken, c, d), b) = (n, refl, risen kind _ _ s.sink t.sink n x.hashes low d.outcome)
added kind s t (settled k (Err e)) low ((q, v, same), b) = (0, refl, still s t low same)
added kind s t (returned k r) low (h, m) = (0, refl, still s t low m.sink)
added kind s t (told k r) low (h, same) = (0, refl, still s t low (ap (λ (x : Stage). x.sink) same))
added kind s t (located k j w out (Ok n)) low ((o, x, h, z, l), v, b) = (all_lengths l.strings, (l.strings, l.needed, refl), l.holds.total)
added kind s t (located k j w out (Err e)) low ((q, a, same), v, b) = (0, refl, still s t low same)
added kind s t (rewritten k w out r) low (h, x) = (0, refl, still s t low x.sink)
added kind s t (circled r) low (h, same) = (0, refl, still s t low (ap (λ (x : Stage). x.sink) same))
added kind s t (lined k w out r) low (h, x) = (0, refl, still s t low x.sink)
added kind s t (tailed w out r) low (h, x) = (0, refl, still s t low x.sink)

rises_on : (x y z a b : ℕ) → y ≡ (x + a) % (2 ^ 64) → z ≡ (y + b) % (2 ^ 64) → z ≡ (x + (a + b)) % (2 ^ 64)
rises_on x y z a b f g = omega arith

pub totals_rise : TotalsRise
totals_rise kind s t [] low same = (0, refl, still s t low (ap (λ (x : Stage). x.sink) same))
totals_rise kind s t (e ∷ es) low (u, h, more) =
    let one = added kind s u e low h in
    let rest = totals_rise kind u t es (step_small kind s u e low h) more in
    let files = same_files kind s u e h in (
      one.0 + rest.0,
      (
        one.0,
        rest.0,
        one.1,
        subst (λ (i : Bytes). Rise kind i s.view.count es rest.0) files.image (subst (λ (n : ℕ). Rise kind u.view.image n es rest.0) files.count rest.1),
        refl,
      ),
      rises_on s.sink.total u.sink.total t.sink.total one.0 rest.0 one.2 rest.2,
    )
