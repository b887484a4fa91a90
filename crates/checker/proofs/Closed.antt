-- A run over an image that does not open: every call is refused with 31, and nothing changes.
use Rattle.std.proofs.Common.{◌≡◌, ℕ, ◌⊎◌, List, [], ◌∷◌, Ok, Err, Result, is_err, sym, refl, ap, ◌∙◌, subst, inl, inr}
use Rattle.std.specs.List.{AllByRecursion}
use Rattle.std.proofs.lemmas.Bool.{false≢true}
use Rattle.hash_modulo.specs.Sets.{Bytes}
use Rattle.sink.specs.Write.{Held}
use Rattle.checker.specs.Calls.{Kind}
use Rattle.checker.specs.Events.{Event, took, settled, returned, told, located, rewritten, circled, lined, tailed, Refused, Stage, Happens}
use Rattle.checker.specs.Opened.{OpensSet}
use Rattle.checker.specs.Playing.{NotOpenedAt, last_taken, Values, stage, Plays}
use Rattle.checker.specs.Seen.{view_of, view_none}
use Rattle.checker.specs.Views.{View, Open}
use Rattle.checker.specs.declared.call.Answer.{Answer}
use Rattle.checker.specs.declared.call.Call.{Call}
use Rattle.checker.specs.declared.refused.CallRefusal.{CallRefusal}
use Rattle.checker.specs.declared.refused.CallRefusal.TheVariants.{NotOpened}
use Rattle.checker.specs.declared.refused.OpenRefusal.{OpenRefusal}

-- the first question has the answer no
first_no : {T : Type 0} (r : Result T CallRefusal) (e f : CallRefusal) (Yes Rest : Type 0) → r ≡ Err e → (Yes → ⊥) → ((Yes → ⊥) × (e ≡ f)) ⊎ (Yes × Rest) → r ≡ Err f
first_no r e f Yes Rest i n (inl q) = i ∙ ap Err q.1
first_no r e f Yes Rest i n (inr q) = absurd (n q.0)

not_opened : (kind : Kind) (s t : Stage) (e : Event) → (Open s.view → ⊥) → Happens kind s e t → NotOpenedAt e
not_opened kind s t (took (Ok k)) n h = absurd (n h.0.0)
not_opened kind s t (took (Err e)) n h = first_no (Err e) e NotOpened (Open s.view) _ refl n h.0.0
not_opened kind s t (settled k (Ok c)) n h = absurd (n h.0.1)
not_opened kind s t (settled k (Err e)) n h = first_no (Err e) e NotOpened (Open s.view) _ refl n h.0.0
not_opened kind s t (returned k (Ok u)) n h = absurd (n h.0.0)
not_opened kind s t (returned k (Err e)) n h = first_no (Err e) e NotOpened (Open s.view) _ refl n h.0.0
not_opened kind s t (told k (Ok o)) n h = absurd (n h.0.0)
not_opened kind s t (told k (Err e)) n h = first_no (Err e) e NotOpened (Open s.view) _ refl n h.0
not_opened kind s t (located k j w out (Ok c)) n h = absurd (n h.0.0)
not_opened kind s t (located k j w out (Err e)) n h = first_no (Err e) e NotOpened (Open s.view) _ refl n h.0.0
not_opened kind s t (rewritten k w out (Ok c)) n h = absurd (n h.0.1)
not_opened kind s t (rewritten k w out (Err e)) n h = first_no (Err e) e NotOpened (Open s.view) _ refl n h.0.0
not_opened kind s t (circled (Ok c)) n h = absurd (n h.0.0)
not_opened kind s t (circled (Err e)) n h = first_no (Err e) e NotOpened (Open s.view) _ refl n h.0
not_opened kind s t (lined k w out (Ok c)) n h = absurd (n h.0.0)
not_opened kind s t (lined k w out (Err e)) n h = first_no (Err e) e NotOpened (Open s.view) _ refl n h.0.0
not_opened kind s t (tailed w out (Ok c)) n h = absurd (n h.0.0)
not_opened kind s t (tailed w out (Err e)) n h = first_no (Err e) e NotOpened (Open s.view) _ refl n h.0.0

refused : (e : Event) → NotOpenedAt e → Refused e
refused (took r) q = ap is_err q
refused (settled k r) q = ap is_err q
refused (returned k r) q = ap is_err q
refused (told k r) q = ap is_err q
refused (located k j w out r) q = ap is_err q
refused (rewritten k w out r) q = ap is_err q
refused (circled r) q = ap is_err q
refused (lined k w out r) q = ap is_err q
refused (tailed w out r) q = ap is_err q

-- so is every call of a list, and nothing changes
pub closed_plays : {S : Type 0} (held : S → Held) (kind : Kind) (last : ℕ) (cs : List Call) (bs : List Answer) (es : List Event) (x z : Values held)
    → (Open (view_of x.checker) → ⊥) → Plays held kind last cs bs es x z → AllByRecursion NotOpenedAt es × (z ≡ x)
closed_plays held kind last [] [] [] x z n p = (tt, p)
closed_plays held kind last [] [] (f ∷ es) x z n p = absurd p
closed_plays held kind last [] (b ∷ bs) es x z n p = absurd p
closed_plays held kind last (d ∷ cs) [] es x z n p = absurd p
closed_plays held kind last (d ∷ cs) (b ∷ bs) [] x z n p = absurd p
closed_plays held kind last (d ∷ cs) (b ∷ bs) (f ∷ es) x z n (w, first, p) =
    let none = not_opened kind (stage held x) (stage held w) f n first.happens in
    let same = first.same (refused f none) in
    let rest = closed_plays held kind (last_taken last f) cs bs es w z (subst (λ (y : Values held). Open (view_of y.checker) → ⊥) (sym same) n) p in
    ((none, rest.0), rest.1 ∙ same)

pub not_open : (img : Bytes) (r : Result (Unit {0}) OpenRefusal) (e : OpenRefusal) (v : View) → r ≡ Err e → OpensSet view_none img r v → Open v → ⊥
not_open img r e v q o y =
    let same = (subst (λ (s : Result (Unit {0}) OpenRefusal). OpensSet view_none img s v) q o).1 in
    false≢true (ap (λ (w : View). w.opened) (sym same) ∙ y)
