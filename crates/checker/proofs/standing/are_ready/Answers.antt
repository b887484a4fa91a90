use Rattle.std.proofs.Common.{◌≡◌, ℕ, Bool, true, false, Decides, refl, inl, inr}
use Rattle.std.proofs.Math.Bool.{not}
use Rattle.links.specs.declared.link.Links.{Links}
use Rattle.checker.specs.Rows.{row_at}
use Rattle.checker.specs.Standings.{SomeLink, LinksFaulty, LinksReady}
use Rattle.checker.specs.declared.standing.Standing.{Standing}
use Rattle.checker.specs.declared.standing.Standing.TheVariants.{Absent, Unowned, Unhashed, Waiting, Hashed}
use Rattle.checker.specs.declared.state.State.{State}
use Rattle.checker.proofs.standing.are_ready.Goals as goal

one_left : (s : Standing) → (s ≡ Absent → ⊥) → (s ≡ Unowned → ⊥) → (s ≡ Unhashed → ⊥) → (s ≡ Waiting → ⊥) → s ≡ Hashed
one_left Absent a b c d = absurd (a refl)
one_left Unowned a b c d = absurd (b refl)
one_left Unhashed a b c d = absurd (c refl)
one_left Waiting a b c d = absurd (d refl)
one_left Hashed a b c d = refl

clash : (s : Standing) → s ≡ Waiting → s ≡ Hashed → ⊥
clash s a b = cc

-- where no row's file makes the file faulty, it is ready exactly where none waits
module _ (row : ℕ → State) (l : Links) (clean : LinksFaulty row l → ⊥) where
  waited : SomeLink row l Waiting → LinksReady row l → ⊥
  waited w (inl f) = clean f
  waited (i, less, e) (inr every) = clash _ e (every i less)

  none_waits : (SomeLink row l Waiting → ⊥) → LinksReady row l
  none_waits n =
      inr (λ i less. one_left _ (λ e. clean (inl (i, less, e))) (λ e. clean (inr (inl (i, less, e)))) (λ e. clean (inr (inr (i, less, e)))) (λ e. n (i, less, e)))

  ready_by : (b : Bool) → Decides b (SomeLink row l Waiting) → Decides (not b) (LinksReady row l)
  ready_by true d = (λ e. cc, λ y. absurd (waited (d.0 refl) y))
  ready_by false d = (λ e. none_waits (λ w. (let f = d.1 w in cc)), λ y. refl)

pub returns-else-are_faulty : goal.returns-else-are_faulty
returns-else-are_faulty c = ready_by (row_at c.args.states.now) c.args.links.now (λ f. (let e = c.are_faulty.ensures.1 f in let g = c.if-are_faulty.false in cc)) c.has_link.result c.has_link.ensures
