-- The state of a file after a list of calls follows from these calls alone.
use Rattle.std.proofs.Common.{◌≡◌, ℕ, ◌≤◌, ◌⊎◌, List, [], ◌∷◌, Ok, Err, Result, sym, refl, ap, ◌∙◌, subst, inl, inr}
use Rattle.std.proofs.lemmas.Bool.{cases_eq}
use Rattle.canonical.specs.Order.{Member}
use Rattle.sink.specs.Write as sinks
use Rattle.checker.specs.Calls.{Kind, Takes, Settles, PutsBack}
use Rattle.checker.specs.Events.{Event, took, settled, returned, told, located, rewritten, circled, lined, tailed, Stage, Happens, Leads}
use Rattle.checker.specs.Theorem.{settles, HandsOut, Ends, NoneEnds, OutAfter, PhaseRight}
use Rattle.checker.specs.Views.{View, Exists, TakenAt, Changes}
use Rattle.checker.specs.declared.refused.CallRefusal.{CallRefusal}
use Rattle.checker.specs.declared.state.State.{State}
use Rattle.checker.specs.declared.state.State.TheVariants.{Pending, Taken, Settled}
use Rattle.checker.proofs.Keeping.{is_pending, not_taken, not_settled, taken_settled}
use Rattle.checker.proofs.Running.{SettledAt}

-- ---- one call

-- whether the file k is taken after a call
record Turns (k : ℕ) (v : View) (e : Event) (w : View) : Type 0 where
  pub out : HandsOut k e → TakenAt w k
  pub stays : TakenAt v k → (Ends k e → ⊥) → TakenAt w k
  pub from : TakenAt w k → HandsOut k e ⊎ (TakenAt v k × (Ends k e → ⊥))

-- the call hands nothing out and ends no visit, and the view stays
quiet : (k : ℕ) (v w : View) (e : Event) → w ≡ v → (HandsOut k e → ⊥) → (Ends k e → ⊥) → Turns k v e w
quiet k v w e same hands ends = subst (Turns k v e) (sym same) (record { out = λ h. absurd (hands h); stays = λ a n. a; from = λ a. inr (a, ends) })

-- what exists in a view does in the changed one, and the other way round
there : {v w : View} {j : ℕ} {x : State} → Changes v j x w → (k : ℕ) → Exists v k → Exists w k
there c k x = (x.0, subst (λ (m : ℕ). k ≤ m) (sym c.count) x.1)

back : {v w : View} {j : ℕ} {x : State} → Changes v j x w → (k : ℕ) → Exists w k → Exists v k
back c k x = (x.0, subst (λ (m : ℕ). k ≤ m) c.count x.1)

same_taken : {v w : View} {j : ℕ} {x : State} → Changes v j x w → (k : ℕ) → (k ≡ j → ⊥) → TakenAt v k → TakenAt w k
same_taken c k n a = record { exists = there c k a.exists; is = c.others k n ∙ a.is }

was_taken : {v w : View} {j : ℕ} {x : State} → Changes v j x w → (k : ℕ) → (k ≡ j → ⊥) → TakenAt w k → TakenAt v k
was_taken c k n a = record { exists = back c k a.exists; is = sym (c.others k n) ∙ a.is }

take_turns : (k : ℕ) (v w : View) (r : Result ℕ CallRefusal) → Takes v r w → Turns k v (took r) w
take_turns k v w (Ok j) (o, none, chosen, c) = record {
  out = λ h. subst (TakenAt w) h (record { exists = there c j (is_pending v j chosen).exists; is = c.here });
  stays = λ a n. absurd (none k a);
  from = λ a. elim (cases_eq k j) [ inl same ↦ inl (sym same) | inr n ↦ absurd (none k (was_taken c k n a)) ];
}
take_turns k v w (Err e) (q, same) = quiet k v w (took (Err e)) same (λ h. h) (λ h. h)

-- the visit to the file j ends
ended : (k j : ℕ) (v w : View) (e : Event) (x : State) → Changes v j x w → (x ≡ Taken → ⊥) → (HandsOut k e → ⊥) → (j ≡ k → Ends k e) → (Ends k e → j ≡ k) → Turns k v e w
ended k j v w e x c left hands ends only = record {
  out = λ h. absurd (hands h);
  stays = λ a n. same_taken c k (λ same. n (ends (sym same))) a;
  from = λ a. elim (cases_eq k j) [
    | inl same ↦ absurd (left (sym c.here ∙ ap w.row (sym same) ∙ a.is))
    | inr n ↦ inr (was_taken c k n a, λ h. n (sym (only h)))
  ];
}

settle_turns : (kind : Kind) (k j : ℕ) (v w : View) (before after : sinks.Meaning) (r : Result ℕ CallRefusal) → Settles kind v j before r w after
    → Turns k v (settled j r) w
settle_turns kind k j v w before after (Ok n) (s, o, taken, c, d) =
    ended k j v w (settled j (Ok n)) (Settled s) c (λ e. taken_settled (Settled s) s e refl) (λ h. h) (λ h. h) (λ h. h)
settle_turns kind k j v w before after (Err e) (q, same, kept) = quiet k v w (settled j (Err e)) same (λ h. h) (λ h. h)

back_turns : (k j : ℕ) (v w : View) (r : Result (Unit {0}) CallRefusal) → PutsBack v j r w → Turns k v (returned j r) w
back_turns k j v w (Ok u) (o, taken, c) = ended k j v w (returned j (Ok u)) Pending c (not_taken Pending refl) (λ h. h) (λ h. h) (λ h. h)
back_turns k j v w (Err e) (q, same) = quiet k v w (returned j (Err e)) same (λ h. h) (λ h. h)

turns : (kind : Kind) (k : ℕ) (s t : Stage) (e : Event) → Happens kind s e t → Turns k s.view e t.view
turns kind k s t (took r) (h, m) = take_turns k s.view t.view r h
turns kind k s t (settled j r) (h, b) = settle_turns kind k j s.view t.view s.sink t.sink r h
turns kind k s t (returned j r) (h, m) = back_turns k j s.view t.view r h
turns kind k s t (told j r) (h, same) = quiet k s.view t.view (told j r) (ap (λ (x : Stage). x.view) same) (λ h. h) (λ h. h)
turns kind k s t (located j i w out r) (h, same, b) = quiet k s.view t.view (located j i w out r) same (λ h. h) (λ h. h)
turns kind k s t (rewritten j w out r) (h, x) = quiet k s.view t.view (rewritten j w out r) x.view (λ h. h) (λ h. h)
turns kind k s t (circled r) (h, same) = quiet k s.view t.view (circled r) (ap (λ (x : Stage). x.view) same) (λ h. h) (λ h. h)
turns kind k s t (lined j w out r) (h, x) = quiet k s.view t.view (lined j w out r) x.view (λ h. h) (λ h. h)
turns kind k s t (tailed w out r) (h, x) = quiet k s.view t.view (tailed w out r) x.view (λ h. h) (λ h. h)

-- ---- a list of calls

module _ (kind : Kind) (k : ℕ) where
  -- a call from the view v on
  turns_from : (v : View) (s t : Stage) (e : Event) → s.view ≡ v → Happens kind s e t → Turns k v e t.view
  turns_from v s t e from h = subst (λ (x : View). Turns k x e t.view) from (turns kind k s t e h)

  -- what was taken before and whose visit none of these calls ends is taken
  held : (es : List Event) (v w : View) → Leads kind v es w → TakenAt v k → NoneEnds k es → TakenAt w k
  held [] v w same a n = subst (λ (x : View). TakenAt x k) (sym same) a
  held (e ∷ es) v w (s, from, t, h, more) a n = held es t.view w more ((turns_from v s t e from h).stays a n.0) n.1

  out_taken : (es : List Event) (v w : View) → Leads kind v es w → OutAfter k es → TakenAt w k
  out_taken [] v w same x = absurd x
  out_taken (e ∷ es) v w (s, from, t, h, more) (inl x) = held es t.view w more ((turns_from v s t e from h).out x.0) x.1
  out_taken (e ∷ es) v w (s, from, t, h, more) (inr x) = out_taken es t.view w more x

  taken_out : (es : List Event) (v w : View) → Leads kind v es w → TakenAt w k → OutAfter k es ⊎ (TakenAt v k × NoneEnds k es)
  taken_out [] v w same a = inr (subst (λ (x : View). TakenAt x k) same a, tt)
  taken_out (e ∷ es) v w (s, from, t, h, more) a = elim (taken_out es t.view w more a) [
    | inl x ↦ inl (inr x)
    | inr x ↦ elim ((turns_from v s t e from h).from x.0) [ inl y ↦ inl (inl (y, x.1)) | inr y ↦ inr (y.0, (y.1, x.1)) ]
  ]

-- from a view where the file k is not taken on, where the settled files are those of the settles
pub phase_after : (kind : Kind) (v w : View) (es : List Event) (k : ℕ) → Exists w k → Leads kind v es w → (TakenAt v k → ⊥)
    → (Member k (settles es) → SettledAt w k) → (SettledAt w k → Member k (settles es)) → PhaseRight es k (w.row k)
phase_after kind v w es k x leads none there back = way (w.row k) refl
  where
    out : OutAfter k es → TakenAt w k
    out = out_taken kind k es v w leads

    way : (y : State) → w.row k ≡ y → PhaseRight es k y
    way Pending e = (λ m. let z = there m in not_settled (w.row k) z.0 e z.1, λ o. not_taken (w.row k) e (out o).is)
    way Taken e = (
      λ m. let z = there m in taken_settled (w.row k) z.0 e z.1,
      elim (taken_out kind k es v w leads (record { exists = x; is = e })) [ inl o ↦ o | inr a ↦ absurd (none a.0) ],
    )
    way (Settled z) e = (back (z, e), λ o. taken_settled (w.row k) z (out o).is e)
