use Rattle.std.proofs.Common.{◌≡◌, Some, None, Err, Result, MatchResult, refl, sym, ap, subst, rules}
use Rattle.derivation.specs.declared.spot.Spot.{Spot}
use Rattle.verdict.specs.declared.fault.Fault.{Fault}
use Rattle.verdict.specs.declared.fault.Fault.TheVariants as fault
use Rattle.checker.specs.Rows.{row_at}
use Rattle.checker.specs.Settling.{FirstSpot, LinksAsked, absent, unowned, unhashed, waiting, hashed}
use Rattle.checker.specs.declared.standing.Standing.{Standing}
use Rattle.checker.specs.declared.standing.Standing.TheVariants.{Absent, Unowned, Unhashed, Waiting}
use Rattle.checker.proofs.Mapped.{passed, failed, mapped}
use Rattle.checker.proofs.checker.OpenSet.check_links.Goals as goal

pub returns-in_err-map_err : goal.returns-in_err-map_err
returns-in_err-map_err c =
    let row = row_at c.args.self.now.states in
    let l = c.args.links.now in
    let rows = c.args.inputs.now in
    let J : Standing → Result (Unit {0}) Spot → Type 0 = λ s r. MatchResult r (λ _. FirstSpot row l rows s None) (λ w. FirstSpot row l rows s (Some w)) in
    let Is : Result (Unit {0}) Fault → Type 0 = λ r. MatchResult r (λ _. LinksAsked row l rows None) (λ f. LinksAsked row l rows (Some f)) in
    let f = c.in_err-map_err.field-0.0 in
    let z = failed (J Absent) c.ask_rows.result c.map_err.result (λ w e. e ≡ fault.Absent w) f c.ask_rows.ensures c.map_err.ensures.cases c.map_err.ensures.variant c.in_err-map_err.was in
    let is : c.from_residual.result ≡ Err f = search rules in
    subst Is (sym is) (absent z.0 z.1 (ap Some z.2))

pub returns-in_err-map_err-2 : goal.returns-in_err-map_err-2
returns-in_err-map_err-2 c =
    let row = row_at c.args.self.now.states in
    let l = c.args.links.now in
    let rows = c.args.inputs.now in
    let J : Standing → Result (Unit {0}) Spot → Type 0 = λ s r. MatchResult r (λ _. FirstSpot row l rows s None) (λ w. FirstSpot row l rows s (Some w)) in
    let Is : Result (Unit {0}) Fault → Type 0 = λ r. MatchResult r (λ _. LinksAsked row l rows None) (λ f. LinksAsked row l rows (Some f)) in
    let a = passed (J Absent) c.ask_rows.result c.map_err.result _ c.in_ok-map_err.field-0 c.ask_rows.ensures c.map_err.ensures.cases c.map_err.ensures.variant c.in_ok-map_err.was in
    let f = c.in_err-map_err-2.field-0.0 in
    let z = failed (J Unowned) c.ask_rows-2.result c.map_err-2.result (λ w e. e ≡ fault.Unowned w) f c.ask_rows-2.ensures c.map_err-2.ensures.cases c.map_err-2.ensures.variant c.in_err-map_err-2.was in
    let is : c.from_residual-in_err-map_err-2.result ≡ Err f = search rules in
    subst Is (sym is) (unowned a z.0 z.1 (ap Some z.2))

pub returns-in_err-map_err-3 : goal.returns-in_err-map_err-3
returns-in_err-map_err-3 c =
    let row = row_at c.args.self.now.states in
    let l = c.args.links.now in
    let rows = c.args.inputs.now in
    let J : Standing → Result (Unit {0}) Spot → Type 0 = λ s r. MatchResult r (λ _. FirstSpot row l rows s None) (λ w. FirstSpot row l rows s (Some w)) in
    let Is : Result (Unit {0}) Fault → Type 0 = λ r. MatchResult r (λ _. LinksAsked row l rows None) (λ f. LinksAsked row l rows (Some f)) in
    let a = passed (J Absent) c.ask_rows.result c.map_err.result _ c.in_ok-map_err.field-0 c.ask_rows.ensures c.map_err.ensures.cases c.map_err.ensures.variant c.in_ok-map_err.was in
    let b = passed (J Unowned) c.ask_rows-2.result c.map_err-2.result _ c.in_ok-map_err-2.field-0 c.ask_rows-2.ensures c.map_err-2.ensures.cases c.map_err-2.ensures.variant c.in_ok-map_err-2.was in
    let f = c.in_err-map_err-3.field-0.0 in
    let z = failed (J Unhashed) c.ask_rows-3.result c.map_err-3.result (λ w e. e ≡ fault.Unhashed w) f c.ask_rows-3.ensures c.map_err-3.ensures.cases c.map_err-3.ensures.variant c.in_err-map_err-3.was in
    let is : c.from_residual-in_err-map_err-3.result ≡ Err f = search rules in
    subst Is (sym is) (unhashed a b z.0 z.1 (ap Some z.2))

pub returns : goal.returns
returns c =
    let row = row_at c.args.self.now.states in
    let l = c.args.links.now in
    let rows = c.args.inputs.now in
    let J : Standing → Result (Unit {0}) Spot → Type 0 = λ s r. MatchResult r (λ _. FirstSpot row l rows s None) (λ w. FirstSpot row l rows s (Some w)) in
    let Is : Result (Unit {0}) Fault → Type 0 = λ r. MatchResult r (λ _. LinksAsked row l rows None) (λ f. LinksAsked row l rows (Some f)) in
    let a = passed (J Absent) c.ask_rows.result c.map_err.result _ c.in_ok-map_err.field-0 c.ask_rows.ensures c.map_err.ensures.cases c.map_err.ensures.variant c.in_ok-map_err.was in
    let b = passed (J Unowned) c.ask_rows-2.result c.map_err-2.result _ c.in_ok-map_err-2.field-0 c.ask_rows-2.ensures c.map_err-2.ensures.cases c.map_err-2.ensures.variant c.in_ok-map_err-2.was in
    let d = passed (J Unhashed) c.ask_rows-3.result c.map_err-3.result _ c.in_ok-map_err-3.field-0 c.ask_rows-3.ensures c.map_err-3.ensures.cases c.map_err-3.ensures.variant c.in_ok-map_err-3.was in
    mapped (J Waiting) Is c.ask_rows-4.result c.map_err-4.result (λ w e. e ≡ fault.Unhashed w) (λ _ w. hashed a b d w refl) (λ w f q e. waiting a b d w q (ap Some e)) c.ask_rows-4.ensures c.map_err-4.ensures.cases
