use Rattle.std.proofs.Common.{◌≡◌, ℕ, ◌<◌, ◌≢◌, None, Some, Option, MatchOption, length, take, subst, arith, rules, tests}
use Rattle.std.specs.List.{AllWithin, HoldsAt}
use Rattle.std.proofs.lemmas.Iterator.{IsFirst-from_position, YieldsList-from_slice}
use Rattle.std.proofs.lemmas.List.{get_or-take, length-take-le}
use Rattle.links.specs.declared.link.Link.{Link}
use Rattle.links.specs.declared.link.Links.{Links}
use Rattle.checker.specs.Rows.{row_at}
use Rattle.checker.specs.Standings.{standing_in, FirstLink}
use Rattle.checker.specs.declared.standing.Standing.{Standing}
use Rattle.checker.specs.declared.state.State.{State}
use Rattle.checker.proofs.standing.first_link.Goals as goal

module _ (row : ℕ → State) (wanted : Standing) where
  abbrev Stands : Option Link → Type 0
  Stands l = standing_in row l ≡ wanted

  abbrev Differs : Option Link → Type 0
  Differs l = standing_in row l ≢ wanted

  -- the first of the rows that count is the first of all
  first : (l : Links) (r : Option ℕ) → MatchOption r (AllWithin Differs (take l.count l.rows) 0 (length (take l.count l.rows))) (λ i. (i < length (take l.count l.rows)) × HoldsAt Stands (take l.count l.rows) i × AllWithin Differs (take l.count l.rows) 0 i)
      → FirstLink row l wanted r
  first l None none = λ i less.
      let long : length (take l.count l.rows) ≡ l.count = length-take-le l.count l.rows (omega (arith, l.few, l.wide)) in
      subst Differs (get_or-take l.count l.rows i None less) (none i None (omega arith) (omega arith))
  first l (Some i) (less, here, before) =
      let long : length (take l.count l.rows) ≡ l.count = length-take-le l.count l.rows (omega (arith, l.few, l.wide)) in
      let within : i < l.count = omega arith in (
        within,
        subst Stands (get_or-take l.count l.rows i None within) (here None),
        λ j h. subst Differs (get_or-take l.count l.rows j None (omega arith)) (before j None (omega arith) h),
      )

pub returns : goal.returns
returns c =
    let row = row_at c.args.states.now in
    let links = c.args.links.now in
    first row c.args.wanted links c.position.result
    (IsFirst-from_position c.position.new.self _ c.position.result (Stands row c.args.wanted) (Differs row c.args.wanted) c.position.ensures.ran (YieldsList-from_slice (take links.count links.rows) c.iter.ensures.rest)
    (λ x q k. search (rules, tests)) (λ x q k. search (rules, tests)))
