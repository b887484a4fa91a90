use Rattle.std.proofs.Common.{◌≡◌, ℕ, ◌<◌, ◌≢◌, Bool, true, false, None, Option, MatchBool, Decides, length, take, sym, refl, subst, arith, rules, tests}
use Rattle.std.specs.List.{AllWithin, HoldsAt}
use Rattle.std.proofs.lemmas.Iterator.{cases_from_any, YieldsList-from_slice}
use Rattle.std.proofs.lemmas.List.{get_or-take, length-take-le}
use Rattle.links.specs.declared.link.Link.{Link}
use Rattle.links.specs.declared.link.Links.{Links}
use Rattle.checker.specs.Ways.{file_in, NamesFile}
use Rattle.checker.proofs.checker.cycles.names.Goals as goal

module _ (f : ℕ) where
  abbrev Here : Option Link → Type 0
  Here w = file_in w ≡ f

  abbrev Elsewhere : Option Link → Type 0
  Elsewhere w = file_in w ≢ f

  named_by : (l : Links) (b : Bool) → MatchBool b ((i : ℕ) × (i < length (take l.count l.rows)) × HoldsAt Here (take l.count l.rows) i) (AllWithin Elsewhere (take l.count l.rows) 0 (length (take l.count l.rows)))
      → Decides b (NamesFile l f)
  named_by l true (i, less, here) =
      let long : length (take l.count l.rows) ≡ l.count = length-take-le l.count l.rows (omega (arith, l.few, l.wide)) in
      let within : i < l.count = omega arith in
      (λ e. (i, within, subst Here (get_or-take l.count l.rows i None within) (here None)), λ s. refl)
  named_by l false none =
      let long : length (take l.count l.rows) ≡ l.count = length-take-le l.count l.rows (omega (arith, l.few, l.wide)) in (
        λ e. absurd (let z : ◌≡◌ {A = ℕ} 0 1 = cc in omega arith),
        λ (i, less, e). absurd (none i None (omega arith) (omega (arith, long, less)) (subst Here (sym (get_or-take l.count l.rows i None less)) e)),
      )

pub returns : goal.returns
returns c =
    let links = c.args.links.now in
    let f = c.args.file in
    record {
      says = named_by f links c.any.result
          (cases_from_any c.any.new.self _ c.any.result (Here f) (Elsewhere f) c.any.ensures.ran (YieldsList-from_slice (take links.count links.rows) c.iter.ensures.rest)
          (λ x q k. search (rules, tests)) (λ x q k. (search (rules, tests), search (rules, tests))));
    }
