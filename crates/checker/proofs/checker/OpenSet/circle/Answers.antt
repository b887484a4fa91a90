use Rattle.std.proofs.Common.{true, false, subst, sym, arith, rules, tests}
use Rattle.std.proofs.lemmas.Iterator.{first_from_Range}
use Rattle.checker.specs.Calls.{OnCycle}
use Rattle.checker.specs.Seen.{view_in}
use Rattle.checker.specs.Ways.{TurnsBack}
use Rattle.checker.proofs.Reopened.{image_opens, all_linked}
use Rattle.checker.proofs.Ways.{circled}
use Rattle.checker.proofs.checker.OpenSet.circle.Goals as goal

pub returns : goal.returns
returns c =
    let s = c.args.self.now in
    let rows = c.relation-relation.result.rows in
    subst (OnCycle (view_in s)) (sym c.unwrap_or.ensures)
    (circled (view_in s) s.files.links (image_opens s.files.image) (all_linked s.files) (omega (arith, s.files.image.chain.few)) rows c.relation-relation.ensures c.numbers.result c.numbers.ensures c.find.result
    (first_from_Range c.numbers.result c.find.new.self _ c.find.result (λ k. TurnsBack rows k true) (λ k. TurnsBack rows k false) c.find.ensures.ran (λ x q k. search (rules, tests)) (λ x q k. (search (rules, tests), search (rules, tests)))))
