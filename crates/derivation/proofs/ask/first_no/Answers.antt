use Rattle.std.proofs.Common.{rules, ap, ◌∙◌, tests}
use Rattle.std.proofs.lemmas.Iterator.{YieldsList-from_slice}
use Rattle.derivation.proofs.Scan.{Passed, Failed, first_row, first_found}
use Rattle.derivation.proofs.ask.first_no.Goals as goal

pub returns-clause-first : goal.returns-clause-first
returns-clause-first g c = λ field from xs a.
    let s = g.Q.Ask.rows.shape in
    let vs = c.args.rows.now in
    let H = g.Q.Ask.rows.holds c.args.text.now in
    let yes = g.Q.Ask.yes c.args.ask.now in
    let source = YieldsList-from_slice vs (ap (λ i. i.rest.now) c.enumerate.ensures.source ∙ c.iter.ensures.rest) in
    first_found s H yes field vs from xs a c.find.result
    (first_row (Failed s H yes field vs) (Passed s H yes field vs) vs c.find.new.self _ c.find.result c.find.ensures.ran source c.enumerate.ensures.count
    (λ p q k b ys at x e h. search (rules, tests)) (λ p q k. (search (rules, tests), λ b ys at x e h. search (rules, tests))))
