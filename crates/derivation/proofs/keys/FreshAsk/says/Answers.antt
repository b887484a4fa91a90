use Rattle.std.proofs.Common.{rules, tests}
use Rattle.std.proofs.lemmas.Iterator.{cases_from_any, YieldsList-from_slice}
use Rattle.aterm.specs.Meaning.{meant_left}
use Rattle.derivation.specs.Keys.{key_of}
use Rattle.derivation.proofs.Meant.{span_meaning}
use Rattle.derivation.proofs.Fresh.{Same, Other, fresh_decides}
use Rattle.derivation.proofs.keys.FreshAsk.says.Goals as goal

pub returns : goal.returns
returns g c = λ from xs at x a h.
    let s = g.T.Shaped.shape in
    let t = c.args.text.now in
    let H = g.T.Shaped.holds t in
    let label = key_of s in
    let vs = c.args.earlier.now in
    let m = meant_left c.meant-mine.result in
    let k = c.key.ensures t at x h in
    let mine = span_meaning t k.0 c.key.result (label x) c.meant-mine.result c.meant-mine.ensures k.1 in
    fresh_decides s H label x m mine from vs xs a c.any.result
    (cases_from_any c.any.new.self _ c.any.result (Same s H label x m mine) (Other s H label x m mine) c.any.ensures.ran (YieldsList-from_slice vs c.iter.ensures.rest)
    (λ v q k p y i. search (rules, tests)) (λ v q k. (search (rules, tests), λ p y i e. search (rules, tests))))
