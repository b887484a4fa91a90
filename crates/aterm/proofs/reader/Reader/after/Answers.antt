use Rattle.std.proofs.Common.{◌++◌, map, drop, arith, refl, ap, ◌∙◌, take_all}
use Rattle.std.proofs.lemmas.Result.{err_from_is_err_and}
use Rattle.aterm.specs.Grammar.{signs, byte}
use Rattle.aterm.proofs.Whole.{pass_stops, pass_more}
use Rattle.aterm.proofs.reader.Reader.after.Goals as goal

pub loop-b-init : goal.loop-b-init
loop-b-init c = (refl, (omega arith, refl))

pub returns-in_err-expect-clause-word : goal.returns-in_err-expect-clause-word
returns-in_err-expect-clause-word c =
    let p = err_from_is_err_and c.from_residual.result c.from_residual.ensures.1 in
    let o = c.in_err-expect.ensures c.args.text.now c.loop-b.invariant.0 in
    rw (p.1, p.2) (pass_stops c.args.word.now c.args.text.now c.loop-b.b-index c.loop-b.reader.at c.loop-b.invariant.1 c.loop-b-test.true c.in_err-expect.field-0.0 o.1.0)

pub loop-b-preserved : goal.loop-b-preserved
loop-b-preserved c =
    let o = c.in_ok-expect.ensures c.args.text.now c.loop-b.invariant.0 in
    (o.0, pass_more c.args.word.now c.args.text.now c.loop-b.b-index c.loop-b.reader.at c.loop-b.invariant.1 c.loop-b-test.true _ o.1.0)

pub returns-clause-word : goal.returns-clause-word
returns-clause-word c =
    let i = c.loop-b.invariant.1 in
    (i.0, i.1 ∙ ap (λ l. map byte l ++ drop c.loop-b.reader.at (signs c.args.text.now)) (take_all c.loop-b.b-index c.args.word.now c.loop-b-test.false))

pub returns-clause-text : goal.returns-clause-text
returns-clause-text c = c.loop-b.invariant.0
