use Rattle.std.proofs.Common.{◌≤◌, rules, of_calls, arith}
use Rattle.test_input.proofs.TurnByTurn.{turn_goes, turn_fails, turn_ends}
use Rattle.test_input.proofs.turns.repeat.Goals as goal

pub returns-in_err-step : goal.returns-in_err-step
returns-in_err-step g c = (_, c.loop.invariant.1 _ _ (turn_fails _ _ c.step.new.self _ _ c.in_err-step.field-0.0 _ c.loop-test.true c.from_residual.ensures.1 c.in_err-step.ensures))

pub loop-preserved : goal.loop-preserved
loop-preserved g c = (
  search (rules, of_calls),
  λ r last t.
      c.loop.invariant.1 r last (turn_goes _ _ c.step.new.self _ _ _ c.in_ok-step.field-0 _ c.loop-test.true c.in_ok-step.ensures t),
)

pub returns : goal.returns
returns g c =
    let over : c.args.times ≤ c.loop.counter = omega (arith, c.loop-test.false) in
    (_, c.loop.invariant.1 _ _ (turn_ends _ _ c.step-2.new.self _ _ _ over c.step-2.ensures))
