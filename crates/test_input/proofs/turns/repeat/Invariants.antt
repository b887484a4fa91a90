use Rattle.std.proofs.Common.{◌-◌}
use Rattle.test_input.specs.Turns.{Turns}
use Rattle.test_input.proofs.turns.repeat.Given as goal

abbrev pub invariant-loop : goal.invariant-loop
invariant-loop g l =
    goal.F-IsAlwaysCallable g l.step
    × ((r : _) (last : _) → Turns (goal.F-step g) l.step (l.times - l.counter) r last → Turns (goal.F-step g) l.initial.step (l.times - 1) r last)
