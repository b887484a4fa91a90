use Rattle.checker.proofs.Blank.{blank_row}
use Rattle.checker.proofs.states.States.pending.Goals as goal

pub returns : goal.returns
returns c k = blank_row k
