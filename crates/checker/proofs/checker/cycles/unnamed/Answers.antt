use Rattle.checker.proofs.Ways.{nothing_named}
use Rattle.checker.proofs.checker.cycles.unnamed.Goals as goal

pub returns : goal.returns
returns c b low = nothing_named b low
