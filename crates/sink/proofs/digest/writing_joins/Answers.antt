use Rattle.sink.proofs.Writing.{written_joins}
use Rattle.sink.proofs.digest.writing_joins.Goals as goal

pub returns : goal.returns
returns c = written_joins
