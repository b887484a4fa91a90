use Rattle.sink.proofs.Writing.{then}
use Rattle.right_paths.proofs.parts.JoinedToSink.write_to.Goals as goal

pub returns : goal.returns
returns g c = then c.in_ok-write_to.ensures c.write_to-2.ensures
