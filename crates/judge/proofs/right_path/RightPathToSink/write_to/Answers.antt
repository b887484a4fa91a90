use Rattle.sink.proofs.Writing.{then, stop}
use Rattle.judge.proofs.right_path.RightPathToSink.write_to.Goals as goal

pub returns-in_err-write-2 : goal.returns-in_err-write-2
returns-in_err-write-2 g c = then c.in_ok-write.ensures.writes (stop _ c.in_err-write-2.ensures.writes c.from_residual-in_err-write-2.ensures.0)

pub returns-in_err-write-3 : goal.returns-in_err-write-3
returns-in_err-write-3 g c = then c.in_ok-write.ensures.writes (then c.in_ok-write-2.ensures.writes (stop _ c.in_err-write-3.ensures.writes c.from_residual-in_err-write-3.ensures.0))

pub returns : goal.returns
returns g c = then c.in_ok-write.ensures.writes (then c.in_ok-write-2.ensures.writes (then c.in_ok-write-3.ensures.writes c.write_to.ensures))
