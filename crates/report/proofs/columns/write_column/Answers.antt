use Rattle.sink.proofs.Writing.{then}
use Rattle.report.proofs.columns.write_column.Goals as goal

pub returns : goal.returns
returns g c = then c.in_ok-write.ensures.writes c.write_decimal.ensures.writes
