use Rattle.sink.proofs.Writing.{then, stop}
use Rattle.report.proofs.lines.RefusedLineToSink.write_to.Goals as goal

pub returns-in_err-write_decimal : goal.returns-in_err-write_decimal
returns-in_err-write_decimal g c =
    then c.in_ok-write.ensures.writes
    (stop _ c.in_err-write_decimal.ensures.writes c.from_residual-in_err-write_decimal.ensures.0)

pub returns-in_err-write_column : goal.returns-in_err-write_column
returns-in_err-write_column g c =
    then c.in_ok-write.ensures.writes
    (then c.in_ok-write_decimal.ensures.writes
    (stop _ c.in_err-write_column.ensures c.from_residual-in_err-write_column.ensures.0))

pub returns : goal.returns
returns g c =
    then c.in_ok-write.ensures.writes
    (then c.in_ok-write_decimal.ensures.writes
    (then c.in_ok-write_column.ensures c.write-2.ensures.writes))
