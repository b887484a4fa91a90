use Rattle.sink.proofs.Writing.{then, stop}
use Rattle.report.proofs.lines.FileLineToSink.write_to.Goals as goal

pub returns-in_err-write_decimal : goal.returns-in_err-write_decimal
returns-in_err-write_decimal g c = stop _ c.in_err-write_decimal.ensures.writes c.from_residual.ensures.0

pub returns-in_err-write_state : goal.returns-in_err-write_state
returns-in_err-write_state g c =
    then c.in_ok-write_decimal.ensures.writes
    (stop _ c.in_err-write_state.ensures c.from_residual-in_err-write_state.ensures.0)

pub returns : goal.returns
returns g c =
    then c.in_ok-write_decimal.ensures.writes
    (then c.in_ok-write_state.ensures c.write.ensures.writes)
