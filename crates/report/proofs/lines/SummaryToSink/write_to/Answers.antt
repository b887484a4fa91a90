use Rattle.std.proofs.Common.{◌∷◌, decimal, ap}
use Rattle.sink.proofs.Writing.{then, stop, as_text}
use Rattle.report.proofs.lines.SummaryToSink.write_to.Goals as goal

pub returns-in_err-write_decimal : goal.returns-in_err-write_decimal
returns-in_err-write_decimal g c = stop _ c.in_err-write_decimal.ensures.writes c.from_residual.ensures.0

pub returns-in_err-write_column : goal.returns-in_err-write_column
returns-in_err-write_column g c =
    then c.in_ok-write_decimal.ensures.writes
    (stop _ c.in_err-write_column.ensures c.from_residual-in_err-write_column.ensures.0)

pub returns-in_err-write_column-2 : goal.returns-in_err-write_column-2
returns-in_err-write_column-2 g c =
    then c.in_ok-write_decimal.ensures.writes
    (then c.in_ok-write_column.ensures
    (stop _ (as_text (ap (λ n. 32 ∷ decimal n) c.percent_of.ensures) c.in_err-write_column-2.ensures) c.from_residual-in_err-write_column-2.ensures.0))

pub returns : goal.returns
returns g c =
    then c.in_ok-write_decimal.ensures.writes
    (then c.in_ok-write_column.ensures
    (then (as_text (ap (λ n. 32 ∷ decimal n) c.percent_of.ensures) c.in_ok-write_column-2.ensures) c.write.ensures.writes))
