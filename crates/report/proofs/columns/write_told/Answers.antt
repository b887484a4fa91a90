use Rattle.sink.proofs.Writing.{then, stop}
use Rattle.report.proofs.columns.write_told.Goals as goal

pub returns-in_err-write_column : goal.returns-in_err-write_column
returns-in_err-write_column g c =
    stop _ c.in_err-write_column.ensures c.from_residual.ensures.0

pub returns-in_err-write_column-2 : goal.returns-in_err-write_column-2
returns-in_err-write_column-2 g c =
    then c.in_ok-write_column.ensures
    (stop _ c.in_err-write_column-2.ensures c.from_residual-in_err-write_column-2.ensures.0)

pub returns-in_err-write_column-3 : goal.returns-in_err-write_column-3
returns-in_err-write_column-3 g c =
    then c.in_ok-write_column.ensures
    (then c.in_ok-write_column-2.ensures
    (stop _ c.in_err-write_column-3.ensures c.from_residual-in_err-write_column-3.ensures.0))

pub returns-in_err-write_column-4 : goal.returns-in_err-write_column-4
returns-in_err-write_column-4 g c =
    then c.in_ok-write_column.ensures
    (then c.in_ok-write_column-2.ensures
    (then c.in_ok-write_column-3.ensures
    (stop _ c.in_err-write_column-4.ensures c.from_residual-in_err-write_column-4.ensures.0)))

pub returns : goal.returns
returns g c =
    then c.in_ok-write_column.ensures
    (then c.in_ok-write_column-2.ensures
    (then c.in_ok-write_column-3.ensures
    (then c.in_ok-write_column-4.ensures c.write_column-5.ensures)))
