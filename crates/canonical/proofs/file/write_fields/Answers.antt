use Rattle.sink.proofs.Writing.{then, stop}
use Rattle.canonical.proofs.file.write_fields.Goals as goal

pub returns-in_err-write_field : goal.returns-in_err-write_field
returns-in_err-write_field g c =
    stop _ c.in_err-write_field.ensures c.from_residual.ensures.0

pub returns-in_err-write_field-2 : goal.returns-in_err-write_field-2
returns-in_err-write_field-2 g c =
    then c.in_ok-write_field.ensures (stop _ c.in_err-write_field-2.ensures c.from_residual-in_err-write_field-2.ensures.0)

pub returns-in_err-write_field-3 : goal.returns-in_err-write_field-3
returns-in_err-write_field-3 g c =
    then c.in_ok-write_field.ensures (then c.in_ok-write_field-2.ensures (stop _ c.in_err-write_field-3.ensures c.from_residual-in_err-write_field-3.ensures.0))

pub returns-in_err-write_field-4 : goal.returns-in_err-write_field-4
returns-in_err-write_field-4 g c =
    then c.in_ok-write_field.ensures (then c.in_ok-write_field-2.ensures (then c.in_ok-write_field-3.ensures (stop _ c.in_err-write_field-4.ensures c.from_residual-in_err-write_field-4.ensures.0)))

pub returns-in_err-write_field-5 : goal.returns-in_err-write_field-5
returns-in_err-write_field-5 g c =
    then c.in_ok-write_field.ensures (then c.in_ok-write_field-2.ensures (then c.in_ok-write_field-3.ensures (then c.in_ok-write_field-4.ensures (stop _ c.in_err-write_field-5.ensures c.from_residual-in_err-write_field-5.ensures.0))))

pub returns-in_err-write_field-6 : goal.returns-in_err-write_field-6
returns-in_err-write_field-6 g c =
    then c.in_ok-write_field.ensures (then c.in_ok-write_field-2.ensures (then c.in_ok-write_field-3.ensures (then c.in_ok-write_field-4.ensures (then c.in_ok-write_field-5.ensures (stop _ c.in_err-write_field-6.ensures c.from_residual-in_err-write_field-6.ensures.0)))))

pub returns-in_err-write_field-7 : goal.returns-in_err-write_field-7
returns-in_err-write_field-7 g c =
    then c.in_ok-write_field.ensures (then c.in_ok-write_field-2.ensures (then c.in_ok-write_field-3.ensures (then c.in_ok-write_field-4.ensures (then c.in_ok-write_field-5.ensures (then c.in_ok-write_field-6.ensures (stop _ c.in_err-write_field-7.ensures c.from_residual-in_err-write_field-7.ensures.0))))))

pub returns : goal.returns
returns g c = then c.in_ok-write_field.ensures (then c.in_ok-write_field-2.ensures (then c.in_ok-write_field-3.ensures (then c.in_ok-write_field-4.ensures (then c.in_ok-write_field-5.ensures (then c.in_ok-write_field-6.ensures (then c.in_ok-write_field-7.ensures c.write.ensures.writes))))))
