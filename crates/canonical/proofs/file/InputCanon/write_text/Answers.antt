use Rattle.sink.proofs.Writing.{then, stop}
use Rattle.canonical.proofs.file.InputCanon.write_text.Goals as goal

pub returns-in_err-write_after : goal.returns-in_err-write_after
returns-in_err-write_after g c =
    stop _ c.in_err-write_after.ensures c.from_residual.ensures.0

pub returns-in_err-write_after-2 : goal.returns-in_err-write_after-2
returns-in_err-write_after-2 g c =
    then c.in_ok-write_after.ensures (stop _ c.in_err-write_after-2.ensures c.from_residual-in_err-write_after-2.ensures.0)

pub returns : goal.returns
returns g c = then c.in_ok-write_after.ensures (then c.in_ok-write_after-2.ensures c.write.ensures.writes)
