use Rattle.sink.proofs.Writing.{then}
use Rattle.canonical.proofs.row.write_field.Goals as goal

pub returns : goal.returns
returns g c = then c.in_ok-write.ensures.writes c.write_text.ensures
