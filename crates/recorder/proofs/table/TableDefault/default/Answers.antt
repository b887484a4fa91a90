use Rattle.std.proofs.Common.{refl}
use Rattle.recorder.specs.Record.{zeros}
use Rattle.recorder.proofs.table.TableDefault.default.Goals as goal

pub returns : goal.returns
unfolding zeros
returns c = (refl, refl)
