use Rattle.std.proofs.Common.{refl}
use Rattle.canonical.proofs.Arranging.{along_same}
use Rattle.canonical.proofs.file.sorted.Goals as goal

pub returns : goal.returns
returns c = (c.arranged-outputs.ensures, (c.arranged-inputs.ensures, (c.arranged-sources.ensures, (refl, (refl, (along_same _, c.arranged-environment.ensures))))))
