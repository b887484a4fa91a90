use Rattle.canonical.proofs.Bound.{bounded}
use Rattle.canonical.proofs.laws.canonical_is_short.Goals as goal

pub returns : goal.returns
returns c = bounded
