use Rattle.canonical.proofs.Home.{at_home}
use Rattle.canonical.proofs.laws.canonical_reads_back.Goals as goal

pub returns : goal.returns
returns c = at_home
