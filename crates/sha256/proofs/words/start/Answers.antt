use Rattle.std.proofs.Common.{rules}
use Rattle.sha256.specs.Fips.{H0}
use Rattle.sha256.proofs.words.start.Goals as goal

pub returns : goal.returns
unfolding H0
returns c = search rules
