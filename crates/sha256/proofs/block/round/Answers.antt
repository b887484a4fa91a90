use Rattle.std.proofs.Common.{rules}
use Rattle.sha256.specs.Fips.{round}
use Rattle.sha256.proofs.block.round.Goals as goal

pub returns : goal.returns
unfolding round
returns c = search rules
