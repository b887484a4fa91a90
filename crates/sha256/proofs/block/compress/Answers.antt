use Rattle.std.proofs.Common.{rules}
use Rattle.sha256.specs.Fips.{block}
use Rattle.sha256.proofs.block.compress.Goals as goal

pub returns : goal.returns
unfolding block
returns c = search rules
