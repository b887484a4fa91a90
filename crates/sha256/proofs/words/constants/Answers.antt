use Rattle.std.proofs.Common.{refl}
use Rattle.sha256.specs.Fips.{K}
use Rattle.sha256.proofs.words.constants.Goals as goal

pub returns : goal.returns
unfolding K
returns c = refl
