use Rattle.std.proofs.Common.{refl}
use Rattle.samples_of_verdicts.specs.Samples.{samples}
use Rattle.samples_of_verdicts.proofs.Worked.{needless, accepted, wrong}
use Rattle.store_path.specs.Base32.{base32, fold}
use Rattle.samples_of_verdicts.proofs.samples_hold.Goals as goal

pub returns : goal.returns
unfolding samples base32 fold
returns c = (refl, (refl, (refl, (refl, (refl, (needless, (accepted, (wrong, tt))))))))
