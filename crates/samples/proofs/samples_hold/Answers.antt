use Rattle.std.proofs.Common.{refl}
use Rattle.samples.specs.Samples.{samples}
use Rattle.samples.proofs.Tables.{table_holds}
use Rattle.store_path.specs.Base32.{base32, fold}
use Rattle.samples.proofs.samples_hold.Goals as goal

pub returns : goal.returns
unfolding samples base32 fold
returns c = table_holds samples refl
