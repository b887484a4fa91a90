use Rattle.std.proofs.Common.{refl}
use Rattle.canonical.proofs.Back.{not_proper}
use Rattle.canonical.proofs.laws.needless_escape_is_dropped.Goals as goal

pub returns : goal.returns
returns c = record { stands = refl; means = refl; read = refl; written = refl; not = λ p. not_proper 97 refl p.0 }
