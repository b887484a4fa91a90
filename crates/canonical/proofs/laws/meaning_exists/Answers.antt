use Rattle.canonical.specs.Meanings.{a_derivation}
use Rattle.canonical.proofs.Exist.{exists}
use Rattle.canonical.proofs.laws.meaning_exists.Goals as goal

pub returns : goal.returns
returns c = λ t a. exists a_derivation t a
