use Rattle.canonical.specs.Meanings.{a_derivation}
use Rattle.canonical.proofs.Unique.{means_once, keeps}
use Rattle.canonical.proofs.laws.meaning_is_unique.Goals as goal

pub returns : goal.returns
returns c = record { unique = λ t m n p q. means_once a_derivation t m n p q; keeps = λ t m w p. keeps a_derivation t m w p }
