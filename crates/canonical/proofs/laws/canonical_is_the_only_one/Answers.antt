use Rattle.canonical.proofs.Home.{has_one}
use Rattle.canonical.proofs.Back.{written_back}
use Rattle.canonical.proofs.laws.canonical_is_the_only_one.Goals as goal

pub returns : goal.returns
returns c = record { has = has_one; only = λ bytes m t. written_back bytes t.tree m t.written t.proper t.means; back = written_back }
