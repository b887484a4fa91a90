use Rattle.derivation.proofs.Total.{every_tree}
use Rattle.derivation.proofs.laws.every_tree_is_judged.Goals as goal

pub returns : goal.returns
returns c = every_tree
