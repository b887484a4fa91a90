use Rattle.checker.proofs.Opening.{some_opening, one_opening}
use Rattle.checker.proofs.laws.opening_stands.Goals as goal

pub returns : goal.returns
returns c = record { some = some_opening; one = one_opening }
