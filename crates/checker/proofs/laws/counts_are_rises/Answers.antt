use Rattle.checker.proofs.Counting.{count_is_rise}
use Rattle.checker.proofs.Rising.{totals_rise}
use Rattle.checker.proofs.Steps.{totals_small}
use Rattle.checker.proofs.laws.counts_are_rises.Goals as goal

pub returns : goal.returns
returns c = record { rise = count_is_rise; small = totals_small; run = totals_rise }
