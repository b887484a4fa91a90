use Rattle.std.proofs.Common.{◌≡◌, length}
use Rattle.right_path_cases.proofs.hashes_of.Given as goal

abbrev pub invariant-loop-input : goal.invariant-loop-input
invariant-loop-input l = length l.hashes.items ≡ l.input-index
