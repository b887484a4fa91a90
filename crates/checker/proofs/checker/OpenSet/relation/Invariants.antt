use Rattle.checker.specs.Ways.{Way, AllSay}
use Rattle.checker.proofs.checker.OpenSet.relation.Given as goal

abbrev pub invariant-turns : goal.invariant-turns
invariant-turns l = AllSay l.relation.rows (Way l.self.files.links l.middle)
