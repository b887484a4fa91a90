use Rattle.std.proofs.Common.{◌+◌, ◌≤◌, length}
use Rattle.std.specs.Iterator.{size}
use Rattle.hash_rows.specs.Rows.{Gathered}
use Rattle.hash_rows.specs.Seen.{held}
use Rattle.hash_rows.proofs.table.calls.gather_from.Given as goal

-- what is held and what may still come are 64 rows at most
abbrev pub invariant-loop-pair : goal.invariant-loop-pair
invariant-loop-pair g l = (length (held l.table) + size (g.I.Iterator.remaining l.pair-iterator) ≤ 64) × Gathered l.yielded (held l.table)
