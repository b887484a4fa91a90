use Rattle.std.proofs.Common.{◌≡◌, take, drop}
use Rattle.std.specs.List.{AllZip}
use Rattle.canonical.proofs.Arranging.{Moves}
use Rattle.canonical.proofs.row.arrange.Given as goal

abbrev pub invariant-loop-i : goal.invariant-loop-i
invariant-loop-i g l =
    (drop l.i l.rows ≡ drop l.i l.initial.rows)
    × AllZip (Moves g.T.Canon.kind (g.T.Canon.value l.text)) (take l.i l.initial.rows) (take l.i l.rows)
