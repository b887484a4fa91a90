use Rattle.std.proofs.Common.{◌≡◌, take, drop}
use Rattle.std.specs.List.{AllZip}
use Rattle.aterm.proofs.rows.Rows.map.Given as goal

abbrev pub invariant-loop-i : goal.invariant-loop-i
invariant-loop-i g l =
    (drop l.i l.items ≡ drop l.i l.fn.self.items)
    × AllZip (λ v w. (w.place ≡ v.place) × goal.F-post g l.fn.change v.value w.value) (take l.i l.fn.self.items) (take l.i l.items)
