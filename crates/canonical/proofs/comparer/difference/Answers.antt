use Rattle.std.proofs.Common.{sym, ap, ◌∙◌, subst}
use Rattle.canonical.specs.Differences.{FirstDifference, progress}
use Rattle.canonical.proofs.Compared.{whole_or_front, parted_there}
use Rattle.canonical.proofs.comparer.difference.Goals as goal

pub returns-in-Ok : goal.returns-in-Ok
returns-in-Ok c = λ other bytes h.
    let t = c.args.text.now in
    subst (FirstDifference t bytes) (sym c.then_some.ensures)
    (whole_or_front t bytes other c.in-Ok.end (ap (progress other) (sym c.in-Ok.is) ∙ h))

pub returns-in-Err : goal.returns-in-Err
returns-in-Err c = λ other bytes h. parted_there c.args.text.now bytes other c.in-Err.place (ap (progress other) (sym c.in-Err.is) ∙ h)
