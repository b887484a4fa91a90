use Rattle.std.proofs.Common.{sym, subst}
use Rattle.canonical.specs.Order.{Compared}
use Rattle.canonical.proofs.Orders.{compared}
use Rattle.canonical.proofs.string.compare_bytes.Goals as goal

pub returns : goal.returns
returns c = subst (Compared c.args.a.now c.args.b.now) (sym c.cmp.ensures) (compared c.args.a.now c.args.b.now)
