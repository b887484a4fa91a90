use Rattle.std.proofs.Common.{sym, subst}
use Rattle.canonical.specs.Order.{Compared}
use Rattle.canonical.proofs.Orders.{compared}
use Rattle.right_paths.proofs.HexOrder.{hex_compared}
use Rattle.right_paths.proofs.hash_input_canon.HashInputCanon.order.Goals as goal

pub returns : goal.returns
returns c =
    let a = c.args.self.now.hash.bytes in
    let b = c.args.other.now.hash.bytes in
    hex_compared a b c.cmp.result (subst (Compared a b) (sym c.cmp.ensures) (compared a b))
