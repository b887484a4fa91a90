use Rattle.std.proofs.Common.{ℕ, ◌+◌, Bool, false, rules}
use Rattle.store_path.proofs.Made.{made}
use Rattle.checker.specs.Ways.{SaysNamed}
use Rattle.checker.proofs.checker.cycles.named.Goals as goal

pub returns : goal.returns
returns c b low = (made c.from_fn.result (λ (i : ℕ) (y : Bool). SaysNamed c.args.links.now (i + 1) y) 256 false (λ i y q h called. (search rules, search rules)) c.from_fn.ensures.items b low).says
