use Rattle.std.proofs.Common.{ℕ, ◌+◌, Bool, List, [], arith, rules}
use Rattle.store_path.proofs.Made.{made}
use Rattle.checker.specs.Ways.{RowRight}
use Rattle.checker.proofs.checker.OpenSet.edges.Goals as goal

pub returns : goal.returns
returns c a low =
    (made c.from_fn.result (λ (i : ℕ) (y : List Bool). RowRight c.args.self.now.files.links (i + 1) y) 256 []
    (λ i y q h called. (search rules, search rules)) c.from_fn.ensures.items a low).says (omega arith) (omega (arith, low))
