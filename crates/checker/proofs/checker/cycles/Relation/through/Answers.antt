use Rattle.std.proofs.Common.{ℕ, Bool, List, [], get_or, rules}
use Rattle.store_path.proofs.Made.{made}
use Rattle.checker.specs.Ways.{RowJoined, flag_at}
use Rattle.checker.proofs.checker.cycles.Relation.through.Goals as goal

pub returns : goal.returns
returns c =
    let rows = c.args.self.now.rows in
    let m = c.args.middle in
    made c.from_fn.result (λ (i : ℕ) (y : List Bool). RowJoined (get_or rows i []) (flag_at rows i m) (get_or rows m []) y) 256 []
    (λ i y q low called. (search rules, search rules)) c.from_fn.ensures.items
