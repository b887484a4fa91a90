use Rattle.std.proofs.Common.{rules}
use Rattle.std.proofs.lemmas.Fn.{always_returns_same}
use Rattle.hash_rows.proofs.Changing.{beside, found}
use Rattle.hash_rows.proofs.table.calls.place.Goals as goal

pub returns : goal.returns
returns c =
    let facts = c.binary_search_by.ensures in
    let by_hash = facts.position (beside c.args.hash.now.bytes) (always_returns_same _ _ _ (λ a r f called. search rules)) in
    found c.args.rows.now c.requires c.args.hash.now.bytes _ facts.bound by_hash
