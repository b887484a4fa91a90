use Rattle.std.proofs.lemmas.Iterator.{YieldsList-from_slice}
use Rattle.std.proofs.lemmas.Iterator.Consumers.{YieldsList-at, YieldsList-from_copied}
use Rattle.hash_rows.proofs.table.calls.gather.Goals as goal

pub returns : goal.returns
returns c =
    let pairs = c.args.pairs.now in
    c.gather_from.ensures pairs (YieldsList-from_copied (YieldsList-at c.copied.ensures.source (YieldsList-from_slice pairs c.iter.ensures.rest))).runs
