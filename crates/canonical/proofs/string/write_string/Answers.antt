use Rattle.std.proofs.lemmas.Iterator.{YieldsList-from_slice}
use Rattle.std.proofs.lemmas.Iterator.Consumers.{YieldsList-from_copied}
use Rattle.canonical.proofs.string.write_string.Goals as goal

pub returns : goal.returns
returns g c =
    let gives = YieldsList-from_copied (YieldsList-from_slice c.args.bytes.now cc) in
    c.write_quoted.ensures c.args.bytes.now gives.runs
