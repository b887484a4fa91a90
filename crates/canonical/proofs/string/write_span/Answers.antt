use Rattle.std.proofs.Common.{false, ap}
use Rattle.std.proofs.lemmas.Iterator.Consumers.{YieldsList-from_first}
use Rattle.aterm.specs.Meaning.{meant, meant_left}
use Rattle.canonical.specs.Decode.{said}
use Rattle.canonical.proofs.string.write_span.Goals as goal

pub returns : goal.returns
returns g c =
    let meant_bytes = said c.args.text.now c.args.span.start c.args.span.«end» in
    let gives = YieldsList-from_first (λ x. x) meant_left meant_bytes (ap (meant false) c.meant.ensures) in
    c.write_quoted.ensures meant_bytes gives.runs
