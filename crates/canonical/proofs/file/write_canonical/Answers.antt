use Rattle.std.proofs.Common.{ap}
use Rattle.sink.proofs.Writing.{as_text}
use Rattle.canonical.specs.Files.{derivation_value}
use Rattle.canonical.specs.Meanings.{a_derivation, canonical}
use Rattle.canonical.proofs.Arranging.{settles}
use Rattle.canonical.proofs.Spans.{derivation_tells}
use Rattle.canonical.proofs.Unique.{means_once}
use Rattle.canonical.proofs.file.write_canonical.Goals as goal

pub returns : goal.returns
returns g c = λ at t m h a p.
    let text = c.args.text.now in
    let v = derivation_value text c.args.file in
    let w = derivation_value text c.sorted.result in
    let means = settles a_derivation t v w a (derivation_tells text at c.args.file t h) c.sorted.ensures in
    as_text (ap canonical (means_once a_derivation t w m means p)) c.write_derivation.ensures
