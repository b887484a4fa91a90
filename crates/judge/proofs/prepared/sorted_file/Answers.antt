use Rattle.canonical.specs.Files.{derivation_value}
use Rattle.canonical.specs.Meanings.{a_derivation}
use Rattle.canonical.proofs.Arranging.{settles}
use Rattle.canonical.proofs.Spans.{derivation_tells}
use Rattle.canonical.proofs.Unique.{keeps}
use Rattle.file_meaning.proofs.Trees.{passes}
use Rattle.file_meaning.proofs.Values.{keys_apart}
use Rattle.file_meaning.specs.Reads.{Reads}
use Rattle.hash_modulo.proofs.Within.{within_limits}
use Rattle.judge.proofs.prepared.sorted_file.Goals as goal

pub returns : goal.returns
returns c =
    let path = c.args.path.now in
    let text = c.args.text.now in
    let file = c.args.file.now in
    let a = c.requires.reads in
    let x = a.reading.tree in
    let m = derivation_value text c.sorted.result in
    let apart = keys_apart path x (passes path x a.passed) in
    let means = settles a_derivation x (derivation_value text file) m apart (derivation_tells text 7 file x a.reading.held) c.sorted.ensures in
    let reads : Reads path text m = record { tree = x; written = a.reading.written; within = a.reading.within; passed = a.passed; means = means } in
    record {
      judgeable = record { tree = x; written = a.reading.written; held = a.reading.held; apart = apart; means = means; stored = c.requires.stored };
      reads = reads;
      limits = within_limits path text m c.requires.near c.requires.short reads;
      lawful = keeps a_derivation x m a.reading.within means;
    }
