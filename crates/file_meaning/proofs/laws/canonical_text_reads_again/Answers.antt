use Rattle.file_meaning.proofs.Again.{reads_again}
use Rattle.file_meaning.proofs.laws.canonical_text_reads_again.Goals as goal

pub returns : goal.returns
returns c = reads_again
