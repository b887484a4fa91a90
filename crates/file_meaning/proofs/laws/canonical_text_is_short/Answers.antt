use Rattle.file_meaning.proofs.Again.{short}
use Rattle.file_meaning.proofs.laws.canonical_text_is_short.Goals as goal

pub returns : goal.returns
returns c = short
