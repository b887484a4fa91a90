use Rattle.file_meaning.proofs.Meanings.{one_meaning}
use Rattle.file_meaning.proofs.laws.files_have_one_meaning.Goals as goal

pub returns : goal.returns
returns c = one_meaning
