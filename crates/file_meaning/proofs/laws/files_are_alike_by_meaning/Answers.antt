use Rattle.file_meaning.proofs.Again.{alike}
use Rattle.file_meaning.proofs.laws.files_are_alike_by_meaning.Goals as goal

pub returns : goal.returns
returns c = alike
