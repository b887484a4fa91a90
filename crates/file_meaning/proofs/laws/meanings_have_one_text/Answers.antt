use Rattle.file_meaning.proofs.Again.{one_text, back}
use Rattle.file_meaning.proofs.laws.meanings_have_one_text.Goals as goal

pub returns : goal.returns
returns c = record { one = one_text; back = back }
