use Rattle.file_meaning.proofs.Judged.{every_file, not_both, one_fault}
use Rattle.file_meaning.proofs.laws.files_are_judged.Goals as goal

pub returns : goal.returns
returns c = record { every = every_file; apart = not_both; one = one_fault }
