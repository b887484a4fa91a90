use Rattle.image.proofs.Answers.{one_answer}
use Rattle.image.proofs.Total.{some_answer}
use Rattle.image.proofs.image.open.one_answer.Goals as goal

pub returns : goal.returns
returns c = record { some = some_answer; one = one_answer }
