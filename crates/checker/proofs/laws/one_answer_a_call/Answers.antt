use Rattle.checker.proofs.Single.{one_call_answer}
use Rattle.checker.proofs.laws.one_answer_a_call.Goals as goal

pub returns : goal.returns
returns c = one_call_answer
