use Rattle.checker.proofs.Answering.{sound_hashes_hold, every_call_answers}
use Rattle.checker.proofs.Playing.{every_list_runs}
use Rattle.checker.proofs.laws.every_call_answers.Goals as goal

pub returns : goal.returns
returns c = record { every = every_call_answers; sound = sound_hashes_hold; lists = every_list_runs }
