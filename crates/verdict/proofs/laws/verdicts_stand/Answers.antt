use Rattle.verdict.proofs.Every.{every_verdict}
use Rattle.verdict.proofs.Exactly.{accepted_exactly}
use Rattle.verdict.proofs.One.{one_verdict}
use Rattle.verdict.proofs.laws.verdicts_stand.Goals as goal

pub returns : goal.returns
returns c = record { every = every_verdict; one = one_verdict; accepted = accepted_exactly }
