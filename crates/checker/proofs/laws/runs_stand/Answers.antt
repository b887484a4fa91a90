use Rattle.checker.proofs.Buffers.{refused_stays, written_stays}
use Rattle.checker.proofs.Keeping.{fresh_sound}
use Rattle.checker.proofs.Steps.{sound_steps, runs_split}
use Rattle.checker.proofs.Telling.{client_theorem, run_theorem}
use Rattle.checker.proofs.laws.runs_stand.Goals as goal

pub returns : goal.returns
returns c = record { client = client_theorem; right = run_theorem; fresh = fresh_sound; sound = sound_steps; refused = refused_stays; written = written_stays; split = runs_split }
