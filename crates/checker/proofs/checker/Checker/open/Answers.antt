use Rattle.std.proofs.Common.{sym, subst}
use Rattle.checker.specs.Soundness.{SoundView}
use Rattle.checker.proofs.Keeping.{fresh_sound}
use Rattle.checker.proofs.checker.Checker.open.Goals as goal

pub returns-clause-sound : goal.returns-clause-sound
returns-clause-sound c = λ kind. subst (SoundView kind) (sym c.new.ensures) (fresh_sound kind _ _)
