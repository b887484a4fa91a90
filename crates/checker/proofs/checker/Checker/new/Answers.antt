use Rattle.std.proofs.Common.{refl}
use Rattle.checker.proofs.Keeping.{none_sound}
use Rattle.checker.proofs.checker.Checker.new.Goals as goal

pub returns : goal.returns
returns c = record { none = refl; sound = λ kind. none_sound kind _ refl }
