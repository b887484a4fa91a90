use Rattle.checker.proofs.Ways.{circle_in}
use Rattle.checker.proofs.checker.Checker.circle.Goals as goal

pub returns-in-Some : goal.returns-in-Some
returns-in-Some c = circle_in c.args.self.now.opened c.in-Some.set c.circle.result c.in-Some.is c.circle.ensures
