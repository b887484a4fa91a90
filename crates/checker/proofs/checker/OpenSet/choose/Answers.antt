use Rattle.checker.specs.Seen.{view_in}
use Rattle.checker.proofs.Choosing.{chosen_ready, chosen_pending}
use Rattle.checker.proofs.checker.OpenSet.choose.Goals as goal

pub returns-in-Some : goal.returns-in-Some
returns-in-Some c = chosen_ready (view_in c.args.self.now) c.in-Some.file c.in-Some.ensures

pub returns-in-None : goal.returns-in-None
returns-in-None c = chosen_pending (view_in c.args.self.now) c.first_pending.result c.in-None.ensures c.first_pending.ensures
