use Rattle.right_paths.proofs.Naming.{after_front}
use Rattle.right_paths.proofs.names.name_of.Goals as goal

pub returns : goal.returns
returns c = after_front c.args.path.now 44 c.min-at.result c.min-at.ensures
