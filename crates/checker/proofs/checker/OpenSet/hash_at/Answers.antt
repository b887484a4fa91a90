use Rattle.std.proofs.Common.{ap, ◌∙◌}
use Rattle.right_paths.specs.Views.{said_by}
use Rattle.checker.specs.Seen.{view_in}
use Rattle.checker.specs.Settling.{hash_kept}
use Rattle.checker.proofs.Looking.{kept_at}
use Rattle.checker.proofs.checker.OpenSet.hash_at.Goals as goal

pub returns : goal.returns
returns c = λ k h a u.
    c.hash_in.ensures
    ∙ ap hash_kept c.get.ensures
    ∙ kept_at (view_in c.args.self.now) c.args.self.now.files.image.opens (said_by c.args.path) c.in_ok-file.file c.in_ok-file.ensures k h a u
