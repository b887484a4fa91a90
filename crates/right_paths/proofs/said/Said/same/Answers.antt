use Rattle.std.proofs.Common.{◌≡◌, ap, ◌∙◌}
use Rattle.std.specs.Iterator.{YieldsFirst}
use Rattle.std.proofs.lemmas.Iterator.Consumers.{YieldsList-from_first}
use Rattle.aterm.specs.Meaning.{meant_left}
use Rattle.aterm.specs.declared.meant.Meant.{Meant}
use Rattle.aterm.proofs.Runs.{eq_decides}
use Rattle.canonical.specs.Files.{said_in}
use Rattle.right_paths.specs.Views.{said_by}
use Rattle.right_paths.proofs.Sayings.{meant_said}
use Rattle.right_paths.proofs.said.Said.same.Goals as goal

pub returns : goal.returns
returns c =
    let mine = said_by c.args.self in
    let other = said_in c.args.self.text.now c.args.other in
    eq_decides (YieldsFirst meant_left) (λ (s t : Meant). t ≡ s) (YieldsFirst meant_left) c.meant.result c.meant-2.result mine other
    (YieldsList-from_first (λ x. x) meant_left mine (meant_said c.args.self _ c.meant.ensures))
    (λ it e. YieldsList-from_first (λ x. x) meant_left other (ap meant_left e ∙ meant_said (record { text = c.args.self.text; span = c.args.other }) _ c.meant-2.ensures))
    c.eq.result c.eq.ensures.ran
