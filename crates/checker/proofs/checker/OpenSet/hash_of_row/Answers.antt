use Rattle.std.proofs.Common.{◌≡◌, get_or, subst, rules}
use Rattle.aterm.specs.declared.rows.Placed.{Placed}
use Rattle.aterm.specs.declared.file.Input.{Input}
use Rattle.canonical.specs.Files.{said_in}
use Rattle.checker.specs.Seen.{view_in}
use Rattle.checker.specs.Settling.{HashFor}
use Rattle.checker.proofs.Looking.{unwrapped}
use Rattle.checker.proofs.checker.OpenSet.hash_of_row.Goals as goal

pub returns : goal.returns
returns c = λ r l.
    let text = c.args.text.now in
    let row = c.in-Some.row.now in
    let here : row ≡ get_or c.args.inputs.now c.args.i r = search rules in
    subst (λ (w : Placed Input). HashFor (view_in c.args.self.now) (said_in text w.value.path) c.unwrap_or_default.result) here
    (record {
      right = λ k h a u. unwrapped c.hash_at.result _ c.unwrap_or_default.result h.hash c.unwrap_or_default.ensures (c.hash_at.ensures k h a u);
    })
