use Rattle.std.proofs.Common.{rules, ◌∙◌}
use Rattle.derivation.proofs.formed.FormedOutputAskOutput.says.Goals as goal
use Rattle.derivation.proofs.formed.FormedOutputAskOutput.says.Goals.{then-is_plain_path, else-is_plain_path}

pub returns-then-is_plain : goal.returns-then-is_plain
returns-then-is_plain c = λ from xs at x a h.
    let name = c.bytes.ensures ∙ h.0.cut in
    let path = h.1.0.cut in
    let algorithm = h.1.1.0.cut in
    let hash = c.bytes-then-is_plain.ensures ∙ h.1.1.1.cut in
    rw (← name, ← path, ← algorithm, ← hash) (search rules)

pub returns-else-is_plain : goal.returns-else-is_plain
returns-else-is_plain c = λ from xs at x a h.
    let name = c.bytes.ensures ∙ h.0.cut in
    let path = h.1.0.cut in
    let algorithm = h.1.1.0.cut in
    elim c.if-is_plain_path.branch [
      | then-is_plain_path w ↦ rw (← name, ← path, ← algorithm) (search rules)
      | else-is_plain_path w ↦ rw (← name, ← path) (search rules)
    ]
