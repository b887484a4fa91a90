use Rattle.std.proofs.Common.{◌+◌, rules, ◌∙◌}
use Rattle.aterm.specs.Grammar.{string}
use Rattle.aterm.specs.Reads.{past}
use Rattle.aterm.specs.Files.{span}
use Rattle.derivation.proofs.Scan.{each_as}
use Rattle.derivation.proofs.formed.FormedInputAskInput.says.Goals as goal

pub returns-then-ends_with_drv : goal.returns-then-ends_with_drv
returns-then-ends_with_drv c = λ from xs at x a h.
    let inner = past string at x.0 + 1 in
    let path = c.bytes-path.ensures ∙ h.0.cut in
    let names = c.all_yes.ensures inner x.1 (each_as string (λ p v. span c.args.text.now v p) inner x.1 c.as_slice.ensures h.1) in
    rw (← path) (search rules)
