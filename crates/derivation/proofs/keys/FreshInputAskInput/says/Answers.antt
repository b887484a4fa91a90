use Rattle.std.proofs.Common.{◌+◌, rules}
use Rattle.aterm.specs.Grammar.{string}
use Rattle.aterm.specs.Reads.{past}
use Rattle.aterm.specs.Files.{span}
use Rattle.derivation.proofs.Scan.{each_as}
use Rattle.derivation.proofs.keys.FreshInputAskInput.says.Goals as goal

pub returns-then-says : goal.returns-then-says
returns-then-says c = λ from xs at x a h.
    let inner = past string at x.0 + 1 in
    let path = c.says.ensures from xs at x a h in
    let names = c.all_yes.ensures inner x.1 (each_as string (λ p v. span c.args.text.now v p) inner x.1 c.as_slice.ensures h.1) in
    (λ e. (path.0 c.if-says.true, names.0 e), λ y. names.1 y.1)

pub returns-else-says : goal.returns-else-says
returns-else-says c = λ from xs at x a h. search (rules, c.says.ensures from xs at x a h)
