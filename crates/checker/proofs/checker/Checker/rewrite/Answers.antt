use Rattle.std.proofs.Common.{refl}
use Rattle.checker.specs.Seen.{view_in}
use Rattle.checker.proofs.Rewritten.{rewritten_in}
use Rattle.checker.proofs.checker.Checker.rewrite.Goals as goal

pub returns : goal.returns
returns c =
    let path = c.in_ok-file.file.path.now in
    let text = c.in_ok-file.file.text.now in
    let out = c.args.out.now in
    let there = c.in_ok-file.ensures in
    let r = c.write_canonical_text.result in
    let after = c.write_canonical_text.new.out in
    let done = c.write_canonical_text.ensures in
    rewritten_in c.args.self.now.opened (view_in c.in_ok-set.field-0.now) c.args.file path text out r after c.in_ok-set.ensures refl there.0 there.1 there.2 done
