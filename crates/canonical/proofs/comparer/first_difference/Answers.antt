use Rattle.std.proofs.Common.{ap, sym, ◌∙◌, arith}
use Rattle.sink.specs.Write.{steps}
use Rattle.canonical.specs.Meanings.{canonical}
use Rattle.canonical.specs.Differences.{comparing, progress}
use Rattle.canonical.specs.declared.comparer.Comparison.{Comparison}
use Rattle.canonical.proofs.Bound.{bounded}
use Rattle.canonical.proofs.Watched.{state_after, all_taken, some_over}
use Rattle.canonical.proofs.comparer.first_difference.Goals as goal

pub returns-in_err-ok : goal.returns-in_err-ok
returns-in_err-ok c = λ at t m e h a p.
    let zero = c.new-comparer.ensures.1 in
    let w = some_over c.write_canonical.result (c.write_canonical.ensures at t m h a p) (sym c.in_err-ok.ensures.variant) in
    let b = bounded c.args.text.now t m e p in
    absurd (omega arith)

pub returns : goal.returns
returns c = λ at t m e h a p.
    let s = c.write_canonical.new.sink in
    let before = c.new-comparer.result in
    let begun = ap (λ (v : Comparison). steps comparing (progress v.text.now v.at) (canonical m)) c.new-comparer.ensures.0 in
    let w = (all_taken c.write_canonical.result (c.write_canonical.ensures at t m h a p) (sym c.in_ok-ok.ensures.variant)).1 in
    c.difference.ensures s.watching.text.now (canonical m)
    (state_after comparing (progress before.watching.text.now before.watching.at) (progress s.watching.text.now s.watching.at) (canonical m) before.count s.count w ∙ begun)
