use Rattle.std.proofs.Common.{ap, sym, ◌∙◌, arith}
use Rattle.aterm.specs.Meaning.{meant_left}
use Rattle.canonical.proofs.Watched.{state_after, all_taken, some_over}
use Rattle.right_paths.specs.Views.{said_by}
use Rattle.right_paths.proofs.Sayings.{meant_said}
use Rattle.sink.specs.Write.{steps}
use Rattle.judge.specs.Matching.{matching, expected}
use Rattle.judge.specs.declared.matcher.Rest.{Rest}
use Rattle.judge.proofs.Matched.{is_through, too_long}
use Rattle.judge.proofs.matcher.means.Goals as goal

pub returns-then-is_ok : goal.returns-then-is_ok
returns-then-is_ok g c =
    let s = c.write_to.new.sink in
    let before = c.new-matcher.result in
    let ys = g.T.ToSink.bytes c.args.what.now in
    let begun = ap (λ (v : Rest). steps matching (expected v.to_come) ys) c.new-matcher.ensures.0 in
    let w = (all_taken c.write_to.result c.write_to.ensures (sym c.is_ok.ensures.value ∙ c.if-is_ok.true)).1 in
    let after = state_after matching (expected before.watching.to_come) (expected s.watching.to_come) ys before.count s.count w ∙ begun in
    is_through c.is_through.result (said_by c.args.string) (meant_left c.meant.result) (meant_said c.args.string _ c.meant.ensures) (expected s.watching.to_come) ys after c.is_through.ensures

pub returns-else-is_ok : goal.returns-else-is_ok
returns-else-is_ok g c =
    let zero = c.new-matcher.ensures.1 in
    let w = (some_over c.write_to.result c.write_to.ensures (sym c.is_ok.ensures.value ∙ c.if-is_ok.false)).over in
    rw c.if-is_ok.false (too_long c.args.string.text.now (g.T.ToSink.bytes c.args.what.now) c.args.string.span.start c.args.string.span.«end» (omega arith))
