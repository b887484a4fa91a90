use Rattle.std.proofs.Common.{ap, ◌∙◌}
use Rattle.aterm.specs.Meaning.{meant_left}
use Rattle.judge.specs.Matching.{expected}
use Rattle.judge.proofs.Matched.{next_matched}
use Rattle.judge.proofs.matcher.pass.Goals as goal

pub returns : goal.returns
returns c = ap expected c.then_some.ensures ∙ next_matched (meant_left c.args.here) c.in_ok-next.field-0 c.args.b c.next.new.self c.in_ok-next.ensures.steps
