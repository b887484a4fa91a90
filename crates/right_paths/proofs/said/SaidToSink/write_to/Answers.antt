use Rattle.std.proofs.Common.{ap, ◌∙◌}
use Rattle.aterm.specs.Meaning.{meant_left}
use Rattle.canonical.proofs.Leading.{lead_more, lead_end}
use Rattle.sink.proofs.Writing.{as_text, done}
use Rattle.right_paths.proofs.Sayings.{meant_said}
use Rattle.right_paths.proofs.said.SaidToSink.write_to.Goals as goal

pub loop-b-preserved : goal.loop-b-preserved
loop-b-preserved g c = lead_more c.loop-b.invariant c.in-Some.ensures.steps c.in_ok-write.ensures.writes

pub returns : goal.returns
returns g c =
    as_text (ap meant_left c.into_iter-b-iterator.ensures.into_iter_gives ∙ meant_said c.args.self.now _ c.meant-b-items.ensures)
    (lead_end c.loop-b.invariant c.in-None.ensures.steps.0 (done _ (g.S.Sink.wraps c.loop-b.sink)))
