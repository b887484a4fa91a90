use Rattle.std.proofs.Common.{ap}
use Rattle.sink.proofs.Digesting.{digested, too_long}
use Rattle.sink.proofs.digest.digest_of.Goals as goal

pub returns : goal.returns
returns g c = record {
  large = c.begin.ensures.begins.large;
  digests = digested g.S.DigestSink.answered (g.S.Sink.held c.args.sink.now).meaning c.begin.ensures.begins c.in_ok-write.ensures.writes c.answer.ensures.answers;
}

pub returns-in_err-write : goal.returns-in_err-write
returns-in_err-write g c = record {
  large = c.begin.ensures.begins.large;
  digests = too_long g.S.DigestSink.answered (g.S.Sink.held c.args.sink.now).meaning _ c.begin.ensures.begins c.in_err-write.ensures.writes (ap g.S.Sink.held c.in_err-write.ensures.same) c.from_residual.ensures.0;
}
