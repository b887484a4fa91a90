use Rattle.std.proofs.Common.{rules}
use Rattle.recorder.proofs.Records.{recorded_begun, same_digest}
use Rattle.recorder.proofs.layer.RecorderDigestSink.begin.Goals as goal

pub returns : goal.returns
returns g c =
    let s = c.args.self.now in
    let k = g.S.Sink.held c.begin.new.self in
    record {
      begins = recorded_begun g.S.DigestSink.start g.S.DigestSink.capacity s.table.count _ s.table.bytes _ (g.S.Sink.held s.below) k
          (search rules) (search rules) c.begin.ensures.begins;
      below = same_digest g.S.Sink.step g.S.DigestSink.start g.S.DigestSink.answered;
    }
