use Rattle.std.proofs.Common.{◌≡◌, length, rules, ap}
use Rattle.std.proofs.lemmas.Result.{MatchResult-from_err}
use Rattle.sink.specs.Write.{Held}
use Rattle.recorder.specs.Record.{recording, recorded}
use Rattle.sink.proofs.Writing.{kept, refused}
use Rattle.recorder.proofs.Records.{recorded_taken, same_below}
use Rattle.recorder.proofs.layer.RecorderSink.write.Goals as goal

pub returns-in_err-write : goal.returns-in_err-write
returns-in_err-write g c =
    let s = c.args.self.now in
    let stayed = c.in_err-write.ensures.same in
    let layer : Held → Held = recorded s.table.count s.table.bytes in
    let h = g.S.Sink.held s.below in
    let k = g.S.Sink.held c.write.new.self in
    let as_it_was : k ≡ h = ap g.S.Sink.held {x = c.write.new.self} {y = s.below} stayed in
    record {
      writes =
          refused c.from_residual.ensures.0
          (kept (recording 4096 g.S.Sink.step) (layer h) (layer k) c.args.bytes.now (g.S.Sink.wraps s.below) c.in_err-write.ensures.writes.told.over (ap layer as_it_was));
      same = MatchResult-from_err _ _ _ c.from_residual.ensures.0 (λ _. same_below s.table c.write.new.self s.below stayed);
    }

pub returns : goal.returns
returns g c =
    let s = c.args.self.now in
    let long : length s.table.bytes ≡ 4096 = search rules in
    record {
      writes =
          record {
            told =
                recorded_taken g.S.Sink.step s.table.count _ s.table.bytes _ c.args.bytes.now (g.S.Sink.held s.below) (g.S.Sink.held c.write.new.self)
                long c.keep.ensures.0 c.keep.ensures.1 c.in_ok-write.ensures.writes.told;
          };
      same = tt;
    }
