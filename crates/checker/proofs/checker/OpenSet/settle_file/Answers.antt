use Rattle.std.proofs.Common.{sym, ap, subst}
use Rattle.checker.specs.Seen.{view_in}
use Rattle.checker.specs.Settling.{kind_of, faulted, ReadDecided}
use Rattle.sink.specs.Write as sinks
use Rattle.checker.proofs.checker.OpenSet.settle_file.Goals as goal

pub returns-in-Err : goal.returns-in-Err
returns-in-Err g c =
    let kind = kind_of g.S.Sink.step g.S.DigestSink.start g.S.DigestSink.capacity g.S.DigestSink.answered g.S.DigestSink.wide in
    let before = (g.S.Sink.held c.args.sink.now).meaning in
    let stays = ap (λ s. (g.S.Sink.held s).meaning) c.in-Err.ensures.same in
    subst (λ (m : sinks.Meaning). ReadDecided kind (view_in c.args.self.now) c.args.file.path.now c.args.file.text.now before (faulted c.in-Err.fault) 0 m) (sym stays) c.in-Err.ensures.faulty
