use Rattle.std.proofs.Common.{◌≡◌, length, rules}
use Rattle.recorder.proofs.Firsts.{copied_kept, kept_taken}
use Rattle.recorder.proofs.layer.Recorder.kept.Goals as goal

pub returns : goal.returns
returns g c =
    let table = c.args.self.now.table in
    let long : length table.bytes ≡ 4096 = search rules in
    let state = copied_kept table.count table.bytes (g.S.Sink.held c.args.self.now.below).meaning.state c.args.out.now _ _ long c.copy_to.ensures in
    record { state = state; taken = kept_taken g.S.Sink.step _ c.args.out.now _ _ state }
