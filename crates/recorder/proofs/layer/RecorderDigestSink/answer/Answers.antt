use Rattle.std.proofs.Common.{◌≡◌, length, rules, ◌∙◌}
use Rattle.recorder.proofs.Records.{answer_below}
use Rattle.recorder.proofs.layer.RecorderDigestSink.answer.Goals as goal

pub returns : goal.returns
returns g c =
    let table = c.args.self.now.table in
    let long : length table.bytes ≡ 4096 = search rules in
    record { answers = c.answer.ensures.answers ∙ answer_below g.S.DigestSink.answered table.count table.bytes _ long }
