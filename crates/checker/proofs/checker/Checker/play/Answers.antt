use Rattle.std.proofs.Common.{ℕ, ◌<◌, min, length, subst, arith}
use Rattle.std.proofs.lemmas.List.{get_or_default}
use Rattle.checker.proofs.Plays.{none_so_far, one_more, played}
use Rattle.checker.proofs.checker.Checker.play.Goals as goal

pub loop-i-init : goal.loop-i-init
loop-i-init g c =
    none_so_far g.S.Sink.held _ c.args.calls.now c.args.answers.now (record { checker = c.args.self.now; sink = c.args.sink.now; buffer = c.args.buffer.now })

pub loop-i-preserved : goal.loop-i-preserved
loop-i-preserved g c = λ sound.
    let cs = c.args.calls.now in
    let i = c.loop-i.i in
    let within : i < min (length cs) (length c.args.answers.now) = subst (λ (n : ℕ). i < n) c.min-count.ensures c.loop-i-test.true in
    let low : i < length cs = omega arith in
    let room : i < length c.args.answers.now = omega arith in
    one_more g.S.Sink.held _ cs c.args.answers.now (record { checker = c.args.self.now; sink = c.args.sink.now; buffer = c.args.buffer.now })
    i c.loop-i.last c.loop-i.answers (record { checker = c.loop-i.self; sink = c.loop-i.sink; buffer = c.loop-i.buffer })
    _ c.turn.result c.turn.new.last (record { checker = c.turn.new.self; sink = c.turn.new.sink; buffer = c.turn.new.buffer })
    low room (get_or_default cs i _ _ low) (c.loop-i.invariant sound) c.turn.ensures

pub returns : goal.returns
returns g c = λ sound.
    let cs = c.args.calls.now in
    played g.S.Sink.held _ cs c.args.answers.now (record { checker = c.args.self.now; sink = c.args.sink.now; buffer = c.args.buffer.now })
    c.loop-i.i c.loop-i.last c.min-count.result c.loop-i.answers (record { checker = c.loop-i.self; sink = c.loop-i.sink; buffer = c.loop-i.buffer })
    (omega arith) c.min-count.ensures (c.loop-i.invariant sound)
