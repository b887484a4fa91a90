use Rattle.checker.specs.Seen.{view_of}
use Rattle.checker.specs.Settling.{kind_of}
use Rattle.checker.specs.Soundness.{SoundView}
use Rattle.checker.proofs.Plays.{SoFar}
use Rattle.checker.proofs.checker.Checker.play.Given as goal

abbrev pub invariant-loop-i : goal.invariant-loop-i
invariant-loop-i g l =
    let s = g.S.Sink in
    let d = g.S.DigestSink in
    let kind = kind_of s.step d.start d.capacity d.answered d.wide in
    SoundView kind (view_of l.fn.self)
    → SoFar s.held kind l.calls l.fn.answers (record { checker = l.fn.self; sink = l.fn.sink; buffer = l.fn.buffer }) l.i l.last l.answers (record { checker = l.self; sink = l.sink; buffer = l.buffer })
