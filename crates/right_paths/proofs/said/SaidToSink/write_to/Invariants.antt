use Rattle.aterm.specs.Meaning.{meant_left}
use Rattle.sink.specs.Write.{Leads}
use Rattle.sink.specs.declared.full.Full.{Full}
use Rattle.right_paths.proofs.said.SaidToSink.write_to.Given as goal

abbrev pub invariant-loop-b : goal.invariant-loop-b
invariant-loop-b g l =
    let s = g.S.Sink in
    Leads (Unit {0}) Full s.step (s.held l.initial.sink) (meant_left l.initial.b-iterator) (s.held l.sink) (meant_left l.b-iterator)
