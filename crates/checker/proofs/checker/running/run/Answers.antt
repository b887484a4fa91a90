use Rattle.checker.proofs.Plays.{run_done}
use Rattle.checker.proofs.Whole.{main_theorem}
use Rattle.checker.proofs.checker.running.run.Goals as goal

pub returns : goal.returns
returns g c = record {
  done =
      run_done g.S.Sink.held _ c.args.bytes.now c.args.calls.now c.args.answers.now c.play-count.new.answers c.args.sink.now c.play-count.new.sink c.args.buffer.now c.play-count.new.buffer
      c.open-opened.result c.play-count.result c.new-checker.result c.open-opened.new.self c.play-count.new.self g.S.Sink.wraps c.new-checker.ensures.none c.open-opened.ensures.opens c.play-count.ensures;
  theorem = main_theorem;
}
