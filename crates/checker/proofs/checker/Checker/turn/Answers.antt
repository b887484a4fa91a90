use Rattle.checker.proofs.Turns.{told_turn, circled_turn, lined_turn, tailed_turn, rewritten_turn, located_turn, took_turn, returned_turn, settled_turn}
use Rattle.checker.proofs.checker.Checker.turn.Goals as goal

pub returns-in-Take : goal.returns-in-Take
returns-in-Take g c = λ sound.
    took_turn g.S.Sink.held _ c.args.last.now c.args.call c.args.self.now c.args.sink.now c.args.buffer.now c.take_next.result c.take_next.new.last c.take_next.new.self
    c.in-Take.is c.take_next.ensures.takes c.take_next.ensures.same c.take_next.ensures.taken_last

pub returns-in-Settle : goal.returns-in-Settle
returns-in-Settle g c = λ sound.
    settled_turn g.S.Sink.held _ c.args.last.now c.args.call c.args.self.now c.args.sink.now c.args.buffer.now c.in-Settle.offer c.file.result c.settle_at.result c.settle_at.new.self
    c.settle_at.new.sink (g.S.Sink.wraps c.args.sink.now) c.in-Settle.is c.file.ensures (c.settle_at.ensures.settles sound) c.settle_at.ensures.same

pub returns-in-PutBack : goal.returns-in-PutBack
returns-in-PutBack g c = λ sound.
    returned_turn g.S.Sink.held _ c.args.last.now c.args.call c.args.self.now c.args.sink.now c.args.buffer.now c.in-PutBack.offer c.file-in-PutBack.result c.put_back_at.result
    c.put_back_at.new.self c.in-PutBack.is c.file-in-PutBack.ensures c.put_back_at.ensures.puts c.put_back_at.ensures.same

pub returns-in-Verdict : goal.returns-in-Verdict
returns-in-Verdict g c = λ sound.
    told_turn g.S.Sink.held _ c.args.last.now c.args.call c.args.self.now c.args.sink.now c.args.buffer.now c.in-Verdict.file c.verdict.result c.in-Verdict.is c.verdict.ensures

pub returns-in-Path : goal.returns-in-Path
returns-in-Path g c = λ sound.
    located_turn g.S.Sink.held _ c.args.last.now c.args.call c.args.self.now c.args.sink.now c.args.buffer.now c.in-Path.window c.range-range.result c.range-range.ensures c.path.new.out
    c.in-Path.file c.in-Path.j c.path.result c.path.new.sink c.in-Path.is (c.path.ensures.located sound) c.path.ensures.same

pub returns-in-Rewrite : goal.returns-in-Rewrite
returns-in-Rewrite g c = λ sound.
    rewritten_turn g.S.Sink.held _ c.args.last.now c.args.call c.args.self.now c.args.sink.now c.args.buffer.now c.in-Rewrite.window c.range-range-in-Rewrite.result
    c.range-range-in-Rewrite.ensures c.rewrite.new.out c.in-Rewrite.file c.rewrite.result c.in-Rewrite.is c.rewrite.ensures

pub returns-in-Circle : goal.returns-in-Circle
returns-in-Circle g c = λ sound.
    circled_turn g.S.Sink.held _ c.args.last.now c.args.call c.args.self.now c.args.sink.now c.args.buffer.now c.circle.result c.in-Circle.is c.circle.ensures

pub returns-in-Line : goal.returns-in-Line
returns-in-Line g c = λ sound.
    lined_turn g.S.Sink.held _ c.args.last.now c.args.call c.args.self.now c.args.sink.now c.args.buffer.now c.in-Line.window c.range-range-in-Line.result c.range-range-in-Line.ensures
    c.line.new.out c.in-Line.file c.line.result c.in-Line.is c.line.ensures

pub returns-in-Tail : goal.returns-in-Tail
returns-in-Tail g c = λ sound.
    tailed_turn g.S.Sink.held _ c.args.last.now c.args.call c.args.self.now c.args.sink.now c.args.buffer.now c.in-Tail.window c.range-range-in-Tail.result c.range-range-in-Tail.ensures
    c.tail.new.out c.tail.result c.in-Tail.is c.tail.ensures
