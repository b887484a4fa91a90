use Rattle.checker.proofs.Reporting.{Along}
use Rattle.checker.proofs.reports.write_lines.Given as goal

-- the lines of the first files are written
abbrev pub invariant-loop-answer : goal.invariant-loop-answer
invariant-loop-answer g l = let s = g.S.Sink in Along s.step (s.held l.fn.out) l.answers l.answer-index l.files l.accepted (s.held l.out)
