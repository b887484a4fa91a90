use Rattle.std.proofs.Common.{◌≡◌, ◌+◌, Some, sym, ap, ◌∙◌, arith}
use Rattle.report.specs.Texts.{line_text}
use Rattle.sink.proofs.Writing.{as_text}
use Rattle.checker.proofs.Reporting.{one_for, one_where, none_where, along_more, along_stop}
use Rattle.checker.proofs.reports.write_lines.Goals as goal
use Rattle.checker.proofs.reports.write_lines.Goals.{then-is_ok, else-is_ok}

pub returns-in_err-write_to : goal.returns-in_err-write_to
returns-in_err-write_to g c =
    let line = ap (λ t. line_text (c.loop-answer.files + 1) (Some t)) c.tell_verdict.ensures in
    along_stop c.loop-answer.invariant c.loop-answer-test.true c.in-Some.verdict (sym c.verdict_in.ensures ∙ c.in-Some.is) (as_text line c.in_err-write_to.ensures) c.from_residual.ensures.0

pub loop-answer-preserved : goal.loop-answer-preserved
loop-answer-preserved g c =
    let w = c.in-Some.verdict in
    let line = ap (λ t. line_text (c.loop-answer.files + 1) (Some t)) c.tell_verdict.ensures in
    let counts : c.if-is_ok.accepted ≡ c.loop-answer.accepted + one_for w = elim c.if-is_ok.branch [
      | then-is_ok b ↦ omega (arith, b.accepted-is, one_where w (sym c.is_ok.ensures.value ∙ b.if-is_ok.true))
      | else-is_ok b ↦ omega (arith, b.accepted-is, none_where w (sym c.is_ok.ensures.value ∙ b.if-is_ok.false))
    ] in
    along_more c.loop-answer.invariant c.loop-answer-test.true w (sym c.verdict_in.ensures ∙ c.in-Some.is) counts (as_text line c.in_ok-write_to.ensures)
