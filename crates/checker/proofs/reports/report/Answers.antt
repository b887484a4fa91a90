use Rattle.std.proofs.Common.{rules, arith}
use Rattle.std.proofs.lemmas.Slice.{between_to_end}
use Rattle.report.specs.Texts.{refused_text}
use Rattle.sink.proofs.Writing.{as_text}
use Rattle.checker.proofs.Verdicts.{report_lines, report_refused, digest_stays, digest_opened, digest_sums, digest_refused}
use Rattle.checker.proofs.reports.report.Goals as goal

pub returns-in-Ok : goal.returns-in-Ok
returns-in-Ok g c = record {
  told = report_lines c.run-ran.ensures.done c.in-Ok.is c.calls-calls.ensures (search rules) (between_to_end c.run-ran.new.answers 512 768 (omega (arith, c.run-ran.auto.answers))) c.write_lines.ensures;
  digested = digest_sums c.run-ran.ensures.done c.in-Ok.is c.calls-calls.ensures (search rules);
  kept = digest_opened c.run-ran.ensures.done c.in-Ok.is;
}

pub returns-in-Err : goal.returns-in-Err
returns-in-Err g c = record {
  told = report_refused c.run-ran.ensures.done c.in-Err.is (as_text (λ i. refused_text (c.number.ensures i) (c.slot.ensures i)) c.write_to.ensures);
  digested = digest_refused c.run-ran.ensures.done c.in-Err.is;
  kept = λ e was. digest_stays c.run-ran.ensures.done c.in-Err.is;
}
