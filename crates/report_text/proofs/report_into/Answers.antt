use Rattle.std.proofs.Common.{ℕ, List, ap, subst, rules}
use Rattle.sink.proofs.Buffers.{text_from_new}
use Rattle.checker.specs.Reports.{ReportOf}
use Rattle.checker.specs.Settling.{kind_of}
use Rattle.report_text.proofs.report_into.Goals as goal

-- the last fact: when the loan ends the lent buffer holds what the writer's does, if that is still the same loan
pub returns : goal.returns
returns g c =
    let (text, is, writes) = c.in_ok-report.ensures.told in
    let w = c.new-writer.ensures in
    let e = text_from_new c.args.out.now _ _ _ _ c.report.new.out.at text (ap (λ b. b.now) w.0) (ap (λ b. b.ghost_name) w.0) w.1 writes.told c.count.ensures _ (search rules) in
    let d = g.D.DigestSink in
    let kind = kind_of g.D.Sink.step d.start d.capacity d.answered d.wide in
    (text, subst (λ (img : List ℕ). ReportOf kind img text) c.as_read.ensures is, e.0, e.1)
