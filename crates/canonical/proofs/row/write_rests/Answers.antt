use Rattle.std.proofs.Common.{[], ap}
use Rattle.canonical.specs.Kinds.{canon, comma}
use Rattle.sink.proofs.Writing.{done, leads_all, leads_more, leads_stop, unpadded, as_text}
use Rattle.canonical.proofs.row.write_rests.Goals as goal

pub loop-row-preserved : goal.loop-row-preserved
loop-row-preserved g c =
    leads_more (comma (λ v. canon g.T.Canon.kind (g.T.Canon.value c.args.text.now v))) c.args.rows.now [] c.loop-row.row-index c.row-item.result c.loop-row-test.true c.loop-row.invariant
    (as_text (ap (comma (λ v. canon g.T.Canon.kind (g.T.Canon.value c.args.text.now v))) c.row-item.is) c.in_ok-write_after.ensures)

pub returns-in_err-write_after : goal.returns-in_err-write_after
returns-in_err-write_after g c =
    unpadded (leads_stop (comma (λ v. canon g.T.Canon.kind (g.T.Canon.value c.args.text.now v))) c.args.rows.now [] c.loop-row.row-index c.row-item.result c.loop-row-test.true c.loop-row.invariant
    (as_text (ap (comma (λ v. canon g.T.Canon.kind (g.T.Canon.value c.args.text.now v))) c.row-item.is) c.in_err-write_after.ensures) c.from_residual.ensures.0)

pub returns : goal.returns
returns g c =
    unpadded (leads_all (comma (λ v. canon g.T.Canon.kind (g.T.Canon.value c.args.text.now v))) c.args.rows.now [] c.loop-row.row-index c.loop-row-test.false c.loop-row.invariant (done _ (g.S.Sink.wraps c.loop-row.sink)))
