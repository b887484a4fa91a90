use Rattle.sink.proofs.Writing.{as_text, then, stop}
use Rattle.canonical.specs.Kinds.{canon}
use Rattle.canonical.proofs.Leading.{listing_some}
use Rattle.canonical.proofs.row.write_rows.Goals as goal

pub returns-in_err-write_text-in-Some : goal.returns-in_err-write_text-in-Some
returns-in_err-write_text-in-Some g c =
    as_text (listing_some (canon g.T.Canon.kind) (g.T.Canon.value c.args.text.now) c.args.rows.now c.in-Some.rest.now c.in-Some.first.now c.in-Some.ensures.cases.0)
    (then c.in_ok-write-in-Some.ensures.writes
    (stop _ c.in_err-write_text-in-Some.ensures c.from_residual-in_err-write_text-in-Some.ensures.0))

pub returns-in_err-write_rests-in-Some : goal.returns-in_err-write_rests-in-Some
returns-in_err-write_rests-in-Some g c =
    as_text (listing_some (canon g.T.Canon.kind) (g.T.Canon.value c.args.text.now) c.args.rows.now c.in-Some.rest.now c.in-Some.first.now c.in-Some.ensures.cases.0)
    (then c.in_ok-write-in-Some.ensures.writes
    (then c.in_ok-write_text-in-Some.ensures
    (stop _ c.in_err-write_rests-in-Some.ensures c.from_residual-in_err-write_rests-in-Some.ensures.0)))

pub returns-in_ok-write_rests-in-Some : goal.returns-in_ok-write_rests-in-Some
returns-in_ok-write_rests-in-Some g c =
    as_text (listing_some (canon g.T.Canon.kind) (g.T.Canon.value c.args.text.now) c.args.rows.now c.in-Some.rest.now c.in-Some.first.now c.in-Some.ensures.cases.0)
    (then c.in_ok-write-in-Some.ensures.writes
    (then c.in_ok-write_text-in-Some.ensures (then c.in_ok-write_rests-in-Some.ensures c.write-in-Some-2.ensures.writes)))
