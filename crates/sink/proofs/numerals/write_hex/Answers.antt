use Rattle.std.proofs.Common.{[], refl, ap}
use Rattle.std.proofs.lemmas.Result.{MatchResult-from_err}
use Rattle.sink.specs.Numerals.{pair}
use Rattle.sink.proofs.Hexing.{taken_pairs, pairs_kept}
use Rattle.sink.proofs.Writing.{done, same_leads, leads_all, leads_more, leads_stop, unpadded, taken_none}
use Rattle.sink.proofs.numerals.write_hex.Goals as goal

pub loop-b-init : goal.loop-b-init
loop-b-init g c = (same_leads refl, taken_none g.S.Sink.step (g.S.Sink.held c.args.sink.now) (g.S.Sink.wraps c.args.sink.now))

pub loop-b-preserved : goal.loop-b-preserved
loop-b-preserved g c = (
  leads_more pair c.args.bytes.now [] c.loop-b.b-index 0 c.loop-b-test.true c.loop-b.invariant.0 c.in_ok-write_pair.ensures.writes,
  taken_pairs g.S.Sink.step _ _ _ c.args.bytes.now c.loop-b.b-index c.loop-b-test.true c.loop-b.invariant.1 c.in_ok-write_pair.ensures.writes.told,
)

pub returns-in_err-write_pair : goal.returns-in_err-write_pair
returns-in_err-write_pair g c = record {
  writes = unpadded (leads_stop pair c.args.bytes.now [] c.loop-b.b-index 0 c.loop-b-test.true c.loop-b.invariant.0 c.in_err-write_pair.ensures.writes c.from_residual.ensures.0);
  pairs =
      MatchResult-from_err _ _ _ c.from_residual.ensures.0
      (λ _. pairs_kept g.S.Sink.step _ _ _ c.args.bytes.now c.loop-b.b-index c.loop-b-test.true c.loop-b.invariant.1 c.in_err-write_pair.ensures.writes.told.over (ap g.S.Sink.held c.in_err-write_pair.ensures.same));
}

pub returns : goal.returns
returns g c = record {
  writes = unpadded (leads_all pair c.args.bytes.now [] c.loop-b.b-index c.loop-b-test.false c.loop-b.invariant.0 (done _ (g.S.Sink.wraps c.loop-b.sink)));
  pairs = tt;
}
