use Rattle.std.proofs.Common.{◌≡◌, ◌-◌, ◌^◌, Some, None, refl, ap, ◌∙◌, arith}
use Rattle.std.specs.Result.{result_ok}
use Rattle.std.proofs.lemmas.Result.{MatchResult-from_err}
use Rattle.sink.proofs.Counts.{numbered_taken, numbered_kept}
use Rattle.sink.proofs.Writing.{refused}
use Rattle.sink.proofs.counter.CounterSink.write.Goals as goal

pub returns : goal.returns
returns c =
    let n = c.args.self.now.count in
    let e : c.checked_add.result ≡ Some c.in_ok-count.count = c.ok_or.ensures.ok_part ∙ ap result_ok c.in_ok-count.was in
    let fits = rw e at c.checked_add.ensures in
    record { writes = record { told = numbered_taken (2 ^ 64 - 1 - n) n (2 ^ 64 - 1 - c.in_ok-count.count) c.in_ok-count.count c.args.bytes.now (omega (arith, fits)) (omega (arith, fits)) (omega (arith, fits)) }; same = tt }

pub returns-in_err-count : goal.returns-in_err-count
returns-in_err-count c =
    let n = c.args.self.now.count in
    let e : c.checked_add.result ≡ None = c.ok_or.ensures.ok_part ∙ ap result_ok c.in_err-count.was in
    let past = rw e at c.checked_add.ensures in
    record { writes = refused c.from_residual.ensures.0 (numbered_kept (2 ^ 64 - 1 - n) n c.args.bytes.now (omega (arith, past))); same = MatchResult-from_err _ _ _ c.from_residual.ensures.0 (λ _. refl) }
