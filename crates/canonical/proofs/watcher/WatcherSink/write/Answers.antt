use Rattle.std.proofs.Common.{◌≡◌, ℕ, List, [], ◌∷◌, Some, None, refl, ap, ◌∙◌, arith, rules}
use Rattle.std.specs.Result.{result_ok}
use Rattle.std.proofs.lemmas.Fn.{fold_over, fronts}
use Rattle.std.proofs.lemmas.Iterator.{YieldsList-from_slice}
use Rattle.sink.specs.Write.{steps}
use Rattle.sink.proofs.Writing.{refused, steps_append}
use Rattle.canonical.proofs.Watched.{watched_taken, watched_kept}
use Rattle.canonical.proofs.watcher.WatcherSink.write.Goals as goal

pub returns-in_err-count-clause-writes : goal.returns-in_err-count-clause-writes
returns-in_err-count-clause-writes g c =
    let s = c.args.self.now in
    let e : c.checked_add.result ≡ None = c.ok_or.ensures.ok_part ∙ ap result_ok c.in_err-count.was in
    let past = rw e at c.checked_add.ensures in
    refused c.from_residual.ensures.0 (watched_kept g.T.Watch.step (g.T.Watch.state s.watching) s.count c.args.bytes.now (omega (arith, past)))

pub returns-clause-writes : goal.returns-clause-writes
returns-clause-writes g c =
    let f = g.T.Watch.step in
    let s = c.args.self.now in
    let start = g.T.Watch.state s.watching in
    let e : c.checked_add.result ≡ Some c.in_ok-count.count = c.ok_or.ensures.ok_part ∙ ap result_ok c.in_ok-count.was in
    let fits = rw e at c.checked_add.ensures in
    let gives = YieldsList-from_slice {s = c.iter.result} c.args.bytes.now cc in
    let after = fold_over fronts (λ y. y.now) _ (λ (ys : List ℕ) (w : g.row.T.Denot). g.T.Watch.state w ≡ steps f start ys) _
    (λ ys a x b f' e k.
    let called : (g.T.Watch.state b ≡ f (g.T.Watch.state a) x.now) × (f' ≡ _) = search rules in
    (called.0 ∙ ap (λ (st : List ℕ). f st x.now) e ∙ steps_append f start ys (x.now ∷ []), called.1))
    c.iter.result c.args.bytes.now s.watching c.fold-self.result gives.runs refl c.fold-self.ensures.ran in
    record { told = watched_taken f start (g.T.Watch.state c.fold-self.result) s.count c.in_ok-count.count c.args.bytes.now after (omega (arith, fits)) (omega (arith, fits)) }
