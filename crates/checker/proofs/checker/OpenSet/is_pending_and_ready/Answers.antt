use Rattle.checker.proofs.checker.OpenSet.is_pending_and_ready.Goals as goal

pub returns-then-is_pending : goal.returns-then-is_pending
returns-then-is_pending c = record {
  says =
      let p = c.is_pending.ensures.0 c.if-is_pending.true in
      let d = c.is_ready.ensures p.exists in
      (λ e. (p, d.0 e), λ r. d.1 r.1);
}
