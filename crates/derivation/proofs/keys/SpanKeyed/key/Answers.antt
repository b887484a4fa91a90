use Rattle.derivation.proofs.keys.SpanKeyed.key.Goals as goal

pub returns : goal.returns
returns c = λ text at x h. (_, h)
