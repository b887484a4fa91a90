use Rattle.derivation.proofs.keys.VariableKeyed.key.Goals as goal

pub returns : goal.returns
returns c = λ text at x h. (_, h.0)
