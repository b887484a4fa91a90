use Rattle.derivation.specs.Keys.{key_of}
use Rattle.derivation.proofs.Meant.{key_decides}
use Rattle.derivation.proofs.keys.has_key.Goals as goal

pub returns : goal.returns
returns g c = λ at x h.
    let k = c.key.ensures c.args.text.now at x h in
    key_decides c.args.text.now k.0 c.key.result (key_of g.T.Shaped.shape x) c.meant.result c.args.key c.meant.ensures k.1 c.eq.result c.eq.ensures.ran
