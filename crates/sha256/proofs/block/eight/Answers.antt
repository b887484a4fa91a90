use Rattle.std.proofs.Common.{rules}
use Rattle.sha256.proofs.Rounds.{eight_rounds}
use Rattle.sha256.proofs.block.eight.Goals as goal

pub returns : goal.returns
returns c =
    let e = eight_rounds c.args.s c.args.part.0.now c.args.part.1.now (search rules) (search rules) in
    cc
