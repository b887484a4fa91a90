use Rattle.std.proofs.Common.{arith, rules}
use Rattle.sha256.proofs.Steps.{keep_is}
use Rattle.sha256.proofs.blocks.Blocks.keep.Goals as goal

pub returns : goal.returns
returns c = record {
  state = λ n. keep_is c.args.self.now.words c.args.self.now.block _ n _ _ (search rules) (search rules) (omega arith) c.put.ensures;
  filled = omega arith;
}
