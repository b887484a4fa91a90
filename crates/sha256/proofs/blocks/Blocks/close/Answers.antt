use Rattle.std.proofs.Common.{arith, rules}
use Rattle.sha256.proofs.Steps.{close_is}
use Rattle.sha256.proofs.blocks.Blocks.close.Goals as goal

pub returns : goal.returns
returns c = record {
  state = λ n. close_is c.args.self.now.words c.args.self.now.block _ n _ _ (search rules) (search rules) _ (omega (arith, c.args.self.now.within)) (omega arith) c.put.ensures c.compress-next.ensures;
  filled = omega arith;
}
