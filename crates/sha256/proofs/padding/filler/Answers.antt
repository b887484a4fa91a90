use Rattle.std.proofs.Common.{◌-◌, ◌%◌, arith}
use Rattle.sha256.proofs.Ends.{filler_is}
use Rattle.sha256.proofs.padding.filler.Goals as goal

pub returns : goal.returns
returns c = record {
  bytes = filler_is 128 0 ((119 - c.args.count % 64) % 64) (omega arith);
  least = (omega arith, λ k h. omega arith);
}
