use Rattle.std.proofs.Common.{take, arith}
use Rattle.sha256.specs.Taking.{laid}
use Rattle.sha256.specs.Hashing.{state}
use Rattle.sha256.proofs.Sinks.{begun_is}
use Rattle.sha256.proofs.Steps.{standard}
use Rattle.sha256.proofs.hasher.stream.Sha256DigestSink.begin.Goals as goal

pub returns : goal.returns
returns c = record {
  begins = begun_is (state c.args.self.now) _ c.args.self.now.count c.args.self.now.total (λ i. laid (c.new-blocks.ensures.words i) 0 (take (c.new-blocks.ensures.empty i) c.new-blocks.result.block));
  padding = λ n. (omega arith, λ k h. omega arith);
  standard = standard;
}
