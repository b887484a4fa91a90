use Rattle.std.proofs.Common.{refl, arith}
use Rattle.sha256.specs.Hashing.{state}
use Rattle.sha256.proofs.Sinks.{held_taken, held_kept}
use Rattle.sha256.proofs.hasher.stream.Sha256Sink.write.Goals as goal

pub returns-then-n-self : goal.returns-then-n-self
returns-then-n-self c =
    let s = c.args.self.now in
    record { writes = record { told = held_kept (state s) s.count s.total c.args.bytes.now (omega arith) }; same = refl }

pub returns : goal.returns
returns c =
    let s = c.args.self.now in
    record { writes = record { told = held_taken (state s) _ s.count _ s.total _ c.args.bytes.now (omega arith) (c.absorb.ensures.state s.count) refl (omega arith) }; same = tt }
