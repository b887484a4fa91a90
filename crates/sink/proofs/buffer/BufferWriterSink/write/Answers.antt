use Rattle.std.proofs.Common.{refl, arith}
use Rattle.sink.proofs.Buffers.{copy_taken, buffer_kept}
use Rattle.sink.proofs.buffer.BufferWriterSink.write.Goals as goal

pub returns-then-bytes-self : goal.returns-then-bytes-self
returns-then-bytes-self c =
    let s = c.args.self.now in
    record { writes = record { told = buffer_kept s.buf.now s.buf.ghost_name s.at c.args.bytes.now (omega arith) }; same = refl }

pub returns : goal.returns
returns c =
    let s = c.args.self.now in
    record { writes = record { told = copy_taken s.buf.now s.buf.ghost_name s.at c.args.bytes.now _ (omega arith) c.copy_from_slice.ensures.after }; same = tt }
