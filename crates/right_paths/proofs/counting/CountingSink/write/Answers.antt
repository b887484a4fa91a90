use Rattle.std.proofs.Common.{◌≡◌, refl, ap}
use Rattle.sink.proofs.Writing.{kept, refused}
use Rattle.sink.specs.Write.{Held}
use Rattle.right_paths.specs.Counting.{counting, counted}
use Rattle.right_paths.proofs.Counts.{counted_taken}
use Rattle.right_paths.proofs.counting.CountingSink.write.Goals as goal

pub returns-in_err-write-clause-writes : goal.returns-in_err-write-clause-writes
returns-in_err-write-clause-writes g c =
    let s = c.args.self.now in
    let layer : Held → Held = λ h. counted h s.below.ghost_name s.count in
    let h = g.S.Sink.held s.below.now in
    let k = g.S.Sink.held c.write.new.self in
    let as_it_was : k ≡ h = ap g.S.Sink.held {x = c.write.new.self} {y = s.below.now} c.in_err-write.ensures.same in
    refused c.from_residual.ensures.0
    (kept (counting g.S.Sink.step) (layer h) (layer k) c.args.bytes.now (g.S.Sink.wraps s.below.now) c.in_err-write.ensures.writes.told.over (ap layer as_it_was))

pub returns-clause-writes : goal.returns-clause-writes
returns-clause-writes g c =
    let s = c.args.self.now in
    record { told = counted_taken g.S.Sink.step s.count _ s.below.ghost_name c.args.bytes.now (g.S.Sink.held s.below.now) (g.S.Sink.held c.write.new.self) refl c.in_ok-write.ensures.writes.told }
