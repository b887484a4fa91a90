use Rattle.std.proofs.Common.{[], ◌++◌, take, drop}
use Rattle.std.specs.List.{flat_map}
use Rattle.sink.specs.declared.full.Full.{Full}
use Rattle.sink.specs.Write.{Leads, Taken}
use Rattle.sink.specs.Numerals.{pair}
use Rattle.sink.proofs.numerals.write_hex.Given as goal

abbrev pub invariant-loop-b : goal.invariant-loop-b
invariant-loop-b g l =
    let s = g.S.Sink in
    Leads (Unit {0}) Full s.step
    (s.held l.initial.sink) (flat_map pair l.bytes ++ [])
    (s.held l.sink) (flat_map pair (drop l.b-index l.bytes) ++ [])
    × Taken s.step (s.held l.initial.sink) (flat_map pair (take l.b-index l.bytes)) (s.held l.sink)
