use Rattle.std.proofs.Common.{[], ◌++◌, drop}
use Rattle.std.specs.List.{flat_map}
use Rattle.sink.specs.declared.full.Full.{Full}
use Rattle.sink.specs.Write.{Leads}
use Rattle.canonical.specs.Kinds.{canon, comma}
use Rattle.canonical.proofs.row.write_rests.Given as goal

abbrev pub invariant-loop-row : goal.invariant-loop-row
invariant-loop-row g l =
    let s = g.S.Sink in
    Leads (Unit {0}) Full s.step
    (s.held l.initial.sink) (flat_map (comma (λ v. canon g.T.Canon.kind (g.T.Canon.value l.text v))) l.rows ++ [])
    (s.held l.sink) (flat_map (comma (λ v. canon g.T.Canon.kind (g.T.Canon.value l.text v))) (drop l.row-index l.rows) ++ [])
