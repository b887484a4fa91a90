use Rattle.std.proofs.Common.{◌∷◌}
use Rattle.std.specs.List.{flat_map}
use Rattle.sink.specs.Write.{Leads}
use Rattle.sink.specs.declared.full.Full.{Full}
use Rattle.right_paths.specs.References.{references_left}
use Rattle.right_paths.proofs.references.OwnKindToSink.write_to.Given as goal

abbrev pub invariant-loop-path : goal.invariant-loop-path
invariant-loop-path g l =
    let s = g.S.Sink in
    Leads (Unit {0}) Full s.step
    (s.held l.initial.sink) (flat_map (λ p. 58 ∷ p) (references_left l.initial.path-iterator))
    (s.held l.sink) (flat_map (λ p. 58 ∷ p) (references_left l.path-iterator))
