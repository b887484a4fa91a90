use Rattle.std.proofs.Common.{ℕ, List}
use Rattle.std.specs.Iterator.{AlwaysYields}
use Rattle.sink.specs.declared.full.Full.{Full}
use Rattle.sink.specs.Write.{Leads}
use Rattle.canonical.proofs.Leading.{spelt}
use Rattle.canonical.proofs.string.write_quoted.Given as goal

abbrev pub invariant-loop-b : goal.invariant-loop-b
invariant-loop-b g l =
    let s = g.S.Sink in
    let gives = g.I.Iterator.next_gives in
    (xs : List ℕ) → AlwaysYields gives (λ b. b) l.initial.b-iterator xs
    → (ys : List ℕ) × AlwaysYields gives (λ b. b) l.b-iterator ys × Leads (Unit {0}) Full s.step (s.held l.initial.sink) (spelt xs) (s.held l.sink) (spelt ys)
