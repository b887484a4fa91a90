use Rattle.std.proofs.Common.{◌≡◌, List, ℕ, Some}
use Rattle.std.specs.Io.Buffered.{reader_remaining}
use Rattle.std.specs.Io.Iter.{lines_known_bytes}
use Rattle.test_input.specs.Lines.{LinesTaken}
use Rattle.test_input.proofs.lines.each_line.Given as goal

abbrev pub invariant-loop-line : goal.invariant-loop-line
invariant-loop-line g l =
    let known = lines_known_bytes (reader_remaining g.R.Read.remaining) in
    goal.F-IsAlwaysCallable g l.step
    × ((whole : List ℕ) → known l.initial.line-iterator ≡ Some whole
    → (text : List ℕ) × (known l.line-iterator ≡ Some text) × (LinesTaken g.F.FnMut l.step text → LinesTaken g.F.FnMut l.initial.step whole))
