-- After i turns the paths of the first i outputs are worked out.
use Rattle.canonical.specs.Files.{values, output_value}
use Rattle.right_paths.proofs.Rounds.{Upto}
use Rattle.right_paths.proofs.file.SortedFile.output_paths.Given as goal

abbrev pub invariant-loop-i : goal.invariant-loop-i
invariant-loop-i g l =
    let s = g.S.Sink in
    let d = g.S.DigestSink in
    Upto s.step d.start d.capacity d.answered l.self.path.now l.masked (values (output_value l.self.text.now) l.rows)
    (s.held l.initial.sink).meaning l.i l.digits l.count (s.held l.sink).meaning
