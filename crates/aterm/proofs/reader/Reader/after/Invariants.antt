use Rattle.std.proofs.Common.{◌≡◌}
use Rattle.aterm.proofs.Whole.{Passing}
use Rattle.aterm.proofs.reader.Reader.after.Given as goal

abbrev pub invariant-loop-b : goal.invariant-loop-b
invariant-loop-b l = (l.reader.text.now ≡ l.text) × Passing l.word l.text l.b-index l.reader.at
