use Rattle.std.proofs.Common.{◌≡◌, ◌+◌}
use Rattle.aterm.proofs.Strings.{Sofar}
use Rattle.aterm.proofs.part.SpanPart.rest.Given as goal

abbrev pub invariant-loop-i : goal.invariant-loop-i
invariant-loop-i l = (l.reader.text.now ≡ l.text) × (l.reader.at ≡ l.start) × Sofar l.text l.start (l.start + l.i) l.mode
