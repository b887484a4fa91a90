use Rattle.std.proofs.Common.{◌≡◌, ◌-◌, length}
use Rattle.aterm.specs.Tables.{rows_of}
use Rattle.aterm.proofs.Lists.{Partly}
use Rattle.aterm.proofs.part.RowsPart.rest.Given as goal

abbrev pub invariant-loop-rows : goal.invariant-loop-rows
invariant-loop-rows g l =
    (l.reader.text.now ≡ l.fn.reader.text.now)
    × Partly g.T.Shaped.shape g.row.N (g.T.Shaped.holds l.fn.reader.text.now) l.fn.reader.text.now l.fn.reader.at (rows_of l.rows) l.rows.len l.reader.at

abbrev pub decreases-loop-rows : goal.decreases-loop-rows
decreases-loop-rows g l = length l.reader.text.now - l.reader.at
