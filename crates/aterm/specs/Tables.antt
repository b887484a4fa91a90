-- The rows that a table holds.
-- Source: this project's own rule (docs/CALLS.md).
use Rattle.std.specs.Prelude.{ℕ, List, take}
use Rattle.aterm.specs.declared.rows.Placed.{Placed}
use Rattle.aterm.specs.declared.rows.Rows.{Rows}

abbrev pub rows_of : {T : Type 0} {N : ℕ} → Rows T N → List (Placed T)
rows_of v = take v.len v.items
