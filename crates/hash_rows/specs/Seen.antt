-- The rows that the code's table stands for.
use Rattle.std.specs.Prelude.{List}
use Rattle.hash_rows.specs.declared.hash.HashRow.{HashRow}
use Rattle.hash_rows.specs.declared.table.HashRows.{HashRows}

-- the rows that the table holds
abbrev pub held : HashRows → List HashRow
held t = t.rows.items
