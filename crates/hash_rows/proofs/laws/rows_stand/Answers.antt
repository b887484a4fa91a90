use Rattle.hash_rows.proofs.Lawful.{rows_ordered, greatest_stands}
use Rattle.hash_rows.proofs.Fixing.{rows_fixed}
use Rattle.hash_rows.specs.Rows.{key, no_row}
use Rattle.hash_rows.proofs.laws.rows_stand.Goals as goal

pub returns : goal.returns
returns c = record { ordered = rows_ordered; greatest = greatest_stands; fixed = rows_fixed key no_row }
