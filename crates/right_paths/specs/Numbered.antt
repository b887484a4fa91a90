-- A row of the table of hashes, with the names of the input that it numbers.
-- Source: this project's own rule (docs/FORMATS.md, "Hashes modulo inputs").
use Rattle.std.specs.Prelude.{List, [], slice_index_or}
use Rattle.hash_rows.specs.Rows.{key}
use Rattle.hash_rows.specs.declared.hash.HashRow.{HashRow}
use Rattle.sink.specs.Numerals.{hex}
use Rattle.hash_modulo.specs.Sets.{Row}

-- a row's hash beside the names of the input with its number
abbrev pub named : List Row → HashRow → Row
named rows x = (hex (key x), (slice_index_or rows x.row ([], [])).1)
