-- Input rows with the hashes of their files in place of their paths.
-- Source: E. Dolstra, The Purely Functional Software Deployment Model (2006), section 5.5; this project's own rule (docs/FORMATS.md, "Hashes modulo inputs").
use Rattle.std.specs.Prelude.{◌≡◌, ℕ, List, map}
use Rattle.aterm.specs.Tables.{rows_of}
use Rattle.canonical.specs.Files.{said_in, values}
use Rattle.hash_rows.specs.Keyed as keyed
use Rattle.hash_rows.specs.declared.hash.Hash.{Hash}
use Rattle.sink.specs.Numerals.{hex}
use Rattle.hash_modulo.specs.Hashes.{path_of}
use Rattle.hash_modulo.specs.Sets.{Bytes, Row}
use Rattle.right_paths.specs.declared.hash_input.HashInput.{HashInput}

-- what a row with a hash says
abbrev pub hash_input_value : List ℕ → HashInput → Row
hash_input_value t v = (hex v.hash.bytes, values (said_in t) (rows_of v.names))

-- g has these hashes, in the order of the rows
abbrev pub Aligned : (Bytes → Bytes) → List Row → List Hash → Type 0
Aligned g rows hashes = map (λ (r : Row). g r.0) rows ≡ map (λ (h : Hash). h.bytes) hashes

-- the rows that stand for the inputs where g has their hashes: rising by hash, and of rows with equal hash the last one
pub record RowsRight (g : Bytes → Bytes) (inputs rows : List Row) : Type 0 where
  pub rises : keyed.Rising path_of rows
  pub gathered : keyed.Gathered path_of (map (λ (r : Row). (hex (g r.0), r.1)) inputs) rows
