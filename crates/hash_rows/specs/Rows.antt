-- The table's rows, by hash.
-- Source: this project's own rule (docs/FORMATS.md, "Hashes modulo inputs").
use Rattle.std.specs.Prelude.{◌≡◌, ℕ, ◌<◌, List, length, replicate, Ok, Err, Result, refl}
use Rattle.hash_rows.specs.Keyed as keyed
use Rattle.hash_rows.specs.declared.hash.Hash.{Hash}
use Rattle.hash_rows.specs.declared.hash.HashRow.{HashRow}

abbrev pub key : HashRow → List ℕ
key x = x.hash.bytes

abbrev pub row_of : Hash → ℕ → HashRow
row_of h n = record { hash = h; row = n }

abbrev pub no_row : HashRow
no_row = record { hash = record { bytes = replicate 32 0; wide = refl }; row = 0 }

abbrev pub Rising : List HashRow → Type 0
Rising xs = keyed.Rising key xs

abbrev pub Rises : List HashRow → Type 0
Rises xs = keyed.Rises key no_row xs

abbrev pub key_at : List HashRow → ℕ → List ℕ
key_at xs i = keyed.key_at key no_row xs i

abbrev pub Free : List HashRow → List ℕ → ℕ → Type 0
Free xs h i = keyed.Free key no_row xs h i

-- where the hash h stands, or where it would
abbrev pub Found : List HashRow → List ℕ → Result ℕ ℕ → Type 0
Found xs h (Ok i) = (i < length xs) × (key_at xs i ≡ h)
Found xs h (Err i) = Free xs h i

abbrev pub Placed : List HashRow → HashRow → List HashRow → Type 0
Placed xs x ys = keyed.Placed key xs x ys

abbrev pub Gathered : List HashRow → List HashRow → Type 0
Gathered ps xs = keyed.Gathered key ps xs
