-- What holds of every table of rows by hash.
-- Source: this project's own rule (docs/FORMATS.md, "Hashes modulo inputs").
use Rattle.std.specs.Prelude.{◌≡◌, ℕ, ◌≤◌, ◌⊎◌, List, [], ◌∷◌, length}
use Rattle.canonical.specs.Order.{Under}
use Rattle.hash_rows.specs.Keyed as keyed
use Rattle.hash_rows.specs.Keyed.{In}
use Rattle.hash_rows.specs.Rows.{key, Rising, Gathered}
use Rattle.hash_rows.specs.Seen.{held}
use Rattle.hash_rows.specs.declared.hash.HashRow.{HashRow}
use Rattle.hash_rows.specs.declared.table.HashRows.{HashRows}

pub record Ordered (xs : List HashRow) : Type 0 where
  pub few : length xs ≤ 64
  pub rising : Rising xs
  pub once : (x y : HashRow) → In x xs → In y xs → key x ≡ key y → x ≡ y

abbrev pub RowsOrdered : Type 0
RowsOrdered = (t : HashRows) → Ordered (held t)

-- the pairs come in the order of what their rows name
abbrev pub Climbing : (HashRow → List ℕ) → List HashRow → Type 0
Climbing path [] = Unit {0}
Climbing path (x ∷ xs) = ((y : HashRow) → In y xs → Under (path x) (path y)) × Climbing path xs

-- of pairs with equal hash, the one with the greatest path stands in the table
abbrev pub GreatestStands : Type 0
GreatestStands = (path : HashRow → List ℕ) (ps xs : List HashRow) → Climbing path ps → Gathered ps xs
    → (x y : HashRow) → In x xs → In y ps → key y ≡ key x → (y ≡ x) ⊎ Under (path y) (path x)

-- for all pairs there are such rows, and only one list of them
abbrev pub RowsFixed : Type 0
RowsFixed = (ps : List HashRow) → keyed.Fixed key ps
