-- Which files the rows of files name, near or far, by the links that are kept of them. Files go by their places here, from 0: the number less one.
-- Source: this project's own rule (docs/CALLS.md, "Calls").
use Rattle.std.specs.Prelude.{◌≡◌, ℕ, zero, suc, ◌+◌, ◌<◌, ◌≤◌, ◌⊎◌, Bool, false, ◌||◌, ◌&&◌, List, [], Some, None, Option, Decides, slice_index_or}
use Rattle.links.specs.Linked.{links_at}
use Rattle.links.specs.declared.link.Link.{Link}
use Rattle.links.specs.declared.link.Links.{Links}
use Rattle.links.specs.declared.table.LinkTable.{LinkTable}

-- the number of the file that a row names, 0 where there is none
abbrev pub file_in : Option Link → ℕ
file_in None = 0
file_in (Some l) = l.file

-- some row names the file of this number
abbrev pub NamesFile : Links → ℕ → Type 0
NamesFile l f = (i : ℕ) × (i < l.count) × (file_in (slice_index_or l.rows i None) ≡ f)

-- r says whether some row does
pub record SaysNamed (l : Links) (f : ℕ) (r : Bool) : Type 0 where
  pub says : Decides r (NamesFile l f)

abbrev pub NamedIn : Option Links → ℕ → Type 0
NamedIn None f = ⊥
NamedIn (Some l) f = NamesFile l f

-- the file at a reads, and one of its rows names the file at b
abbrev pub Edge : LinkTable → ℕ → ℕ → Type 0
Edge t a b = NamedIn (links_at t (a + 1)) (b + 1)

-- b is named by a, or by way of files at places below m alone
abbrev pub Way : LinkTable → ℕ → ℕ → ℕ → Type 0
Way t zero a b = Edge t a b
Way t (suc m) a b = Way t m a b ⊎ (Way t m a m × Way t m m b)

-- one row of flags, a flag a file
abbrev pub RowSays : List Bool → (ℕ → Type 0) → Type 0
RowSays row Holds = (b : ℕ) → b < 256 → Decides (slice_index_or row b false) (Holds b)

abbrev pub flag_at : List (List Bool) → ℕ → ℕ → Bool
flag_at rows a b = slice_index_or (slice_index_or rows a []) b false

-- r has the flags of the links of the file of this number
pub record RowRight (t : LinkTable) (f : ℕ) (r : List Bool) : Type 0 where
  pub says : 1 ≤ f → f ≤ 256 → RowSays r (λ b. NamedIn (links_at t f) (b + 1))

-- r has the flags of a row, and those of the other one where that goes for the first
pub record RowJoined (row : List Bool) (on : Bool) (other r : List Bool) : Type 0 where
  pub says : (b : ℕ) → b < 256 → slice_index_or r b false ≡ (slice_index_or row b false || (on && slice_index_or other b false))

-- the flags with one more place to go by
abbrev pub Through : List (List Bool) → ℕ → List (List Bool) → Type 0
Through rows m after = (a : ℕ) → a < 256 → RowJoined (slice_index_or rows a []) (flag_at rows a m) (slice_index_or rows m []) (slice_index_or after a [])

-- the flags say of every two files whether it holds
abbrev pub AllSay : List (List Bool) → (ℕ → ℕ → Type 0) → Type 0
AllSay rows Holds = (a : ℕ) → a < 256 → RowSays (slice_index_or rows a []) (Holds a)

-- r is the flag of the file f at itself
pub record TurnsBack (rows : List (List Bool)) (f : ℕ) (r : Bool) : Type 0 where
  pub says : (a : ℕ) → a < 256 → f ≡ a + 1 → r ≡ flag_at rows a a
