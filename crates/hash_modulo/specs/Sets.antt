-- Sets of files by their paths, what a file rests on, and which files can have a hash. Nothing here knows numbers or an order of files.
-- Source: E. Dolstra, The Purely Functional Software Deployment Model (2006), sections 5.4 and 5.5, and the Nix manual, "Derivations".
use Rattle.std.specs.Prelude.{◌≡◌, ℕ, List, Some, Option}
use Rattle.canonical.specs.Kinds.{Value}
use Rattle.canonical.specs.Meanings.{an_output, an_input, Meaning}
use Rattle.canonical.specs.Order.{Member}
use Rattle.file_meaning.specs.Reads.{Reads}

abbrev pub Bytes : Type 0
Bytes = List ℕ

-- the text at each path where there is a file
abbrev pub Files : Type 0
Files = Bytes → Option Bytes

abbrev pub Present : Files → Bytes → Type 0
Present set p = (t : Bytes) × (set p ≡ Some t)

-- some list has the path of every file
abbrev pub Finite : Files → Type 0
Finite set = (paths : List Bytes) × ((p : Bytes) → Present set p → Member p paths)

-- the file at p is present, reads, and means m
pub record Means (set : Files) (p : Bytes) (m : Meaning) : Type 0 where
  pub text : Bytes
  pub at : set p ≡ Some text
  pub reads : Reads p text m

abbrev pub Readable : Files → Bytes → Type 0
Readable set p = (m : Meaning) × Means set p m

-- an input row: the path of the file that it names, and the names of the outputs that it wants of it
abbrev pub Row : Type 0
Row = Value an_input

abbrev pub Names : Meaning → Row → Type 0
Names m r = Member r m.1.0

-- a file has an output of this name
abbrev pub Owns : Meaning → Bytes → Type 0
Owns m n = (o : Value an_output) × Member o m.0 × (o.0 ≡ n)

-- the file that the row names, if it reads, owns the outputs that the row wants
abbrev pub Owned : Files → Row → Type 0
Owned set r = (m : Meaning) → Means set r.0 m → (n : Bytes) → Member n r.1 → Owns m n

-- every input is present, and owns what is wanted of it
pub record Ready (set : Files) (m : Meaning) : Type 0 where
  pub present : (r : Row) → Names m r → Present set r.0
  pub owned : (r : Row) → Names m r → Owned set r

-- a file that reads rests on each file that its rows name, and on all that one of them rests on that is present and reads
pub data Rests (set : Files) : Bytes → Bytes → Type 0 where
  near : {a b : Bytes} (m : Meaning) (r : Row) → Means set a m → Names m r → r.0 ≡ b → Rests set a b
  far : {a c : Bytes} (m : Meaning) (r : Row) → Means set a m → Names m r → Rests set r.0 c → Rests set a c

-- a file that can have a hash: it reads, its inputs are present and own what is wanted of them, and each of them can have one
pub data Hashable (set : Files) : Bytes → Type 0 where
  hashable : {p : Bytes} (m : Meaning) → Means set p m → Ready set m
      → ((r : Row) → Names m r → Hashable set r.0) → Hashable set p
