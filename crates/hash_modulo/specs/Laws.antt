-- What holds of the definition.
-- Source: this project's own rule (docs/FORMATS.md, "Hashes modulo inputs").
use Rattle.std.specs.Prelude.{◌≡◌, ℕ, zero, ◌<◌, ◌≤◌, ◌⊎◌, List, length, Some}
use Rattle.std.specs.List.{AllByRecursion}
use Rattle.canonical.specs.Kinds.{Value}
use Rattle.canonical.specs.Meanings.{an_output, Meaning}
use Rattle.canonical.specs.Order.{Under, Member, Rising}
use Rattle.hash_rows.specs.Keyed as keyed
use Rattle.sink.specs.Numerals.{hex}
use Rattle.hash_modulo.specs.Hashes.{Digest, path_of, hashed_rows, Hashed}
use Rattle.hash_modulo.specs.Paths.{OwnPath, OutputPath}
use Rattle.file_meaning.specs.Reads.{Reads}
use Rattle.hash_modulo.specs.Strings.{FileStrings, Digested, RightPath, Limits}
use Rattle.hash_modulo.specs.Sets.{Bytes, Files, Present, Finite, Means, Readable, Row, Names, Owned, Ready, Rests, Hashable}

abbrev pub Iff : Type 0 → Type 0 → Type 0
Iff P Q = (P → Q) × (Q → P)

-- a file has one hash at most
abbrev pub OneHash : Type 0
OneHash = (set : Files) (d : Digest) (p g h : Bytes) → Hashed set d p g → Hashed set d p h → g ≡ h

-- x is the row of the input r, by its hash, and of the inputs with that hash r has the greatest path
pub record Greatest (g : Bytes → Bytes) (m : Meaning) (x r : Row) : Type 0 where
  pub named : Names m r
  pub is : x ≡ (hex (g r.0), r.1)
  pub greatest : (s : Row) → Names m s → hex (g s.0) ≡ hex (g r.0) → (s ≡ r) ⊎ Under s.0 r.0

-- a hash stands in the rows exactly where some input has it, and each row is that of the greatest path with its hash
pub record GreatestOfEach (g : Bytes → Bytes) (m : Meaning) (rows : List Row) : Type 0 where
  pub stands : (h : Bytes) → Iff ((x : Row) × Member x rows × (x.0 ≡ h)) ((r : Row) × Names m r × (hex (g r.0) ≡ h))
  pub row : (x : Row) → Member x rows → (r : Row) × Greatest g m x r

-- The rows of a hash text and of a masked text (`HashString`, `MaskedString`): the last of each hash is the one with the greatest path, as the
-- input rows of every file rise by path.
pub record GreatestStands : Type 0 where
  pub rise : (set : Files) (p : Bytes) (m : Meaning) → Means set p m → Rising path_of m.1.0
  pub rows : (g : Bytes → Bytes) (m : Meaning) → Rising path_of m.1.0 → (rows : List Row) → keyed.Rising path_of rows
      → Iff (keyed.Gathered path_of (hashed_rows g m) rows) (GreatestOfEach g m rows)

-- to be hashable is to have a hash, whatever the digest
abbrev pub HashableHasHash : Type 0
HashableHasHash = (set : Files) (d : Digest) (p : Bytes) → Iff (Hashable set p) ((h : Bytes) × Hashed set d p h)

-- a file that rests on itself has no hash, nor has any that rests on it
abbrev pub CyclesHaveNone : Type 0
CyclesHaveNone = (set : Files) (c : Bytes) → Rests set c c
    → (Hashable set c → ⊥) × ((p : Bytes) → Rests set p c → Hashable set p → ⊥)

-- the row names a file that is present, that reads, and that owns what is wanted of it
pub record Good (set : Files) (r : Row) : Type 0 where
  pub present : Present set r.0
  pub reads : Readable set r.0
  pub owned : Owned set r

abbrev pub RowsGood : Files → Bytes → Type 0
RowsGood set p = (m : Meaning) (r : Row) → Means set p m → Names m r → Good set r

-- a file that reads, all files that it rests on are present, read and own the outputs named, and none of them, nor itself, rests on itself
pub record Founded (set : Files) (p : Bytes) : Type 0 where
  pub present : Present set p
  pub reads : Readable set p
  pub rows : RowsGood set p
  pub rows_below : (q : Bytes) → Rests set p q → RowsGood set q
  pub acyclic : Rests set p p → ⊥
  pub acyclic_below : (q : Bytes) → Rests set p q → Rests set q q → ⊥

-- in a finite set a file has a hash exactly where it is founded
abbrev pub InOwnTerms : Type 0
InOwnTerms = (set : Files) → Finite set → (p : Bytes) → Iff (Hashable set p) (Founded set p)

-- in a finite set it is decided of each file whether it has a hash
abbrev pub Decided : Type 0
Decided = (set : Files) → Finite set → (p : Bytes) → Hashable set p ⊎ (Hashable set p → ⊥)

-- a file without a hash that reads, and whose inputs are present and own what is wanted, has an input row whose file has no hash
abbrev pub SomeInputWithout : Type 0
SomeInputWithout = (set : Files) → Finite set → (p : Bytes) (m : Meaning) → Means set p m → Ready set m
    → (Hashable set p → ⊥) → (r : Row) × Names m r × (Hashable set r.0 → ⊥)

-- a file's hash depends on the file and on those that it rests on, and on no other
abbrev pub Local : Type 0
Local = (one two : Files) (d : Digest) (p h : Bytes) → one p ≡ two p → ((q : Bytes) → Rests one p q → one q ≡ two q)
    → Hashed one d p h → Hashed two d p h

-- every meaning has right paths, whatever the digest and the hashes of its inputs, and one each
pub record OwnPaths : Type 0 where
  pub some : (d : Digest) (path : Bytes) (m : Meaning) → (q : Bytes) × OwnPath d path m q
  pub one : (d : Digest) (path : Bytes) (m : Meaning) (p q : Bytes) → OwnPath d path m p → OwnPath d path m q → p ≡ q

pub record OutputPaths : Type 0 where
  pub some : (d : Digest) (path : Bytes) (g : Bytes → Bytes) (m : Meaning) (o : Value an_output) → (q : Bytes) × OutputPath d path g m o q
  pub one : (d : Digest) (path : Bytes) (f g : Bytes → Bytes) (m : Meaning) (o : Value an_output) (p q : Bytes)
      → ((r : Row) → Names m r → f r.0 ≡ g r.0) → OutputPath d path f m o p → OutputPath d path g m o q → p ≡ q

-- the strings that are digested for a file: there for every meaning, one list of them given the hashes of the inputs
pub record StringsStand : Type 0 where
  pub some : (d : Digest) (path : Bytes) (g : Bytes → Bytes) (m : Meaning) → (ss : List Bytes) × FileStrings d path g m ss
  pub one : (d : Digest) (path : Bytes) (f g : Bytes → Bytes) (m : Meaning) (ss ts : List Bytes)
      → ((r : Row) → Names m r → f r.0 ≡ g r.0) → FileStrings d path f m ss → FileStrings d path g m ts → ss ≡ ts

-- a digest of 32 bytes
abbrev pub Wide : Digest → Type 0
Wide d = (s : Bytes) → length (d s) ≡ 32

-- a file of an image that reads is within the limits
abbrev pub WithinLimits : Type 0
WithinLimits = (path text : Bytes) (m : Meaning) → length path ≤ 255 → length text ≤ 262144 → Reads path text m → Limits path m

-- every digested string of a file within the limits is shorter than 1,048,576 bytes, so no digest sink refuses it
abbrev pub StringsShort : Type 0
StringsShort = (set : Files) (d : Digest) → Wide d → (p text : Bytes) (ss : List Bytes) → set p ≡ Some text → length p ≤ 255 → length text ≤ 262144
    → Digested set d p ss → AllByRecursion (λ (s : Bytes). length s < 1048576) ss

-- a file that has a hash has one list of digested strings
pub record DigestedStand : Type 0 where
  pub some : (set : Files) (d : Digest) (p : Bytes) → Hashable set p → (ss : List Bytes) × Digested set d p ss
  pub one : (set : Files) (d : Digest) (p : Bytes) (ss ts : List Bytes) → Digested set d p ss → Digested set d p ts → ss ≡ ts

-- a right path is one
abbrev pub OneRightPath : Type 0
OneRightPath = (set : Files) (d : Digest) (p : Bytes) (j : ℕ) (q r : Bytes) → RightPath set d p j q → RightPath set d p j r → q ≡ r

-- a file that reads has its own right path; one that has a hash has one for each of its outputs, and no file has more
pub record SomeRightPath : Type 0 where
  pub own : (set : Files) (d : Digest) (p : Bytes) (m : Meaning) → Means set p m → (q : Bytes) × RightPath set d p zero q
  pub some : (set : Files) (d : Digest) (p : Bytes) (m : Meaning) → Means set p m → Hashable set p
      → (j : ℕ) → j ≤ length m.0 → (q : Bytes) × RightPath set d p j q
  pub none : (set : Files) (d : Digest) (p : Bytes) (m : Meaning) → Means set p m
      → (j : ℕ) → length m.0 < j → (q : Bytes) → RightPath set d p j q → ⊥

-- two sets with files at the same paths, which read to the same meanings
pub record SameMeanings (one two : Files) : Type 0 where
  pub present : (p : Bytes) → Iff (Present one p) (Present two p)
  pub means : (p : Bytes) (m : Meaning) → Iff (Means one p m) (Means two p m)

-- hash, right paths and digested strings depend on the texts only through their meanings
pub record ThroughMeaning (one two : Files) (d : Digest) (p : Bytes) : Type 0 where
  pub hash : (h : Bytes) → Hashed one d p h → Hashed two d p h
  pub paths : (j : ℕ) (q : Bytes) → RightPath one d p j q → RightPath two d p j q
  pub strings : (ss : List Bytes) → Digested one d p ss → Digested two d p ss

abbrev pub MeaningAlone : Type 0
MeaningAlone = (one two : Files) → SameMeanings one two → (d : Digest) (p : Bytes) → ThroughMeaning one two d p
