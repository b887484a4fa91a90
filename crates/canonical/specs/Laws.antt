-- The laws of meanings and canonical texts.
-- Source: this project's own rule (docs/FORMATS.md): a text has one meaning, and a meaning one canonical text, which reads back as it.
use Rattle.std.specs.Prelude.{◌≡◌, ℕ, ◌*◌, ◌≤◌, List, length}
use Rattle.aterm.specs.Grammar.{Tree, signs, Within}
use Rattle.aterm.specs.Files.{derivation, whole}
use Rattle.canonical.specs.Kinds.{Lawful, Means, Apart}
use Rattle.canonical.specs.Meanings.{a_derivation, Meaning, canonical}

-- a tree with different keys has a meaning
abbrev pub Exists : Type 0
Exists = (t : Tree derivation) → Apart a_derivation t → (m : Meaning) × Means a_derivation t m

-- and only one
abbrev pub Unique : Type 0
Unique = (t : Tree derivation) (m n : Meaning) → Means a_derivation t m → Means a_derivation t n → m ≡ n

-- the meaning of what is within its limits is lawful
abbrev pub Keeps : Type 0
Keeps = (t : Tree derivation) (m : Meaning) → Within derivation t → Means a_derivation t m → Lawful a_derivation m

-- no two meanings have one canonical text
abbrev pub Injective : Type 0
Injective = (m n : Meaning) → canonical m ≡ canonical n → m ≡ n

-- the canonical text reads as one tree, which means the same again
pub record Home (m : Meaning) : Type 0 where
  pub tree : Tree derivation
  pub written : signs (canonical m) ≡ whole tree
  pub within : Within derivation tree
  pub means : Means a_derivation tree m
  pub only : (u : Tree derivation) → signs (canonical m) ≡ whole u → u ≡ tree

abbrev pub ReadsBack : Type 0
ReadsBack = (m : Meaning) → Lawful a_derivation m → Home m

-- two trees mean the same exactly where their canonical texts are the same
abbrev pub Agree : Type 0
Agree = (t u : Tree derivation) (m n : Meaning) → Means a_derivation t m → Means a_derivation u n
    → (Means a_derivation u m → canonical m ≡ canonical n) × (canonical m ≡ canonical n → Means a_derivation u m)

abbrev pub Bounded : Type 0
Bounded = (bytes : List ℕ) (t : Tree derivation) (m : Meaning) → signs bytes ≡ whole t → Means a_derivation t m → length (canonical m) ≤ 2 * length bytes
