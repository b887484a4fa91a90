-- Canonical as a property of a text: rows strictly rising by what their keys mean, and no escape but those that are needed.
-- Source: this project's own rule (docs/FORMATS.md).
use Rattle.std.specs.Prelude.{◌≡◌, ℕ, ◌⊎◌, List, [], ◌∷◌, ◌≢◌}
use Rattle.std.specs.List.{AllByRecursion}
use Rattle.aterm.specs.Grammar.{Char, plain, escaped, raw, meaning, Tree, Trees, Within, signs}
use Rattle.aterm.specs.Files.{derivation, whole}
use Rattle.canonical.specs.Strings.{quoted}
use Rattle.canonical.specs.Decode.{said}
use Rattle.canonical.specs.Order.{Rising}
use Rattle.canonical.specs.Kinds.{Kind, text, entry, ordered, rising, Kinds, one, also, shape, shapes, tree_key, Means, Lawful}
use Rattle.canonical.specs.Meanings.{a_derivation, Meaning, canonical}

-- a backslash stands only before a quote, a backslash, n, r and t; the bytes 10, 13 and 9 stand nowhere
abbrev pub Proper : Char → Type 0
Proper (plain c o) = (c ≢ 10) × ((c ≢ 13) × (c ≢ 9))
Proper (escaped c) = (c ≡ 34) ⊎ ((c ≡ 92) ⊎ ((c ≡ 110) ⊎ ((c ≡ 114) ⊎ (c ≡ 116))))

abbrev mutual
  pub Canonical : (k : Kind) → Tree (shape k) → Type 0
  Canonical text cs = AllByRecursion Proper cs
  Canonical (entry ks) t = AllCanonical ks t
  Canonical (ordered n k) ts = AllByRecursion (Canonical k) ts
  Canonical (rising n k) ts = Rising (tree_key k) ts × AllByRecursion (Canonical k) ts

  pub AllCanonical : (ks : Kinds) → Trees (shapes ks) → Type 0
  AllCanonical (one k) t = Canonical k t
  AllCanonical (also k ks) t = Canonical k t.0 × AllCanonical ks t.1

-- a text of bytes that is canonical and means m
pub record CanonicalText (bytes : List ℕ) (m : Meaning) : Type 0 where
  pub tree : Tree derivation
  pub written : signs bytes ≡ whole tree
  pub within : Within derivation tree
  pub proper : Canonical a_derivation tree
  pub means : Means a_derivation tree m

-- each lawful meaning has a canonical text
abbrev pub HasOne : Type 0
HasOne = (m : Meaning) → Lawful a_derivation m → CanonicalText (canonical m) m

-- and no other
abbrev pub OnlyOne : Type 0
OnlyOne = (bytes : List ℕ) (m : Meaning) → CanonicalText bytes m → bytes ≡ canonical m

-- what is canonical already is written back byte for byte
abbrev pub WrittenBack : Type 0
WrittenBack = (bytes : List ℕ) (t : Tree derivation) (m : Meaning) → signs bytes ≡ whole t → Canonical a_derivation t → Means a_derivation t m → bytes ≡ canonical m

-- the string that is written as a backslash and the letter a, between quotes
abbrev pub needless : List Char
needless = escaped 97 ∷ []

-- it is written so; it means the letter a, as do the bytes between its quotes; its canonical text has no backslash; and it is not canonical
pub record Needless : Type 0 where
  pub stands : raw needless ≡ 92 ∷ 97 ∷ []
  pub means : meaning needless ≡ 97 ∷ []
  pub read : said (34 ∷ 92 ∷ 97 ∷ 34 ∷ []) 1 3 ≡ 97 ∷ []
  pub written : quoted (meaning needless) ≡ 34 ∷ 97 ∷ 34 ∷ []
  pub not : Canonical text needless → ⊥
