-- The key of a row: the string by which rows of one list differ.
-- Source: this project's own rule (docs/CALLS.md).
use Rattle.std.specs.Prelude.{ℕ, List, []}
use Rattle.aterm.specs.Grammar.{Shape, string, row, list, Fields, last, field, Tree, Trees}
use Rattle.aterm.specs.Reads.{Spans}

-- the key of a row is its first string
abbrev mutual
  pub key_of : (s : Shape) → Tree s → Tree string
  key_of string cs = cs
  key_of (row fs) t = first_of fs t
  -- a list has no key
  key_of (list n s) ts = []

  pub first_of : (fs : Fields) → Trees fs → Tree string
  first_of (last s) t = key_of s t
  first_of (field s fs) t = key_of s t.0

module _ {V : Type 0} (s : Shape) (H : List ℕ → ℕ → V → Tree s → Type 0) where
  -- the span from start to stop is that of the key of v
  abbrev pub KeyOf : (Tree s → Tree string) → V → ℕ → ℕ → Type 0
  KeyOf label v start stop = (text : List ℕ) (at : ℕ) (x : Tree s) → H text at v x → (p : ℕ) × Spans text p start stop (label x)
