-- The hash of a file modulo its inputs, as a recursive definition without a memo.
-- Source: E. Dolstra, The Purely Functional Software Deployment Model (2006), section 5.5, and the Nix manual, "Derivations".
use Rattle.std.specs.Prelude.{◌≡◌, List, [], ◌∷◌, ◌++◌, map, codes}
use Rattle.canonical.specs.Kinds.{Value}
use Rattle.canonical.specs.Meanings.{an_output, Meaning, canonical}
use Rattle.derivation.specs.Questions.{Given}
use Rattle.hash_rows.specs.Keyed as keyed
use Rattle.sink.specs.Numerals.{hex}
use Rattle.hash_modulo.specs.Sets.{Bytes, Files, Means, Row, Names, Ready}

abbrev pub Digest : Type 0
Digest = Bytes → Bytes

-- the file is fixed: its only output is `out`, with an algorithm and a hash
pub record Fixed (m : Meaning) : Type 0 where
  pub only : Value an_output
  pub whole : m.0 ≡ only ∷ []
  pub named : only.0 ≡ codes "out"
  pub given : Given only.1.1.0 only.1.1.1

-- `fixed:out:` algorithm `:` hash `:` stated path
abbrev pub fixed_string : Value an_output → Bytes
fixed_string o = codes "fixed:out:" ++ (o.1.1.0 ++ (58 ∷ (o.1.1.1 ++ (58 ∷ o.1.0))))

-- a row's key
abbrev pub path_of : Row → Bytes
path_of r = r.0

-- the input rows in rising order of path, each path replaced by the hex of that file's hash
abbrev pub hashed_rows : (Bytes → Bytes) → Meaning → List Row
hashed_rows g m = map (λ (r : Row). (hex (g r.0), r.1)) m.1.0

-- the same meaning with other input rows
abbrev pub with_inputs : Meaning → List Row → Meaning
with_inputs m rows = (m.0, (rows, m.1.1))

-- s is the string whose digest is the hash of a file that means m, where g has the hashes of its inputs:
-- its rows rise by hash, and of rows with equal hash the last one stands, which has the greatest path (`GreatestStands` of Laws.antt)
pub data HashString (g : Bytes → Bytes) (m : Meaning) : Bytes → Type 0 where
  of_fixed : {s : Bytes} (f : Fixed m) → s ≡ fixed_string f.only → HashString g m s
  of_text : {s : Bytes} → (Fixed m → ⊥) → (rows : List Row) → keyed.Rising path_of rows → keyed.Gathered path_of (hashed_rows g m) rows
      → s ≡ canonical (with_inputs m rows) → HashString g m s

-- h is the hash of the file at p; g has the hashes of its inputs
pub data Hashed (set : Files) (d : Digest) : Bytes → Bytes → Type 0 where
  hashed : {p h : Bytes} (m : Meaning) (g : Bytes → Bytes) (s : Bytes) → Means set p m → Ready set m
      → ((r : Row) → Names m r → Hashed set d r.0 (g r.0))
      → HashString g m s → h ≡ d s → Hashed set d p h
