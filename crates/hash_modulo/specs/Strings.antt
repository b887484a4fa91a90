-- The strings that are digested for a file that has a hash, in their order; right paths by their number; and the limits within which a file keeps them short.
-- Source: this project's own rule (docs/FORMATS.md, "Digested strings"); the strings are those of E. Dolstra,
-- The Purely Functional Software Deployment Model (2006), section 5.5, and the Nix manual, "Store Path".
use Rattle.std.specs.Prelude.{◌≡◌, ℕ, zero, suc, ◌+◌, ◌<◌, ◌≤◌, cond, ◌⊎◌, List, [], ◌∷◌, ◌++◌, map, length, codes, slice_index_or}
use Rattle.std.specs.List.{AllByRecursion}
use Rattle.std.specs.Str.{bytes_eq}
use Rattle.canonical.specs.Kinds.{Value}
use Rattle.canonical.specs.Meanings.{an_output, Meaning, canonical}
use Rattle.derivation.specs.Questions.{output_name}
use Rattle.sink.specs.Numerals.{hex}
use Rattle.hash_modulo.specs.Hashes.{Digest, Fixed, fixed_string, HashString, Hashed}
use Rattle.hash_modulo.specs.Paths.{path_string, file_name, References, own_type, OwnPath, MaskedString, inner_string, OutputPath}
use Rattle.hash_modulo.specs.Sets.{Bytes, Files, Means, Ready, Row, Names}

-- for the file's own path: its canonical text, and the string of the path
abbrev pub own_strings : Digest → Bytes → Meaning → List Bytes → List Bytes
own_strings d path m rs = canonical m ∷ path_string (own_type rs) (hex (d (canonical m))) (file_name path) ∷ []

-- for the output of a fixed file: the string of its path, and before it, unless the given hash stands in it, the string of its inner hash
abbrev pub fixed_strings : Digest → Bytes → Value an_output → List Bytes
fixed_strings d path o =
    cond (bytes_eq o.1.1.0 (codes "r:sha256"))
    (path_string (codes "source") o.1.1.1 (output_name path o.0) ∷ [])
    (inner_string o ∷ path_string (codes "output:out") (hex (d (inner_string o))) (output_name path o.0) ∷ [])

-- for an output of a file that is not fixed, where t is its masked text
abbrev pub output_string : Digest → Bytes → Bytes → Value an_output → Bytes
output_string d path t o = path_string (codes "output:" ++ o.0) (hex (d t)) (output_name path o.0)

-- the strings that are digested for the file at `path` that means m, where g has the hashes of its inputs:
-- for its own path, for its hash, for its masked hash unless it is fixed, and for its outputs, rising
pub data FileStrings (d : Digest) (path : Bytes) (g : Bytes → Bytes) (m : Meaning) : List Bytes → Type 0 where
  of_fixed : {ss : List Bytes} (f : Fixed m) (rs : List Bytes) → References m rs
      → ss ≡ own_strings d path m rs ++ (fixed_string f.only ∷ fixed_strings d path f.only) → FileStrings d path g m ss
  of_text : {ss : List Bytes} → (Fixed m → ⊥) → (rs : List Bytes) → References m rs → (s : Bytes) → HashString g m s → (t : Bytes) → MaskedString g m t
      → ss ≡ own_strings d path m rs ++ (s ∷ t ∷ map (output_string d path t) m.0) → FileStrings d path g m ss

-- how many bytes they have in all
abbrev pub all_lengths : List Bytes → ℕ
all_lengths [] = 0
all_lengths (s ∷ ss) = length s + all_lengths ss

-- g has the hashes of the inputs
abbrev pub InputsHashed : Files → Digest → Meaning → (Bytes → Bytes) → Type 0
InputsHashed set d m g = (r : Row) → Names m r → Hashed set d r.0 (g r.0)

-- the strings that are digested for the file at p of a set, where it has a hash
pub record Digested (set : Files) (d : Digest) (p : Bytes) (ss : List Bytes) : Type 0 where
  pub meaning : Meaning
  pub means : Means set p meaning
  pub ready : Ready set meaning
  pub hashes : Bytes → Bytes
  pub inputs : InputsHashed set d meaning hashes
  pub strings : FileStrings d p hashes meaning ss

abbrev pub no_output : Value an_output
no_output = ([], ([], ([], [])))

-- q is the right path j of the file at p: 0 is its own, from 1 on its outputs, rising
pub data RightPath (set : Files) (d : Digest) (p : Bytes) : ℕ → Bytes → Type 0 where
  own : {q : Bytes} (m : Meaning) → Means set p m → OwnPath d p m q → RightPath set d p zero q
  output : {q : Bytes} (m : Meaning) → Means set p m → Ready set m → (g : Bytes → Bytes) → InputsHashed set d m g
      → (i : ℕ) → i < length m.0 → OutputPath d p g m (slice_index_or m.0 i no_output) q → RightPath set d p (suc i) q

-- both columns of an output are empty
abbrev pub Blank : Value an_output → Type 0
Blank o = (o.1.1.0 ≡ []) × (o.1.1.1 ≡ [])

-- what keeps the strings of a file short: every file of an image that reads is within these
pub record Limits (p : Bytes) (m : Meaning) : Type 0 where
  pub path : length p ≤ 255
  pub text : length (canonical m) ≤ 524288
  pub inputs : length m.1.0 ≤ 64
  pub outputs : AllByRecursion (λ (o : Value an_output). length o.0 ≤ 211) m.0
  pub columns : Fixed m ⊎ AllByRecursion Blank m.0
