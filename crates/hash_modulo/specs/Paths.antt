-- Right paths: the store path of a type, a hash and a name; the file's own path; the paths of its outputs.
-- Source: E. Dolstra, The Purely Functional Software Deployment Model (2006), section 5.5, and the Nix manual, "Store Path".
use Rattle.std.specs.Prelude.{◌≡◌, Bool, false, cond, ◌||◌, ◌⊎◌, List, [], ◌∷◌, ◌++◌, map, drop, codes}
use Rattle.std.specs.List.{flat_map}
use Rattle.std.specs.Str.{bytes_eq}
use Rattle.canonical.specs.Kinds.{Value}
use Rattle.canonical.specs.Meanings.{an_output, a_variable, Meaning, canonical}
use Rattle.canonical.specs.Order.{Member, Rising}
use Rattle.derivation.specs.Questions.{output_name}
use Rattle.hash_rows.specs.Keyed as keyed
use Rattle.sink.specs.Numerals.{hex}
use Rattle.store_path.specs.Base32.{base32, fold}
use Rattle.hash_modulo.specs.Hashes.{Digest, Fixed, path_of, hashed_rows, with_inputs}
use Rattle.hash_modulo.specs.Sets.{Bytes, Row, Names}

-- the string whose digest a store path writes: a type, a hash in base 16, a name
abbrev pub path_string : Bytes → Bytes → Bytes → Bytes
path_string type hash name = type ++ (codes ":sha256:" ++ (hash ++ (codes ":/nix/store:" ++ name)))

-- the store path of a type, a hash in base 16 and a name
abbrev pub made_path : Digest → Bytes → Bytes → Bytes → Bytes
made_path d type hash name = codes "/nix/store/" ++ (base32 (fold (d (path_string type hash name))) ++ (45 ∷ name))

-- the name of the file at a path
abbrev pub file_name : Bytes → Bytes
file_name path = drop 44 path

-- the references of a file: the union of its input files and its sources, rising
pub record References (m : Meaning) (rs : List Bytes) : Type 0 where
  pub rises : Rising (λ p. p) rs
  pub there : (p : Bytes) → Member p rs → ((r : Row) × Names m r × (r.0 ≡ p)) ⊎ Member p m.1.1.0
  pub inputs : (r : Row) → Names m r → Member r.0 rs
  pub sources : (p : Bytes) → Member p m.1.1.0 → Member p rs

-- `text`, and `:` and its path for each reference
abbrev pub own_type : List Bytes → Bytes
own_type rs = codes "text" ++ flat_map (λ p. 58 ∷ p) rs

-- q is the right path of the file at `path` that means m
pub record OwnPath (d : Digest) (path : Bytes) (m : Meaning) (q : Bytes) : Type 0 where
  pub references : List Bytes
  pub right : References m references
  pub is : q ≡ made_path d (own_type references) (hex (d (canonical m))) (file_name path)

-- whether an output has this name
abbrev pub is_output : List (Value an_output) → Bytes → Bool
is_output [] n = false
is_output (o ∷ os) n = bytes_eq o.0 n || is_output os n

abbrev pub mask_output : Value an_output → Value an_output
mask_output o = (o.0, ([], o.1.1))

abbrev pub mask_variable : List (Value an_output) → Value a_variable → Value a_variable
mask_variable os v = (v.0, cond (is_output os v.0) [] v.1)

-- the same with every output path empty, and every environment value whose name is an output's
abbrev pub masked : Meaning → Meaning
masked m = (
  map {B = Value an_output} mask_output m.0,
  (m.1.0, (m.1.1.0, (m.1.1.1.0, (m.1.1.1.1.0, (m.1.1.1.1.1.0, map {B = Value a_variable} (mask_variable m.0) m.1.1.1.1.1.1))))),
)

-- s is the string whose digest is the masked hash of a file that is not fixed
pub record MaskedString (g : Bytes → Bytes) (m : Meaning) (s : Bytes) : Type 0 where
  pub rows : List Row
  pub rises : keyed.Rising path_of rows
  pub gathered : keyed.Gathered path_of (hashed_rows g m) rows
  pub is : s ≡ canonical (with_inputs (masked m) rows)

-- `fixed:out:` algorithm `:` hash `:`
abbrev pub inner_string : Value an_output → Bytes
inner_string o = codes "fixed:out:" ++ (o.1.1.0 ++ (58 ∷ (o.1.1.1 ++ (58 ∷ []))))

-- the right path of a fixed file's output
abbrev pub fixed_path : Digest → Bytes → Value an_output → Bytes
fixed_path d path o =
    cond (bytes_eq o.1.1.0 (codes "r:sha256"))
    (made_path d (codes "source") o.1.1.1 (output_name path o.0))
    (made_path d (codes "output:out") (hex (d (inner_string o))) (output_name path o.0))

-- q is the right path of the output o of the file at `path` that means m; g has the hashes of its inputs
pub data OutputPath (d : Digest) (path : Bytes) (g : Bytes → Bytes) (m : Meaning) (o : Value an_output) : Bytes → Type 0 where
  of_fixed : {q : Bytes} → Fixed m → q ≡ fixed_path d path o → OutputPath d path g m o q
  of_masked : {q : Bytes} → (Fixed m → ⊥) → (s : Bytes) → MaskedString g m s
      → q ≡ made_path d (codes "output:" ++ o.0) (hex (d s)) (output_name path o.0) → OutputPath d path g m o q
