-- What is worked out for one file: the definition's hash, masked hash and right paths, with the definition's strings digested in their order.
-- Source: this project's own rule (docs/FORMATS.md, "Digested strings"), over the hashes and right paths of E. Dolstra,
-- The Purely Functional Software Deployment Model (2006), section 5.5.
use Rattle.std.specs.Prelude.{◌≡◌, ℕ, ◌+◌, ◌-◌, ◌%◌, ◌^◌, ◌<◌, ◌≤◌, List, [], ◌∷◌, ◌++◌, map, length, get_or, replicate, codes, slice_index_or, Some, None}
use Rattle.canonical.specs.Kinds.{Value, Lawful}
use Rattle.canonical.specs.Meanings.{an_output, a_derivation, Meaning, canonical}
use Rattle.derivation.specs.Questions.{output_name}
use Rattle.hash_rows.specs.declared.hash.Hash.{Hash}
use Rattle.sink.specs.Digest.{digest}
use Rattle.sink.specs.Write.{Step, steps}
use Rattle.sink.specs.Write as sinks
use Rattle.store_path.specs.Base32.{base32, fold}
use Rattle.hash_modulo.specs.Hashes.{Digest, Fixed, fixed_string, with_inputs, HashString}
use Rattle.hash_modulo.specs.Paths.{path_string, file_name, References, OwnPath, masked as mask, MaskedString, inner_string, fixed_path, OutputPath}
use Rattle.hash_modulo.specs.Sets.{Bytes, Row}
use Rattle.hash_modulo.specs.Strings.{own_strings, fixed_strings, output_string, FileStrings, all_lengths, no_output, Limits}
use Rattle.right_paths.specs.Inputs.{Aligned}
use Rattle.right_paths.specs.Pouring.{Short, poured}
use Rattle.right_paths.specs.declared.hashes.Counted.{Counted}
use Rattle.right_paths.specs.declared.hashes.Digits.{Digits}
use Rattle.right_paths.specs.declared.hashes.FileHashes.{FileHashes}

-- the store path with these digits and this name
abbrev pub full_store_path : List ℕ → Bytes → Bytes
full_store_path digits name = codes "/nix/store/" ++ (digits ++ (45 ∷ name))

abbrev pub no_digits : Digits
no_digits = record { bytes = replicate 32 0 }

-- the file is fixed, and o is its only output
abbrev pub FixedBy : Meaning → Value an_output → Type 0
FixedBy m o = (x : Fixed m) × (x.only ≡ o)

-- what a file must be for its hashes to be worked out: within the limits, its rows sorted, and some function has the hashes of its inputs
pub record Workable (path : Bytes) (m : Meaning) (hashes : List Hash) : Type 0 where
  pub limits : Limits path m
  pub lawful : Lawful a_derivation m
  pub given : Bytes → Bytes
  pub aligned : Aligned given m.1.0 hashes

-- the strings of a fixed output's path are short, whatever the digest of 32 bytes
pub record FixedShort (path : Bytes) (o : Value an_output) : Type 0 where
  pub inner : Short (inner_string o)
  pub source : Short (path_string (codes "source") o.1.1.1 (output_name path o.0))
  pub output : (h : Bytes) → length h ≤ 64 → Short (path_string (codes "output:out") h (output_name path o.0))

module _ (f : Step) (start : List ℕ) (capacity : ℕ) (answer : List ℕ → List ℕ) where
  -- some strings are digested in turn from the meaning `before` on: n bytes in all, and `after` is the sink's meaning then
  pub record PoursAll (before : sinks.Meaning) (ss : List Bytes) (n : ℕ) (after : sinks.Meaning) : Type 0 where
    pub count : n ≡ all_lengths ss
    pub sink : after ≡ poured f start capacity before ss

  -- the path of a string s is worked out: these are its digits
  pub record LocatedBy (before : sinks.Meaning) (s : Bytes) (digits : List ℕ) (n : ℕ) (after : sinks.Meaning) : Type 0 where
    pub located : digits ≡ base32 (fold (digest f start answer s))
    pub pours : PoursAll before (s ∷ []) n after

  -- the file's own path; its two strings have less than a mebibyte each
  pub record OwnWorked (path : Bytes) (m : Meaning) (before : sinks.Meaning) (digits : List ℕ) (n : ℕ) (after : sinks.Meaning) : Type 0 where
    pub references : List Bytes
    pub right : References m references
    pub own : OwnPath (digest f start answer) path m (full_store_path digits (file_name path))
    pub pours : PoursAll before (own_strings (digest f start answer) path m references) n after
    pub few : n ≤ 2097152

  -- the path of a fixed file's output; its strings are as short
  pub record FixedWorked (path : Bytes) (o : Value an_output) (before : sinks.Meaning) (digits : List ℕ) (n : ℕ) (after : sinks.Meaning) : Type 0 where
    pub right : full_store_path digits (output_name path o.0) ≡ fixed_path (digest f start answer) path o
    pub pours : PoursAll before (fixed_strings (digest f start answer) path o) n after
    pub few : n ≤ 2097152

  -- the paths of the outputs of a file that is not fixed, of which there are at most 16, where t is its masked text
  pub record OutputsWorked (path t : Bytes) (os : List (Value an_output)) (before : sinks.Meaning) (digits : List Digits) (n : ℕ) (after : sinks.Meaning) : Type 0 where
    pub each : (i : ℕ) → i < length os → (get_or digits i no_digits).bytes ≡ base32 (fold (digest f start answer (output_string (digest f start answer) path t (slice_index_or os i no_output))))
    pub pours : PoursAll before (map (output_string (digest f start answer) path t) os) n after
    pub few : n ≤ 16777216

  -- all that is worked out for a fixed file after its own path
  pub record FixedRest (path : Bytes) (o : Value an_output) (own : Counted Digits) (before : sinks.Meaning) (r : FileHashes) (after : sinks.Meaning) : Type 0 where
    pub kept : r.own.bytes ≡ own.value.bytes
    pub hash : r.hash.bytes ≡ digest f start answer (fixed_string o)
    pub unmasked : r.masked ≡ None
    pub right : full_store_path (get_or r.outputs 0 no_digits).bytes (output_name path o.0) ≡ fixed_path (digest f start answer) path o
    pub more : ℕ
    pub count : r.count ≡ own.count + more
    pub pours : PoursAll before (fixed_string o ∷ fixed_strings (digest f start answer) path o) more after

  -- all that is worked out after its own path for a file that is not fixed, where these rows stand for its inputs
  pub record TextRest (path : Bytes) (m : Meaning) (rows : List Row) (own : Counted Digits) (before : sinks.Meaning) (r : FileHashes) (after : sinks.Meaning) : Type 0 where
    pub kept : r.own.bytes ≡ own.value.bytes
    pub hash : r.hash.bytes ≡ digest f start answer (canonical (with_inputs m rows))
    pub masked : (h : Hash) × (r.masked ≡ Some h) × (h.bytes ≡ digest f start answer (canonical (with_inputs (mask m) rows)))
    pub each : (i : ℕ) → i < length m.0
        → (get_or r.outputs i no_digits).bytes ≡ base32 (fold (digest f start answer (output_string (digest f start answer) path (canonical (with_inputs (mask m) rows)) (slice_index_or m.0 i no_output))))
    pub more : ℕ
    pub count : r.count ≡ own.count + more
    pub pours : PoursAll before
        (canonical (with_inputs m rows) ∷ canonical (with_inputs (mask m) rows) ∷ map (output_string (digest f start answer) path (canonical (with_inputs (mask m) rows))) m.0) more after

  -- after some strings, of which s is the last, a digest sink holds s, and its total has risen by the lengths of all
  pub record HoldsLast (before : sinks.Meaning) (ss : List Bytes) (after : sinks.Meaning) : Type 0 where
    pub front : List Bytes
    pub last : Bytes
    pub whole : ss ≡ front ++ (last ∷ [])
    pub state : after.state ≡ steps f start last
    pub remaining : after.remaining ≡ capacity - length last
    pub total : after.total ≡ (before.total + all_lengths ss) % (2 ^ 64)

-- a file's right paths, by their digits; the outputs rise
pub record RightDigits (d : Digest) (path : Bytes) (g : Bytes → Bytes) (m : Meaning) (own : List ℕ) (outputs : List Digits) : Type 0 where
  pub own_path : OwnPath d path m (full_store_path own (file_name path))
  pub output_paths : (i : ℕ) → i < length m.0
      → OutputPath d path g m (slice_index_or m.0 i no_output) (full_store_path (get_or outputs i no_digits).bytes (output_name path (get_or m.0 i no_output).0))

-- all that is worked out for a file that means m, where g has the hashes of its inputs, with a digest sink that meant `before` and then means `after`
pub record FileWorked (f : Step) (start : List ℕ) (capacity : ℕ) (answer : List ℕ → List ℕ) (path : Bytes) (g : Bytes → Bytes) (m : Meaning)
    (before : sinks.Meaning) (r : FileHashes) (after : sinks.Meaning) : Type 0 where
  pub strings : List Bytes
  pub digested : FileStrings (digest f start answer) path g m strings
  pub count : r.count ≡ all_lengths strings
  pub sink : HoldsLast f start capacity answer before strings after
  pub hash : (s : Bytes) × HashString g m s × (r.hash.bytes ≡ digest f start answer s)
  pub masked : (Fixed m → ⊥) → (h : Hash) × (r.masked ≡ Some h) × (t : Bytes) × MaskedString g m t × (h.bytes ≡ digest f start answer t)
  pub unmasked : Fixed m → r.masked ≡ None
  pub paths : RightDigits (digest f start answer) path g m r.own.bytes r.outputs
