-- One right path of a file, worked out from the hashes of its inputs as they are kept, and written to a buffer.
-- Source: this project's own rule (docs/CALLS.md, "Calls").
use Rattle.std.specs.Prelude.{◌≡◌, ℕ, zero, suc, ◌+◌, ◌<◌, ◌≤◌, ◌⊎◌, List, [], ◌∷◌, ◌++◌, length, codes, Ok, Err, Result, slice_index_or}
use Rattle.canonical.specs.Kinds.{Value}
use Rattle.canonical.specs.Meanings.{an_output, Meaning}
use Rattle.derivation.specs.Questions.{output_name}
use Rattle.file_meaning.specs.Reads.{Reads}
use Rattle.hash_modulo.specs.Hashes.{Fixed}
use Rattle.hash_modulo.specs.Paths.{file_name, References, OwnPath, MaskedString, made_path, fixed_path}
use Rattle.hash_modulo.specs.Sets.{Bytes, Means, Readable, Row, Names}
use Rattle.hash_modulo.specs.Strings.{own_strings, fixed_strings, output_string, no_output}
use Rattle.sink.specs.Numerals.{hex}
use Rattle.sink.specs.Write as sinks
use Rattle.checker.specs.Calls.{Kind, D, Holds, Put, ReadsTo, HasHash, HasOutput}
use Rattle.checker.specs.Refusals.{Ask, Done}
use Rattle.checker.specs.Views.{View, Open, files, path_at, Exists, NumberOf, HashedAt}
use Rattle.checker.specs.declared.refused.CallRefusal.{CallRefusal}
use Rattle.checker.specs.declared.refused.CallRefusal.TheVariants.{NotOpened, NoFile, NoHash, NoOutput, Short}
use Rattle.checker.specs.declared.state.Hashes.{Hashes}

-- how long a store path with this name is
abbrev pub path_length : Bytes → ℕ
path_length name = 44 + length name

-- a path of this length is put, and `Is` holds of it and of what the sink means then; or the buffer is too short for it, and all stays
abbrev pub PathPut : ℕ → (Bytes → sinks.Meaning → Type 0) → List ℕ → sinks.Meaning → Result ℕ CallRefusal → List ℕ → sinks.Meaning → Type 0
PathPut long Is out before (Ok n) after sink = (q : Bytes) × Is q sink × Put q out n after
PathPut long Is out before (Err e) after sink = Ask (long ≤ length out) Short Done e × (after ≡ out) × (sink ≡ before)

-- q is the own path of the file at p that means m, and its strings alone were digested for it
pub record OwnLocated (kind : Kind) (p : Bytes) (m : Meaning) (before : sinks.Meaning) (q : Bytes) (sink : sinks.Meaning) : Type 0 where
  pub references : List Bytes
  pub right : References m references
  pub own : OwnPath (D kind) p m q
  pub holds : Holds kind before (own_strings (D kind) p m references) sink

-- g has the kept hash of each input that is settled with one
abbrev pub KeptHashes : View → Meaning → (Bytes → Bytes) → Type 0
KeptHashes v m g = (r : Row) → Names m r → (k : ℕ) (h : Hashes) → NumberOf v r.0 k → HashedAt v k h → g r.0 ≡ h.hash.bytes

-- q is the path of its output o, and its strings alone were digested for it: those of a fixed file, or its masked text by the kept hashes and the string of the path
pub data OutputLocated (kind : Kind) (v : View) (p : Bytes) (m : Meaning) (o : Value an_output) (before : sinks.Meaning) (q : Bytes) (sink : sinks.Meaning) : Type 0 where
  of_fixed : Fixed m → q ≡ fixed_path (D kind) p o → Holds kind before (fixed_strings (D kind) p o) sink → OutputLocated kind v p m o before q sink
  of_masked : (Fixed m → ⊥) → (g : Bytes → Bytes) → KeptHashes v m g → (t : Bytes) → MaskedString g m t
      → q ≡ made_path (D kind) (codes "output:" ++ o.0) (hex ((D kind) t)) (output_name p o.0)
      → Holds kind before (t ∷ output_string (D kind) p t o ∷ []) sink → OutputLocated kind v p m o before q sink

-- the path of the output i, if there is one
abbrev pub OutputAt : Kind → View → Bytes → Meaning → ℕ → List ℕ → sinks.Meaning → Result ℕ CallRefusal → List ℕ → sinks.Meaning → Type 0
OutputAt kind v p m i out before r after sink =
    let o = slice_index_or m.0 i no_output in
    (i < length m.0) × PathPut (path_length (output_name p o.0)) (OutputLocated kind v p m o before) out before r after sink

-- right path j of that file; 0 is its own
abbrev pub FileLocated : Kind → View → Bytes → Meaning → ℕ → List ℕ → sinks.Meaning → Result ℕ CallRefusal → List ℕ → sinks.Meaning → Type 0
FileLocated kind v p m zero out before r after sink = PathPut (path_length (file_name p)) (OwnLocated kind p m before) out before r after sink
FileLocated kind v p m (suc i) out before r after sink =
    OutputAt kind v p m i out before r after sink ⊎ ((i < length m.0 → ⊥) × (r ≡ Err NoOutput) × (after ≡ out) × (sink ≡ before))

-- the same of a file by its path and text, if it reads; the file of a hash that is kept does
abbrev pub LocatedIfRead : Kind → View → Bytes → Bytes → ℕ → List ℕ → sinks.Meaning → Result ℕ CallRefusal → List ℕ → sinks.Meaning → Type 0
LocatedIfRead kind v path text j out before r after sink =
    ((m : Meaning) × Reads path text m × FileLocated kind v path m j out before r after sink)
    ⊎ ((ReadsTo path text → ⊥) × (r ≡ Err NoHash) × (after ≡ out) × (sink ≡ before))

-- the name in right path j of the file at p that means m
abbrev pub path_name : Bytes → Meaning → ℕ → Bytes
path_name p m zero = file_name p
path_name p m (suc i) = output_name p (slice_index_or m.0 i no_output).0

-- the file k is settled with a hash, and reads: in a sound view each file with a hash does
abbrev pub HashedAndReads : View → ℕ → Type 0
HashedAndReads v k = HasHash v k × Readable (files v) (path_at v k)

-- a store path with the name in right path j is no longer than that
abbrev pub NameFits : View → ℕ → ℕ → ℕ → Type 0
NameFits v k j room = (m : Meaning) → Means (files v) (path_at v k) m → path_length (path_name (path_at v k) m j) ≤ room

-- the questions of path as they are put whatever the files were settled with: how long a path is, its name tells
abbrev pub PathRefused : View → ℕ → ℕ → ℕ → CallRefusal → Type 0
PathRefused v k j room =
    Ask (Open v) NotOpened (Ask (Exists v k) NoFile (Ask (HashedAndReads v k) NoHash (Ask (HasOutput v k j) NoOutput (Ask (NameFits v k j room) Short Done))))
