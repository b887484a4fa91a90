-- Whether a file owns the outputs that an input row of another file wants of it, by the bytes of their names.
-- Source: this project's own rule (docs/CALLS.md, "Verdict").
use Rattle.std.specs.Prelude.{◌≡◌, ℕ, ◌-◌, ◌≤◌, Bool, List, map, take, Some, None, Option, Decides, slice_index_or}
use Rattle.std.specs.List.{AllByRecursion}
use Rattle.aterm.specs.Files.{output, span}
use Rattle.aterm.specs.Grammar.{Tree, string, raw, meaning}
use Rattle.aterm.specs.Meaning.{cut}
use Rattle.aterm.specs.Reads.{Each}
use Rattle.aterm.specs.declared.file.Derivation.{Derivation}
use Rattle.aterm.specs.declared.part.Span.{Span}
use Rattle.aterm.specs.declared.rows.Placed.{Placed}
use Rattle.canonical.specs.Order.{Member}
use Rattle.derivation.specs.Judgement.{Accepted, IsFileFault}
use Rattle.derivation.specs.Plain.{AsItStands}
use Rattle.derivation.specs.declared.fault.FileFault.{FileFault}
use Rattle.hash_modulo.specs.Sets.{Bytes, Owned}
use Rattle.image.specs.Files.{bytes_of, files_of}
use Rattle.image.specs.Layout.{file_path, file_text}
use Rattle.links.specs.Linked.{LinkedAt}
use Rattle.links.specs.Sets.{set_of, Found}
use Rattle.links.specs.declared.link.Links.{Links}
use Rattle.links.specs.declared.output_names.OutputNames.{OutputNames}
use Rattle.links.specs.declared.owners.Owners.{Owners}

-- one of the outputs has this name
abbrev pub OwnsOutput : List (Tree output) → Bytes → Type 0
OwnsOutput os n = (t : Tree output) × Member t os × (raw t.0 ≡ n)

-- these are the names of some tree of the text
abbrev pub NamesAre : Bytes → List (Placed Span) → List (Tree string) → Type 0
NamesAre text vs ns = (from : ℕ) × Each string (λ p v. span text v p) from vs ns

-- the names that are kept, by their places
abbrev pub spans_of : OutputNames → List Span
spans_of v = take v.count v.spans

-- these are the outputs of which the names are kept: in the text these stand at the places, in the same order
abbrev pub OutputsAre : Bytes → OutputNames → List (Tree output) → Type 0
OutputsAre text v os = map (λ (s : Span). cut text s.start s.«end») (spans_of v) ≡ map (λ (t : Tree output). raw t.0) os

-- a file that reads is accepted, and the names of its outputs are kept
pub record OutputsNamed (path text : Bytes) (v : OutputNames) : Type 0 where
  pub file : Derivation
  pub accepted : Accepted path text file
  pub outputs : OutputsAre text v accepted.reading.tree.0

-- what is kept of the file at this path with this text: nothing where it does not read
abbrev pub NamesKept : Bytes → Bytes → Option OutputNames → Type 0
NamesKept path text None = (f : FileFault) × IsFileFault path text f
NamesKept path text (Some v) = OutputsNamed path text v

-- what the table keeps of the file of this number
abbrev pub names_of : Owners → ℕ → Option OutputNames
names_of t k = slice_index_or t.names (k - 1) None

-- it keeps what is right of every file of its image
abbrev pub AllNames : Owners → Type 0
AllNames t = let img = bytes_of t.image.now in (k : ℕ) → 1 ≤ k → k ≤ files_of t.image.now → NamesKept (file_path img k) (file_text img k) (names_of t k)

-- l is what is kept of the input rows of the file of this number, if the names are right
pub record LinkedBy (t : Owners) (k : ℕ) (l : Option Links) : Type 0 where
  pub kept : AllNames t → LinkedAt (bytes_of t.image.now) (files_of t.image.now) k l

-- r says whether one of the outputs has this name
pub record NameOwned (text : Bytes) (v : OutputNames) (n : Bytes) (r : Bool) : Type 0 where
  pub right : (os : List (Tree output)) → OutputsAre text v os → Decides r (OwnsOutput os n)

-- the file of this number, counted from 1, has this path, and what the set of the first n files has at it is this text
pub record Stands (img : Bytes) (n number : ℕ) (path text : Bytes) : Type 0 where
  pub from : 1 ≤ number
  pub named : file_path img number ≡ path
  pub there : set_of img n path ≡ Some text

-- r says whether the file of this number among the first n, if it reads, owns the outputs of these names
abbrev pub OwnedBy : Bytes → ℕ → ℕ → Bytes → List (Placed Span) → Bool → Type 0
OwnedBy img n number text vs r = (ns : List (Tree string)) → NamesAre text vs ns → AllByRecursion AsItStands ns
    → (p : Bytes) → Found img n p (Some number) → Decides r (Owned (set_of img n) (p, map meaning ns))
