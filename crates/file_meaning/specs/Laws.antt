-- The laws of files that read and their canonical texts.
-- Source: this project's own rule (docs/FORMATS.md, "Meaning and canonical text").
use Rattle.std.specs.Prelude.{◌≡◌, ℕ, ◌*◌, ◌≤◌, ◌⊎◌, List, length}
use Rattle.derivation.specs.Judgement.{IsFileFault}
use Rattle.derivation.specs.declared.fault.FileFault.{FileFault}
use Rattle.canonical.specs.Canonical.{Canonical, CanonicalText}
use Rattle.canonical.specs.Meanings.{a_derivation, Meaning, canonical}
use Rattle.file_meaning.specs.Reads.{Reads}

-- a file that reads has one meaning only
abbrev pub OneMeaning : Type 0
OneMeaning = (path text : List ℕ) (m n : Meaning) → Reads path text m → Reads path text n → m ≡ n

-- every file reads to some meaning, or has a fault
abbrev pub EveryFile : Type 0
EveryFile = (path text : List ℕ) → ((m : Meaning) × Reads path text m) ⊎ ((f : FileFault) × IsFileFault path text f)

-- and not both
abbrev pub NotBoth : Type 0
NotBoth = (path text : List ℕ) (m : Meaning) (f : FileFault) → Reads path text m → IsFileFault path text f → ⊥

-- a file has one fault only
abbrev pub OneFault : Type 0
OneFault = (path text : List ℕ) (f g : FileFault) → IsFileFault path text f → IsFileFault path text g → f ≡ g

-- every meaning that some file reads to has exactly one canonical text
pub record OneText (m : Meaning) : Type 0 where
  pub has : CanonicalText (canonical m) m
  pub only : (bytes : List ℕ) → CanonicalText bytes m → bytes ≡ canonical m

abbrev pub EachHasOneText : Type 0
EachHasOneText = (path text : List ℕ) (m : Meaning) → Reads path text m → OneText m

-- a canonical text that is read is its own canonical text, byte for byte
abbrev pub WrittenBack : Type 0
WrittenBack = (path text : List ℕ) (m : Meaning) → (r : Reads path text m) → Canonical a_derivation r.tree → text ≡ canonical m

-- the canonical text of what a file reads to, at the same path, reads again to the same meaning
abbrev pub ReadsAgain : Type 0
ReadsAgain = (path text : List ℕ) (m : Meaning) → Reads path text m → Reads path (canonical m) m

-- two files that read have the same canonical text exactly when their meanings are equal
abbrev pub Alike : Type 0
Alike = (p q t u : List ℕ) (m n : Meaning) → Reads p t m → Reads q u n → (m ≡ n → canonical m ≡ canonical n) × (canonical m ≡ canonical n → m ≡ n)

-- the canonical text is at most twice as long as the text
abbrev pub Short : Type 0
Short = (path text : List ℕ) (m : Meaning) → Reads path text m → length (canonical m) ≤ 2 * length text
