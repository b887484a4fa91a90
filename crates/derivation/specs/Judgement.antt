-- What a file is judged: accepted, or refused by its one fault; and what a fault is told by.
-- Source: this project's own rule (docs/CALLS.md).
use Rattle.std.specs.Prelude.{◌≡◌, ℕ, ◌<◌, List, ◌∷◌, ◌++◌, Some, None, Ok, Err, Option, Result}
use Rattle.std.specs.Fmt.{decimal}
use Rattle.aterm.specs.declared.fault.Cause.{Cause}
use Rattle.aterm.specs.declared.fault.Cause.TheVariants.{Byte as WrongByte, Row as RowTooMany}
use Rattle.aterm.specs.declared.file.Derivation.{Derivation}
use Rattle.aterm.specs.Grammar.{signs, Tree}
use Rattle.aterm.specs.Files.{derivation, whole, in_derivation, IsFault, Reading}
use Rattle.derivation.specs.declared.spot.Spot.{Spot}
use Rattle.derivation.specs.declared.question.Question.{Question}
use Rattle.derivation.specs.declared.fault.FileFault.{FileFault}
use Rattle.derivation.specs.declared.fault.FileFault.TheVariants.{Text, Row}
use Rattle.derivation.specs.declared.told.Told.{Told}
use Rattle.derivation.specs.Asked.{First}
use Rattle.derivation.specs.Questions.{Yes, number, entries}
use Rattle.derivation.specs.Plain.{PlainFields}

-- what a fault is told by: its number, layer, field, row and place
abbrev pub text_number : Cause → ℕ
text_number WrongByte = 11
text_number RowTooMany = 12

abbrev pub details : FileFault → Told
details (Text f) = record { number = text_number f.cause; layer = 2; field = 0; row = 0; place = f.place }
details (Row q w) = record { number = number q; layer = 3; field = w.field; row = w.row; place = w.place }

-- what is told where there is no fault
abbrev pub no_details : Told
no_details = record { number = 0; layer = 0; field = 0; row = 0; place = 0 }

-- what is told as text: the five numbers, with a space between two
abbrev pub columns : Told → List ℕ
columns t = decimal t.number ++ 32 ∷ decimal t.layer ++ 32 ∷ decimal t.field ++ 32 ∷ decimal t.row ++ 32 ∷ decimal t.place

-- Of the file at `path` with the tree x: the answer to the question q, none or where its first no is.
abbrev pub Answer : List ℕ → Tree derivation → Question → Option Spot → Type 0
Answer path x q r = First (Yes q path x.0) (entries x) r

-- The text reads, each earlier question is answered yes, and the first no to this one is at w.
pub record Refused (path text : List ℕ) (q : Question) (w : Spot) : Type 0 where
  pub tree : Tree derivation
  pub written : signs text ≡ whole tree
  pub passed : (p : Question) → number p < number q → Answer path tree p None
  pub found : Answer path tree q (Some w)

abbrev pub IsFileFault : List ℕ → List ℕ → FileFault → Type 0
IsFileFault path text (Text f) = IsFault text f
IsFileFault path text (Row q w) = Refused path text q w

pub record Accepted (path text : List ℕ) (d : Derivation) : Type 0 where
  pub reading : Reading text d
  pub passed : (p : Question) → Answer path reading.tree p None
  pub plain : PlainFields reading.tree
  pub clear : (g : FileFault) → IsFileFault path text g → ⊥

abbrev pub JudgedFile : List ℕ → List ℕ → Result Derivation FileFault → Type 0
JudgedFile path text (Ok d) = Accepted path text d
JudgedFile path text (Err f) = IsFileFault path text f × ((g : FileFault) → IsFileFault path text g → g ≡ f)

-- one question is put to a file that holds a tree: its first no, or the answer yes
abbrev pub RefusedBy : Question → List ℕ → List ℕ → Derivation → FileFault → Type 0
RefusedBy q path text d (Text f) = ⊥
RefusedBy q path text d (Row p w) = (p ≡ q) × ((x : Tree derivation) → in_derivation text 7 d x → Answer path x q (Some w))

abbrev pub Put : {U : Type 0} → Question → List ℕ → List ℕ → Derivation → Result U FileFault → Type 0
Put q path text d (Ok u) = (x : Tree derivation) → in_derivation text 7 d x → Answer path x q None
Put q path text d (Err f) = RefusedBy q path text d f
