-- What the code's checker stands for.
-- Source: this project's own rule (docs/CALLS.md, "Calls").
use Rattle.std.specs.Prelude.{ℕ, Bool, true, false, [], ◌∷◌, Some, None, Option, Ok, Err, Result, Decides}
use Rattle.image.specs.Files.{bytes_of, files_of}
use Rattle.checker.specs.Rows.{row_at}
use Rattle.checker.specs.Views.{View, ReadyAt}
use Rattle.checker.specs.declared.checker.Checker.{Checker}
use Rattle.checker.specs.declared.checker.OpenSet.{OpenSet}
use Rattle.checker.specs.declared.checker.Visit.{Visit}
use Rattle.checker.specs.declared.refused.CallRefusal.{CallRefusal}
use Rattle.checker.specs.declared.state.State.TheVariants.{Pending}

-- a set that is opened
abbrev pub view_in : OpenSet → View
view_in s = record { opened = true; image = bytes_of s.files.image; count = files_of s.files.image; row = row_at s.states }

-- before a set is opened there are no files
abbrev pub view_none : View
view_none = record { opened = false; image = 0 ∷ 0 ∷ 0 ∷ 0 ∷ []; count = 0; row = λ k. Pending }

abbrev pub view_if : Option OpenSet → View
view_if None = view_none
view_if (Some s) = view_in s

abbrev pub view_of : Checker → View
view_of c = view_if c.opened

-- r says whether the file k is pending and ready
pub record SaysReady (s : OpenSet) (k : ℕ) (r : Bool) : Type 0 where
  pub says : Decides r (ReadyAt (view_in s) k)

-- the answers of calls with visits, by file numbers
abbrev pub visited : Result Visit CallRefusal → Result ℕ CallRefusal
visited (Ok v) = Ok v.file
visited (Err e) = Err e

abbrev pub told_back : {T : Type 0} → Result T (Visit × CallRefusal) → Result T CallRefusal
told_back (Ok x) = Ok x
told_back (Err e) = Err e.1
