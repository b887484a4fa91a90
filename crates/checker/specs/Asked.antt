-- What the first questions of a call answer: is a set opened, and is there a file of this number?
-- Source: this project's own rule (docs/CALLS.md, "Calls").
use Rattle.std.specs.Prelude.{◌≡◌, ℕ, Ok, Err, Result}
use Rattle.std.specs.Borrow.{Bor}
use Rattle.image.specs.Layout.{file_text}
use Rattle.image.specs.declared.image.File.{File}
use Rattle.checker.specs.Seen.{view_in, view_none}
use Rattle.checker.specs.Views.{View, Exists, path_at}
use Rattle.checker.specs.declared.checker.OpenSet.{OpenSet}
use Rattle.checker.specs.declared.refused.CallRefusal.{CallRefusal}
use Rattle.checker.specs.declared.refused.CallRefusal.TheVariants.{NotOpened, NoFile}
use Rattle.checker.specs.declared.state.State.{State}

-- the set that is opened
abbrev pub SetAsked : View → Result (Bor OpenSet) CallRefusal → Type 0
SetAsked v (Ok s) = v ≡ view_in s.now
SetAsked v (Err e) = (v ≡ view_none) × (e ≡ NotOpened)

-- the state of the file k
abbrev pub StateAsked : View → ℕ → Result State CallRefusal → Type 0
StateAsked v k (Ok s) = Exists v k × (s ≡ v.row k)
StateAsked v k (Err e) = (Exists v k → ⊥) × (e ≡ NoFile)

-- the file k itself
abbrev pub FileAsked : View → ℕ → Result File CallRefusal → Type 0
FileAsked v k (Ok f) = Exists v k × (f.path.now ≡ path_at v k) × (f.text.now ≡ file_text v.image k)
FileAsked v k (Err e) = (Exists v k → ⊥) × (e ≡ NoFile)
