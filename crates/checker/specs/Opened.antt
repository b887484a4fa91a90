-- What opening a set answers, and what it leaves of the checker: the first question with the answer no decides, and a refusal leaves all as it was.
-- Source: this project's own rule (docs/CALLS.md, "Open" and "Calls").
use Rattle.std.specs.Prelude.{◌≡◌, ℕ, Ok, Err, Result}
use Rattle.hash_modulo.specs.Sets.{Bytes}
use Rattle.image.specs.Opening.{Opens, Refused, refusal_number, refusal_slot}
use Rattle.checker.specs.Views.{View, Open, fresh}
use Rattle.checker.specs.declared.refused.OpenRefusal.{OpenRefusal}
use Rattle.checker.specs.declared.refused.OpenRefusal.TheVariants.{AlreadyOpen, Image}

-- the number and the slot by which a refusal is told
abbrev pub open_number : OpenRefusal → ℕ
open_number AlreadyOpen = 1
open_number (Image e) = refusal_number e

abbrev pub open_slot : OpenRefusal → ℕ
open_slot AlreadyOpen = 0
open_slot (Image e) = refusal_slot e

-- no set may be opened before, and then the image's questions follow
abbrev pub OpenRefused : View → Bytes → OpenRefusal → Type 0
OpenRefused v img AlreadyOpen = Open v
OpenRefused v img (Image e) = (Open v → ⊥) × Refused img e

-- a set that opens has every file pending
abbrev pub OpensSet : View → Bytes → Result (Unit {0}) OpenRefusal → View → Type 0
OpensSet v img (Ok _) w = (Open v → ⊥) × ((n : ℕ) × Opens img n × (w ≡ fresh img n))
OpensSet v img (Err e) w = OpenRefused v img e × (w ≡ v)

-- whatever was opened before, and whatever the image, open has an answer
abbrev pub SomeOpening : Type 0
SomeOpening = (v : View) (img : Bytes) → (r : Result (Unit {0}) OpenRefusal) × (w : View) × OpensSet v img r w

-- and one only, and it leaves one view
abbrev pub OneOpening : Type 0
OneOpening = (v : View) (img : Bytes) (r s : Result (Unit {0}) OpenRefusal) (w x : View) → OpensSet v img r w → OpensSet v img s x → (r ≡ s) × (w ≡ x)
