-- What a verdict is told by: its number, layer, field, row and place.
-- Source: this project's own rule (docs/CALLS.md, "Verdict").
use Rattle.std.specs.Prelude.{ℕ, Ok, Err, Result}
use Rattle.derivation.specs.Judgement.{details}
use Rattle.derivation.specs.declared.spot.Spot.{Spot}
use Rattle.derivation.specs.declared.told.Told.{Told}
use Rattle.verdict.specs.declared.fault.Fault.{Fault}
use Rattle.verdict.specs.declared.fault.Fault.TheVariants.{Reading, Absent, Unowned, Unhashed, WrongPath, WrongOutput, WrongVariable, NotCanonical}

-- the verdict of a file of a set: accepted, or its first fault
abbrev pub Verdict : Type 0
Verdict = Result (Unit {0}) Fault

-- a fault at a row
abbrev pub told_row : ℕ → ℕ → Spot → Told
told_row number layer w = record { number = number; layer = layer; field = w.field; row = w.row; place = w.place }

-- a fault of the whole file
abbrev pub told_file : ℕ → ℕ → Told
told_file number place = record { number = number; layer = 5; field = 0; row = 0; place = place }

abbrev pub fault_details : Fault → Told
fault_details (Reading f) = details f
fault_details (Absent w) = told_row 18 4 w
fault_details (Unowned w) = told_row 19 4 w
fault_details (Unhashed w) = told_row 20 4 w
fault_details WrongPath = told_file 21 0
fault_details (WrongOutput w) = told_row 22 5 w
fault_details (WrongVariable w) = told_row 23 5 w
fault_details (NotCanonical place) = told_file 24 place

-- all 0 where the file is accepted
abbrev pub verdict_details : Verdict → Told
verdict_details (Ok tt) = record { number = 0; layer = 0; field = 0; row = 0; place = 0 }
verdict_details (Err f) = fault_details f
