-- The texts of the final report: the line of a file, the last line, and the line of a refusal.
-- Source: this project's own report (docs/FORMATS.md, "Report").
use Rattle.std.specs.Prelude.{ℕ, ◌*◌, ◌/◌, cond, List, [], ◌∷◌, ◌++◌, Some, None, codes, decimal, Option, ◌==◌}
use Rattle.derivation.specs.declared.told.Told.{Told}

-- a number after a space
abbrev pub column : ℕ → List ℕ
column n = 32 ∷ decimal n

-- `NUMBER LAYER FIELD ROW PLACE`, each after a space
abbrev pub told_text : Told → List ℕ
told_text t = column t.number ++ (column t.layer ++ (column t.field ++ (column t.row ++ column t.place)))

-- what stands after a file's number: what is told of it, or that it has no verdict yet
abbrev pub state_text : Option Told → List ℕ
state_text (Some t) = told_text t
state_text None = codes " pending"

-- `K NUMBER LAYER FIELD ROW PLACE`, or `K pending`, ended by byte 10
abbrev pub line_text : ℕ → Option Told → List ℕ
line_text k told = decimal k ++ (state_text told ++ (10 ∷ []))

-- of a hundred files how many are accepted, rounded down; 100 for no files
abbrev pub percent : ℕ → ℕ → ℕ
percent files accepted = cond (files == 0) 100 (100 * accepted / files)

-- `FILES ACCEPTED PERCENT`, ended by byte 10
abbrev pub tail_text : ℕ → ℕ → List ℕ
tail_text files accepted = decimal files ++ (column accepted ++ (column (percent files accepted) ++ (10 ∷ [])))

-- `refused NUMBER SLOT`, ended by byte 10
abbrev pub refused_text : ℕ → ℕ → List ℕ
refused_text number slot = codes "refused " ++ (decimal number ++ (column slot ++ (10 ∷ [])))
