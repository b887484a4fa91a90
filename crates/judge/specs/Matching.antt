-- What a sink means that holds what is written against what a string of a text means.
-- Source: this project's own rule (docs/CALLS.md, "Verdict"), over the definition of a sink (docs/FORMATS.md, "Sinks").
use Rattle.std.specs.Prelude.{ℕ, cond, List, [], ◌∷◌, Some, None, Option, ◌==◌}
use Rattle.aterm.specs.Meaning.{meant_left}
use Rattle.aterm.specs.declared.meant.Meant.{Meant}
use Rattle.sink.specs.Write.{Step}

-- a state has a number and the bytes to come, and nothing once another byte came
abbrev pub matching : Step
matching [] b = []
matching (f ∷ []) b = []
matching (f ∷ x ∷ xs) b = cond (x == b) (f ∷ xs) []

-- the bytes to come of a string that was matched so far
abbrev pub expected : Option Meant → List ℕ
expected None = []
expected (Some rest) = 0 ∷ meant_left rest
