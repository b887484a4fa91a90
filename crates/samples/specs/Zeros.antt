-- The meaning of a digest sink whose answer is always 32 zeros: it keeps nothing of the bytes but their number.
-- Source: this project's own definition of a digest sink (docs/FORMATS.md, "Sinks").
use Rattle.std.specs.Prelude.{ℕ, List, [], replicate}
use Rattle.std.proofs.lemmas.List.{length-replicate}
use Rattle.sink.specs.Digest.{AllWide}
use Rattle.sink.specs.Write.{Meaning}

abbrev pub zero_answer : List ℕ → List ℕ
zero_answer state = replicate 32 0

pub zero_wide : AllWide zero_answer
zero_wide state = length-replicate {A = ℕ} 32 0

-- what a new one means: begun, and nothing taken
abbrev pub fresh : Meaning
fresh = record { state = []; remaining = 1048576; total = 0 }
