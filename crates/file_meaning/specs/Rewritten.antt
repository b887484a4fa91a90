-- What a call that writes a file's canonical text does.
-- Source: this project's own rule (docs/CALLS.md, "Reading one file").
use Rattle.std.specs.Prelude.{◌≡◌, ℕ, List, Ok, Err, Result}
use Rattle.sink.specs.Write.{Step, Held, Taken, Stopped}
use Rattle.derivation.specs.Judgement.{IsFileFault}
use Rattle.canonical.specs.Meanings.{Meaning, canonical}
use Rattle.file_meaning.specs.Reads.{Reads}
use Rattle.file_meaning.specs.declared.rewritten.Unwritten.{Unwritten}
use Rattle.file_meaning.specs.declared.rewritten.Unwritten.TheVariants.{Fault, Full}

-- from a sink that holds h: its canonical text went in, or a front of it did, or the file does not read and the sink is what it was
abbrev pub Rewritten : {T S : Type 0} → List ℕ → List ℕ → Step → Held → Result T Unwritten → Held → S → S → Type 0
Rewritten path text f h (Ok _) k before after = (m : Meaning) × Reads path text m × Taken f h (canonical m) k
Rewritten path text f h (Err (Fault e)) k before after = IsFileFault path text e × (after ≡ before)
Rewritten path text f h (Err Full) k before after = (m : Meaning) × Reads path text m × Stopped f h (canonical m) k
