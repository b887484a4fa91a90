-- What a recorder holds, by its value and by what the sink below holds.
-- Source: this project's own definition of a recorder (docs/FORMATS.md, "Sinks").
use Rattle.sink.specs.Write.{Held}
use Rattle.recorder.specs.Record.{recorded}
use Rattle.recorder.specs.declared.layer.Recorder.{Recorder}

abbrev pub holding : {S : Type 0} → (S → Held) → Recorder S → Held
holding held r = recorded r.table.count r.table.bytes (held r.below)
