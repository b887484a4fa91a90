-- What a string, an output and a file of a text mean, each held beside its text.
-- Source: this project's own rule (docs/FORMATS.md, "Right paths"), over the meaning of strings.
use Rattle.std.specs.Prelude.{ℕ, List}
use Rattle.aterm.specs.declared.file.Output.{Output}
use Rattle.aterm.specs.declared.part.Span.{Span}
use Rattle.canonical.specs.Files.{said_in, output_value, derivation_value}
use Rattle.canonical.specs.Kinds.{Value}
use Rattle.canonical.specs.Meanings.{an_output, Meaning}
use Rattle.right_paths.specs.declared.file.SortedFile.{SortedFile}
use Rattle.right_paths.specs.declared.file_output.FileOutput.{FileOutput}
use Rattle.right_paths.specs.declared.said.Said.{Said}

abbrev pub said_by : Said → List ℕ
said_by s = said_in s.text.now s.span

abbrev pub output_by : FileOutput → Value an_output
output_by o = output_value o.text.now o.output

abbrev pub file_by : SortedFile → Meaning
file_by f = derivation_value f.text.now f.file.now

-- a string and an output of a file's text
abbrev pub said_of : SortedFile → Span → Said
said_of f span = record { text = f.text; span = span }

abbrev pub output_of : SortedFile → Output → FileOutput
output_of f o = record { path = f.path; text = f.text; output = o }
