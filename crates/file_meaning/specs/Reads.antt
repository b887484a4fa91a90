-- What a file at a store path means: its text reads, every question on one file is answered yes, and its tree means m.
-- Source: this project's own rule (docs/CALLS.md, "Reading one file"), over the text and meaning of docs/FORMATS.md.
use Rattle.std.specs.Prelude.{◌≡◌, ℕ, List, None}
use Rattle.aterm.specs.Files.{derivation, whole}
use Rattle.aterm.specs.Grammar.{Tree, Within, signs}
use Rattle.derivation.specs.Judgement.{Answer}
use Rattle.derivation.specs.declared.question.Question.{Question}
use Rattle.canonical.specs.Kinds.{Means}
use Rattle.canonical.specs.Meanings.{a_derivation, Meaning}

pub record Reads (path text : List ℕ) (m : Meaning) : Type 0 where
  pub tree : Tree derivation
  pub written : signs text ≡ whole tree
  pub within : Within derivation tree
  pub passed : (q : Question) → Answer path tree q None
  pub means : Means a_derivation tree m
