-- Fields 1, 2 and 3 of a file in which no string has an escape: the bytes that stand there are what is meant.
-- Source: this project's own rule (docs/CALLS.md). Strings and their escapes: E. Dolstra, The Purely Functional Software Deployment Model (2006), section 5.4.
use Rattle.std.specs.Prelude.{◌≡◌}
use Rattle.std.specs.List.{AllByRecursion}
use Rattle.aterm.specs.Grammar.{Tree, string, raw, meaning}
use Rattle.aterm.specs.Files.{output, input, derivation}

-- the bytes of a string as they stand in the text are those that it means
abbrev pub AsItStands : Tree string → Type 0
AsItStands cs = raw cs ≡ meaning cs

pub record PlainOutput (x : Tree output) : Type 0 where
  pub name : AsItStands x.0
  pub path : AsItStands x.1.0
  pub algorithm : AsItStands x.1.1.0
  pub hash : AsItStands x.1.1.1

pub record PlainInput (x : Tree input) : Type 0 where
  pub path : AsItStands x.0
  pub names : AllByRecursion AsItStands x.1

-- each string of the outputs, the input files and the input sources
pub record PlainFields (x : Tree derivation) : Type 0 where
  pub outputs : AllByRecursion PlainOutput x.0
  pub inputs : AllByRecursion PlainInput x.1.0
  pub sources : AllByRecursion AsItStands x.1.1.0
