-- What a file must be for its right paths to be worked out and held against it: as read, and with its rows sorted.
-- Source: this project's own rule (docs/CALLS.md, "Verdict").
use Rattle.std.specs.Prelude.{◌≡◌}
use Rattle.aterm.specs.Files.{derivation, whole, in_derivation}
use Rattle.aterm.specs.Grammar.{Tree, signs}
use Rattle.aterm.specs.declared.file.Derivation.{Derivation}
use Rattle.canonical.specs.Files.{derivation_value}
use Rattle.canonical.specs.Kinds.{Means, Apart, Lawful}
use Rattle.canonical.specs.Meanings.{a_derivation}
use Rattle.file_meaning.specs.Reads.{Reads}
use Rattle.hash_modulo.specs.Sets.{Bytes}
use Rattle.hash_modulo.specs.Strings.{Limits}
use Rattle.store_path.specs.Names.{StorePath}

-- the text reads as a tree that `file` holds, its keys differ, and `arranged` says what it means
pub record Judgeable (path text : Bytes) (file arranged : Derivation) : Type 0 where
  pub tree : Tree derivation
  pub written : signs text ≡ whole tree
  pub held : in_derivation text 7 file tree
  pub apart : Apart a_derivation tree
  pub means : Means a_derivation tree (derivation_value text arranged)
  pub stored : StorePath path

-- the same of a file that reads, and `arranged` says its meaning, which is within the limits and lawful
pub record Prepared (path text : Bytes) (file arranged : Derivation) : Type 0 where
  pub judgeable : Judgeable path text file arranged
  pub reads : Reads path text (derivation_value text arranged)
  pub limits : Limits path (derivation_value text arranged)
  pub lawful : Lawful a_derivation (derivation_value text arranged)
