-- That every text is judged: each list of numbers is written by a tree, or it has a fault. And that a string's bytes mean what the string means.
-- Source: this project's own rule (docs/CALLS.md).
use Rattle.std.specs.Prelude.{◌≡◌, ℕ, ◌⊎◌, false, List}
use Rattle.aterm.specs.declared.fault.Fault.{Fault}
use Rattle.aterm.specs.Grammar.{Char, signs, Tree, raw, meaning}
use Rattle.aterm.specs.Meaning.{meant}
use Rattle.aterm.specs.Files.{derivation, whole, IsFault}

abbrev pub EveryText : Type 0
EveryText = (text : List ℕ) → ((x : Tree derivation) × (signs text ≡ whole x)) ⊎ ((f : Fault) × IsFault text f)

-- read byte by byte with its escapes resolved, a string gives what its characters mean
abbrev pub MeantByBytes : Type 0
MeantByBytes = (cs : List Char) → meant false (raw cs) ≡ meaning cs
