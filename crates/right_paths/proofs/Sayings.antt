-- The bytes that an iterator gives of a string are those that the string means.
use Rattle.std.proofs.Common.{◌≡◌, ℕ, List, false, ap}
use Rattle.aterm.specs.Meaning.{cut, meant}
use Rattle.right_paths.specs.Views.{said_by}
use Rattle.right_paths.specs.declared.said.Said.{Said}

pub meant_said : (s : Said) (rest : List ℕ) → rest ≡ cut s.text.now s.span.start s.span.«end» → meant false rest ≡ said_by s
meant_said s rest e = ap (meant false) e
