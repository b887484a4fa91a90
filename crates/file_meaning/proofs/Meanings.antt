-- One meaning of a file.
use Rattle.std.proofs.Common.{◌≡◌, sym, ◌∙◌, subst}
use Rattle.aterm.specs.Files.{derivation}
use Rattle.aterm.specs.Grammar.{Tree}
use Rattle.canonical.specs.Kinds.{Means}
use Rattle.canonical.specs.Meanings.{a_derivation}
use Rattle.canonical.proofs.Home.{whole_once}
use Rattle.canonical.proofs.Unique.{means_once}
use Rattle.file_meaning.specs.Laws.{OneMeaning}

pub one_meaning : OneMeaning
one_meaning path text m n r s =
    let same : s.tree ≡ r.tree = whole_once s.tree r.tree (sym s.written ∙ r.written) in
    means_once a_derivation r.tree m n r.means (subst (λ (t : Tree derivation). Means a_derivation t n) same s.means)
