use Rattle.std.proofs.Common.{ℕ, List, rules}
use Rattle.std.proofs.lemmas.Fn.{always_returns_same}
use Rattle.canonical.specs.Kinds.{key}
use Rattle.canonical.proofs.Sorting.{less_is, earlier, earlier_ranks, level_from_sorted}
use Rattle.canonical.proofs.sort.sort_rows.Goals as goal

pub returns-clause-level : goal.returns-clause-level
returns-clause-level g c =
    let row_key : g.row.T.Denot → List ℕ = λ v. key g.T.Canon.kind (g.T.Canon.value c.args.text.now v) in
    level_from_sorted row_key _ (c.sort_unstable_by.ensures.sorted (earlier row_key) (earlier_ranks row_key) (always_returns_same _ _ _ (λ a r f called. search (rules, less_is))))
