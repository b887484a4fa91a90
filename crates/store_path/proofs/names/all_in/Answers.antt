use Rattle.std.proofs.Common.{◌≡◌, ◌==◌, ℕ, Bool, refl, rules}
use Rattle.std.specs.List.{ContainsAt as Has, list_all, list_any}
use Rattle.std.proofs.ByRecursion.{Decides-by_and}
use Rattle.std.proofs.lemmas.Bool.Decides.{Decides-at, Decides-by_or, Decides-eqb}
use Rattle.std.proofs.lemmas.Iterator.{YieldsList-from_slice}
use Rattle.std.proofs.lemmas.Iterator.Search.{all_from_yields_List}
use Rattle.store_path.proofs.names.all_in.Goals as goal

pub returns : goal.returns
returns c =
    let s = c.args.s.now in
    let alphabet = c.args.alphabet.now in
    let in_it : ℕ → Bool = λ x. list_any (λ y. y == x) alphabet in
    let e : c.all.result ≡ list_all in_it s = all_from_yields_List in_it _ _ _ c.all.ensures.ran (YieldsList-from_slice s cc) (λ x b q k. search rules) in
    Decides-at _ _ e (Decides-by_and in_it (Has alphabet) (list_all in_it) (λ x. Decides-by_or (λ y. y == x) (λ y. y ≡ x) (list_any (λ y. y == x)) (λ y. Decides-eqb y x) refl (λ y ys. refl) alphabet) refl (λ x xs. refl) s)
