use Rattle.std.proofs.Common.{◌≡◌, false, sym, refl, ap, ◌∙◌, subst}
use Rattle.std.specs.Ordering.{nat_cmp}
use Rattle.std.proofs.lemmas.Iterator.Consumers.{YieldsList-from_first}
use Rattle.std.proofs.lemmas.Iterator.Search.{cmp_from_yields_List}
use Rattle.aterm.specs.Meaning.{meant, meant_left}
use Rattle.canonical.specs.Decode.{said}
use Rattle.canonical.specs.Order.{Compared}
use Rattle.canonical.proofs.Orders.{compared}
use Rattle.canonical.proofs.string.compare.Goals as goal

pub returns : goal.returns
returns c =
    let first = said c.args.text.now c.args.a.start c.args.a.«end» in
    let second = said c.args.text.now c.args.b.start c.args.b.«end» in
    let found = cmp_from_yields_List (λ x y. y ≡ x) _ nat_cmp _ c.cmp.ensures.ran
    (YieldsList-from_first (λ x. x) meant_left first (ap (meant false) c.meant.ensures))
    (λ it e. YieldsList-from_first (λ x. x) meant_left second (ap meant_left e ∙ ap (meant false) c.meant-2.ensures))
    (λ x y. refl) in
    subst (Compared first second) (sym found) (compared first second)
