use Rattle.std.proofs.Common.{◌+◌, Option, sym, ◌∙◌, subst}
use Rattle.links.specs.declared.link.Links.{Links}
use Rattle.checker.specs.Ways.{NamedIn, RowSays}
use Rattle.checker.proofs.checker.OpenSet.named_by.Goals as goal

pub returns-in-Some : goal.returns-in-Some
returns-in-Some c = record {
  says = λ from to.
      subst (λ (l : Option Links). RowSays c.named.result (λ b. NamedIn l (b + 1))) (sym c.in-Some.is ∙ c.get.ensures.within from to) c.named.ensures;
}

pub returns-in-None : goal.returns-in-None
returns-in-None c = record {
  says = λ from to.
      subst (λ (l : Option Links). RowSays c.unnamed.result (λ b. NamedIn l (b + 1))) (sym c.in-None.is ∙ c.get.ensures.within from to) c.unnamed.ensures;
}
