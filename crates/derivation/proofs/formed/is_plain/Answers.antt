use Rattle.std.proofs.Common.{eqb, subst}
use Rattle.std.proofs.lemmas.List.Elements.{contains_decides}
use Rattle.std.proofs.lemmas.Bool.Decides.{Decides-not, Decides-eqb}
use Rattle.derivation.specs.Questions.{Plain}
use Rattle.derivation.proofs.Meant.{plain_means}
use Rattle.derivation.proofs.formed.is_plain.Goals as goal

pub returns : goal.returns
returns c =
    let d = Decides-not c.contains.result (contains_decides eqb Decides-eqb c.args.s.now 92 c.contains.result c.contains.ensures.cases) in
    record { plain = d; means = λ cs e t. plain_means cs (subst Plain e (d.0 t)) }
