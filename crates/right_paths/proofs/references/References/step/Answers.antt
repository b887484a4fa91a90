-- Which of the two first paths comes first goes by their order.
use Rattle.std.proofs.Common.{◌∷◌, sym, ap, ◌∙◌}
use Rattle.canonical.specs.Files.{said_in}
use Rattle.right_paths.proofs.Merging.{input_first, both_first, source_first}
use Rattle.right_paths.proofs.references.References.step.Goals as goal

pub returns-in-Less : goal.returns-in-Less
returns-in-Less c =
    let t = c.args.self.text.now in
    let x = c.in-Some-Some in
    input_first t x.input.now x.source.now x.ensures.cases.0 x.ensures'.cases.0 c.in-Less.ensures ∙ ap (λ r. said_in t x.input.now.value.path ∷ r) (sym c.left-in-Less.ensures)

pub returns-in-Equal : goal.returns-in-Equal
returns-in-Equal c =
    let t = c.args.self.text.now in
    let x = c.in-Some-Some in
    both_first t x.input.now x.source.now x.ensures.cases.0 x.ensures'.cases.0 c.in-Equal.ensures ∙ ap (λ r. said_in t x.input.now.value.path ∷ r) (sym c.left-in-Equal.ensures)

pub returns-in-Greater : goal.returns-in-Greater
returns-in-Greater c =
    let t = c.args.self.text.now in
    let x = c.in-Some-Some in
    source_first t x.input.now x.source.now x.ensures.cases.0 x.ensures'.cases.0 c.in-Greater.ensures ∙ ap (λ r. said_in t x.source.now.value ∷ r) (sym c.left-in-Greater.ensures)
