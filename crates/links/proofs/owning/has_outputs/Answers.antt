use Rattle.std.proofs.Common.{[], true, false, refl, sym, subst, rules, tests}
use Rattle.std.proofs.lemmas.Bool.Decides.{not_from_Decides}
use Rattle.std.proofs.lemmas.Iterator.{cases_from_all, YieldsList-from_slice}
use Rattle.aterm.specs.Files.{span}
use Rattle.aterm.specs.Meaning.{cut}
use Rattle.aterm.specs.Grammar.{string, raw}
use Rattle.links.specs.Owners.{OwnsOutput, NameOwned}
use Rattle.links.proofs.Turns.{Yes, No, decides_all}
use Rattle.links.proofs.owning.has_outputs.Goals as goal

pub returns : goal.returns
returns c = λ os ns o n.
    let text = c.args.text.now in
    let r = cases_from_all c.all.new.self _ c.all.result (Yes string (λ p v. span text v p) (λ k. OwnsOutput os (raw k))) (No string (λ p v. span text v p) (λ k. OwnsOutput os (raw k))) c.all.ensures.ran (YieldsList-from_slice c.args.names.now c.iter.ensures.rest)
    (λ x q k. (search (rules, tests), λ at t h. let d : NameOwned c.args.owner.now c.args.outputs.now (cut text x.now.value.start x.now.value.«end») true = search rules in subst (OwnsOutput os) h.cut ((d.right os o).0 refl)))
    (λ x q k at t h owns. let d : NameOwned c.args.owner.now c.args.outputs.now (cut text x.now.value.start x.now.value.«end») false = search rules in not_from_Decides false (d.right os o) refl (subst (OwnsOutput os) (sym h.cut) owns)) in
    decides_all string (λ p v. span text v p) (λ k. OwnsOutput os (raw k)) n.0 c.args.names.now ns n.1 [] c.all.result r
