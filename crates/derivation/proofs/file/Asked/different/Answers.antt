use Rattle.std.proofs.Common.{rules, tests, ◌+◌}
use Rattle.aterm.specs.Grammar.{string}
use Rattle.aterm.specs.Files.{output, input, variable, in_output, in_input, in_variable, span}
use Rattle.derivation.specs.Asked.{Scans}
use Rattle.derivation.specs.declared.field.Field.TheVariants.{Inputs, Sources, Environment}
use Rattle.derivation.specs.Keys.{key_of}
use Rattle.derivation.specs.Questions.{different, different_input, fresh, different_variable, place_2, place_3, place_7}
use Rattle.derivation.proofs.Scan.{each_as}
use Rattle.derivation.proofs.Files.{by_lists}
use Rattle.derivation.proofs.file.Asked.different.Goals as goal

pub returns : goal.returns
returns c = λ x h.
    let t = c.args.self.now.text.now in
    let o = each_as output (in_output t) 8 x.0 c.as_slice-outputs.ensures h.0 in
    let i = each_as input (in_input t) (place_2 x + 1) x.1.0 c.as_slice-inputs.ensures h.1.0 in
    let s = each_as string (λ p v. span t v p) (place_3 x + 1) x.1.1.0 c.as_slice-sources.ensures h.1.1.0 in
    let v = each_as variable (in_variable t) (place_7 x + 1) x.1.1.1.1.1.1 c.as_slice-variables.ensures h.1.1.1.1.1.1 in
    by_lists x different tt c.spot_of_no.result c.or_else.result c.or_else-2.result c.or_else-3.result _ _ _ (c.spot_of_no.ensures 8 x.0 o)
    c.or_else.ensures (λ p. let k : Scans input (in_input t) different_input Inputs c.as_slice-inputs.result.now c.or_else.result = search (rules, tests) in k (place_2 x + 1) x.1.0 i)
    c.or_else-2.ensures (λ p. let k : Scans string (λ p v. span t v p) (fresh (key_of string)) Sources c.as_slice-sources.result.now c.or_else-2.result = search (rules, tests) in k (place_3 x + 1) x.1.1.0 s)
    c.or_else-3.ensures (λ p. let k : Scans variable (in_variable t) different_variable Environment c.as_slice-variables.result.now c.or_else-3.result = search (rules, tests) in k (place_7 x + 1) x.1.1.1.1.1.1 v)
