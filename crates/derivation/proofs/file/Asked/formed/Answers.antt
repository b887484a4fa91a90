use Rattle.std.proofs.Common.{rules, tests, ◌+◌}
use Rattle.aterm.specs.Grammar.{string}
use Rattle.aterm.specs.Files.{output, input, in_output, in_input, span}
use Rattle.derivation.specs.Asked.{Scans}
use Rattle.derivation.specs.declared.field.Field.TheVariants.{Inputs, Sources}
use Rattle.derivation.specs.Questions.{formed, formed_input, formed_source, place_2, place_3}
use Rattle.derivation.proofs.Scan.{each_as}
use Rattle.derivation.proofs.Files.{by_files}
use Rattle.derivation.proofs.file.Asked.formed.Goals as goal

pub returns : goal.returns
returns c = λ x h.
    let t = c.args.self.now.text.now in
    let o = each_as output (in_output t) 8 x.0 c.as_slice-outputs.ensures h.0 in
    let i = each_as input (in_input t) (place_2 x + 1) x.1.0 c.as_slice-inputs.ensures h.1.0 in
    let s = each_as string (λ p v. span t v p) (place_3 x + 1) x.1.1.0 c.as_slice-sources.ensures h.1.1.0 in
    by_files x formed tt (λ e. tt) c.spot_of_no.result c.or_else.result c.or_else-2.result _ _ (c.spot_of_no.ensures 8 x.0 o)
    c.or_else.ensures (λ p. let k : Scans input (in_input t) formed_input Inputs c.as_slice-inputs.result.now c.or_else.result = search (rules, tests) in k (place_2 x + 1) x.1.0 i)
    c.or_else-2.ensures (λ p. let k : Scans string (λ p v. span t v p) formed_source Sources c.as_slice-sources.result.now c.or_else-2.result = search (rules, tests) in k (place_3 x + 1) x.1.1.0 s)
