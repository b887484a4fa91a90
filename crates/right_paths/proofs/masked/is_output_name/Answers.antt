use Rattle.std.proofs.Common.{◌≡◌, rules, tests}
use Rattle.std.proofs.lemmas.Iterator.{cases_from_any, YieldsList-from_slice}
use Rattle.canonical.specs.Files.{said_in, output_value}
use Rattle.right_paths.specs.Views.{said_by}
use Rattle.right_paths.proofs.Masking.{named_any}
use Rattle.right_paths.proofs.masked.is_output_name.Goals as goal

pub returns : goal.returns
returns c =
    let t = c.args.name.text.now in
    let n = said_by c.args.name in
    named_any (λ v. output_value t v.value) n c.args.outputs.now c.any.result
    (cases_from_any _ _ c.any.result (λ v. said_in t v.value.name ≡ n) (λ v. said_in t v.value.name ≡ n → ⊥) c.any.ensures.ran (YieldsList-from_slice c.args.outputs.now cc)
    (λ x q k. search (rules, tests))
    (λ x q k. search (rules, tests)))
