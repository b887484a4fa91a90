use Rattle.std.proofs.Common.{◌≡◌, [], Decides, MatchOption, ap, sym, subst, rules}
use Rattle.canonical.specs.Files.{said_in, values, output_value, derivation_value}
use Rattle.hash_modulo.specs.Hashes.{Fixed}
use Rattle.hash_modulo.specs.Sets.{Bytes}
use Rattle.right_paths.specs.Views.{said_by}
use Rattle.right_paths.specs.Worked.{FixedBy}
use Rattle.right_paths.proofs.Fixing.{first_fixes}
use Rattle.right_paths.proofs.file.fixed_output.Goals as goal

pub returns : goal.returns
returns c =
    let t = c.args.text.now in
    let first = c.in_ok-first.first.now in
    let said : said_by c.new-algorithm.result ≡ said_in t first.value.algorithm = search rules in
    let p = first_fixes (λ v. v.value) (output_value t) (derivation_value t c.args.file.now) c.as_slice.result.now first
    (sym (ap (values (output_value t)) c.as_slice.ensures)) c.in_ok-first.ensures.value c.is_blank.result c.requires
    (subst (λ (x : Bytes). Decides c.is_blank.result (x ≡ [])) said c.is_blank.ensures) in
    subst (λ r. MatchOption r (Fixed (derivation_value t c.args.file.now) → ⊥) (λ o. FixedBy (derivation_value t c.args.file.now) (output_value t o))) (sym c.then_some.ensures) p
