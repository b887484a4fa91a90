use Rattle.std.proofs.Common.{subst}
use Rattle.canonical.specs.Files.{output_value}
use Rattle.derivation.specs.Questions.{output_name}
use Rattle.right_paths.specs.Views.{said_by}
use Rattle.right_paths.specs.Worked.{full_store_path}
use Rattle.right_paths.specs.declared.said.Said.{Said}
use Rattle.checker.specs.Calls.{Put}
use Rattle.checker.proofs.checker.OpenSet.write_output_path.Goals as goal

pub returns-clause-put : goal.returns-clause-put
returns-clause-put g c =
    let of = c.args.of in
    let p = of.path.now in
    let digits = c.output_digits-digits.result.bytes in
    let o = output_value of.text.now c.args.output in (
      full_store_path digits (output_name p o.0),
      c.output_digits-digits.ensures,
      subst (λ (x : Said). Put (full_store_path digits (output_name p (said_by x))) c.args.out.now c.put_path.result c.put_path.new.out) c.said.ensures c.put_path.ensures,
    )
