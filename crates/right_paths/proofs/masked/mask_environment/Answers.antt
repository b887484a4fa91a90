use Rattle.std.proofs.Common.{rules, tests}
use Rattle.canonical.specs.Files.{values, output_value, variable_value}
use Rattle.hash_modulo.specs.Paths.{mask_variable}
use Rattle.right_paths.proofs.Masking.{changed}
use Rattle.right_paths.proofs.masked.mask_environment.Goals as goal

pub returns : goal.returns
returns c =
    let t = c.args.text.now in
    changed (variable_value t) (mask_variable (values (output_value t) c.args.outputs.now)) (λ v w z. search (rules, tests)) _ _ c.map.ensures.rows
