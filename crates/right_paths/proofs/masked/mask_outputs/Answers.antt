use Rattle.canonical.specs.Files.{output_value}
use Rattle.hash_modulo.specs.Paths.{mask_output}
use Rattle.right_paths.proofs.Masking.{changed}
use Rattle.right_paths.proofs.masked.mask_outputs.Goals as goal

pub returns : goal.returns
returns c = λ t. changed (output_value t) mask_output (λ v w z. z.1 t) _ _ c.map.ensures.rows
