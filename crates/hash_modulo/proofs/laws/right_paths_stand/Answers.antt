use Rattle.hash_modulo.proofs.Paths.{own_paths, output_paths}
use Rattle.hash_modulo.proofs.laws.right_paths_stand.Goals as goal

pub returns : goal.returns
returns c = record { own = own_paths; outputs = output_paths }
