use Rattle.hash_modulo.proofs.Choosing.{decided, some_input_without, local}
use Rattle.hash_modulo.proofs.Founding.{in_own_terms}
use Rattle.hash_modulo.proofs.Greatest.{greatest_stands}
use Rattle.hash_modulo.proofs.Hashes.{one_hash_each, hashable_has_hash, cycles_have_none}
use Rattle.hash_modulo.proofs.laws.definition_stands.Goals as goal

pub returns : goal.returns
returns c = record {
  one = one_hash_each;
  greatest = greatest_stands;
  has = hashable_has_hash;
  cycles = cycles_have_none;
  founded = in_own_terms;
  decided = decided;
  without = some_input_without;
  local = local;
}
