use Rattle.hash_modulo.proofs.Digests.{strings_stand, strings_short, digested_stand, one_right_path, some_right_path, meaning_alone}
use Rattle.hash_modulo.proofs.Within.{within_limits}
use Rattle.hash_modulo.proofs.laws.digested_strings_stand.Goals as goal

pub returns : goal.returns
returns c = record {
  file = strings_stand;
  limits = within_limits;
  short = strings_short;
  digested = digested_stand;
  paths = one_right_path;
  some = some_right_path;
  meaning = meaning_alone;
}
