use Rattle.links.proofs.Files.{set_finite, set_has, set_only, one_number, paths_named, same_pairs}
use Rattle.links.proofs.laws.sets_stand.Goals as goal

pub returns : goal.returns
returns c = record {
  finite = set_finite;
  has = set_has;
  only = set_only;
  numbers = one_number;
  named = paths_named;
  pairs = same_pairs;
}
