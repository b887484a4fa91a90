use Rattle.std.proofs.Common.{sym, ap, subst}
use Rattle.canonical.specs.Kinds.{Means}
use Rattle.canonical.specs.Meanings.{a_derivation, Meaning, canonical}
use Rattle.canonical.proofs.Unique.{means_once}
use Rattle.canonical.proofs.Alone.{canonical_alone}
use Rattle.canonical.proofs.laws.canonical_is_injective.Goals as goal

pub returns : goal.returns
returns c = record {
  injective = canonical_alone;
  agree = λ t u m n p q. (
    λ h. ap canonical (means_once a_derivation u m n h q),
    λ e. subst (λ (x : Meaning). Means a_derivation u x) (sym (canonical_alone m n e)) q,
  );
}
