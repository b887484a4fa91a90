use Rattle.std.proofs.Common.{◌≡◌, ◌<◌, length, MatchResult, refl, ap, ◌∙◌, subst, rules}
use Rattle.sha256.proofs.Sinks.{digested_standard}
use Rattle.sha256.specs.Fips.{digest}
use Rattle.test_input.proofs.TurnByTurn.{turns_keep}
use Rattle.sha256_bench.proofs.digest_again.Goals as goal

pub returns : goal.returns
returns c =
    turns_keep _ (λ f. f.1.now ≡ c.args.bytes.now) (λ r. MatchResult r (λ d. d ≡ digest c.args.bytes.now) (λ _. 16777216 < length c.args.bytes.now))
    _ _ _ _ c.repeat.ensures.1 refl
    (λ f r next h s. let k = s.met in (
      subst (λ bytes. MatchResult r (λ d. d ≡ digest bytes) (λ _. 16777216 < length bytes)) h (search (rules, digested_standard, k)),
      ap (λ b. b.now) k.1.1 ∙ h,
    ))
