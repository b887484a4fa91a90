use Rattle.std.proofs.Common.{Decides, subst, ◌∙◌}
use Rattle.store_path.specs.Names.{Name}
use Rattle.derivation.specs.Questions.{Plain}
use Rattle.derivation.proofs.formed.FormedNameAskSpan.says.Goals as goal

pub returns : goal.returns
returns c = λ from xs at x a h. subst (λ b. Decides c.is_plain_name.result (Plain b × Name b)) (c.bytes.ensures ∙ h.cut) c.is_plain_name.ensures
