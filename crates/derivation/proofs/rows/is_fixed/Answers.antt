use Rattle.std.proofs.Common.{rules, tests}
use Rattle.std.proofs.lemmas.Bool.{false≢true}
use Rattle.aterm.specs.Files.{in_output}
use Rattle.derivation.proofs.Held.{fixed_only, not_fixed}
use Rattle.derivation.proofs.rows.is_fixed.Goals as goal

pub returns-in-len1 : goal.returns-in-len1
returns-in-len1 c = λ from xs a. fixed_only (in_output c.args.text.now) from c.args.outputs.now xs c.in-len1.len_below c.in-len1.len_at_least a _ (λ p e. search (rules, tests)) c.is_hashed.result c.is_hashed.ensures

pub returns-in_default-2 : goal.returns-in_default-2
returns-in_default-2 c = λ from xs a. (λ t. absurd (false≢true t), λ f. absurd (not_fixed (in_output c.args.text.now) from c.args.outputs.now xs c.in_default.len_at_least a f))
