use Rattle.std.proofs.Common.{◌∙◌, rules}
use Rattle.sha256.proofs.Ends.{spelled_map}
use Rattle.sha256.proofs.padding.spell.Goals as goal

pub returns : goal.returns
returns c =
    c.copy_from_slice.ensures.after
    ∙ c.as_flattened.ensures.value
    ∙ spelled_map c.args.h c.map-words.result 8 (search rules) (λ p q x y called. search rules) c.map-words.ensures.items
