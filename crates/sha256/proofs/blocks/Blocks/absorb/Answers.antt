use Rattle.std.proofs.Common.{◌-◌, ◌++◌, ◌∙◌, take-append-drop}
use Rattle.sha256.proofs.Steps.{takes_then}
use Rattle.sha256.proofs.blocks.Blocks.absorb.Goals as goal

pub returns-in-Some : goal.returns-in-Some
returns-in-Some c =
    let cut = c.in-Some.ensures.cases in
    takes_then ((λ i. cut.1 i ++ cut.2 i) ∙ take-append-drop (64 - c.args.self.now.filled) c.args.bytes.now) c.close.ensures c.bulk.ensures
