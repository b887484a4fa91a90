use Rattle.std.proofs.Common.{◌∙◌, rules, tests}
use Rattle.std.proofs.lemmas.Iterator.Consumers.{count_from_yields_List, YieldsList-from_filter, YieldsList-at}
use Rattle.image.specs.Files.{files_of}
use Rattle.checker.specs.Rows.{row_at}
use Rattle.checker.proofs.Accepted.{is_accepted, from_range_inclusive, accepted_counted}
use Rattle.checker.proofs.checker.OpenSet.accepted.Goals as goal

pub returns : goal.returns
returns c =
    count_from_yields_List c.filter.result c.count-2.result c.count-2.ensures.ran
    (YieldsList-from_filter _ (λ k. is_accepted (row_at c.args.self.now.states k)) (YieldsList-at c.filter.ensures.source (from_range_inclusive c.new.result (files_of c.args.self.now.files.image) c.new.ensures.start (c.new.ensures.end ∙ c.count.ensures.value) c.new.ensures.exhausted)) c.filter.ensures.closure (λ x r q k. search (rules, tests)))
    ∙ accepted_counted (row_at c.args.self.now.states) (files_of c.args.self.now.files.image)
