use Rattle.std.proofs.Common.{◌≡◌, ap, ◌∙◌}
use Rattle.std.specs.Iterator.Adapters.{copied_source}
use Rattle.std.specs.Slice.Iter.{iter_rest}
use Rattle.std.proofs.lemmas.Iterator.{YieldsList-from_slice}
use Rattle.std.proofs.lemmas.Iterator.Consumers.{YieldsList-from_first, YieldsList-from_copied}
use Rattle.aterm.specs.Meaning.{meant_left}
use Rattle.aterm.proofs.Runs.{eq_decides}
use Rattle.right_paths.specs.Views.{said_by}
use Rattle.right_paths.proofs.Sayings.{meant_said}
use Rattle.right_paths.proofs.said.Said.says.Goals as goal

pub returns : goal.returns
returns c =
    let word = c.args.word.now in
    let mine = said_by c.args.self in
    let left : (it : _) → it ≡ c.copied.result → iter_rest (copied_source it) ≡ word =
    λ it e. ap (λ s. iter_rest (copied_source s)) e ∙ ap iter_rest c.copied.ensures.source ∙ c.iter.ensures.rest in
    eq_decides _ (λ s t. t ≡ s) _ c.meant.result c.copied.result mine word
    (YieldsList-from_first (λ x. x) meant_left mine (meant_said c.args.self _ c.meant.ensures))
    (λ it e. YieldsList-from_copied (YieldsList-from_slice word (left it e)))
    c.eq.result c.eq.ensures.ran
