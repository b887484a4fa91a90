use Rattle.std.proofs.Common.{refl, ap, ◌∙◌, subst}
use Rattle.std.specs.Result.{result_ok}
use Rattle.checker.specs.Calls.{Choice}
use Rattle.checker.specs.Seen.{view_in}
use Rattle.checker.proofs.checker.OpenSet.take.Goals as goal

pub returns-clause-takes : goal.returns-clause-takes
returns-clause-takes c = (
  refl,
  λ k t. (let e = c.has_taken.ensures.1 (k, t) in let f = c.if-has_taken.false in cc),
  subst (Choice (view_in c.args.self.now)) (c.ok_or.ensures.ok_part ∙ ap result_ok c.in_ok-file.was) c.choose.ensures,
  record { opened = refl; image = refl; count = refl; here = c.put.ensures.here; others = c.put.ensures.others },
)
