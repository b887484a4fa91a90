use Rattle.std.proofs.Common.{rules, tests}
use Rattle.std.proofs.lemmas.Bool.Decides.{Decides-eqb}
use Rattle.std.proofs.lemmas.Slice.Eq.{slice_eq-Decides}
use Rattle.judge.proofs.Owning.{own_taken}
use Rattle.judge.proofs.paths.is_own.Goals as goal

pub returns : goal.returns
returns c =
    own_taken c.args.path.now c.args.own.now.bytes c.take_apart.result c.is_some_and.result c.requires c.take_apart.ensures c.is_some_and.ensures
    (λ p q. slice_eq-Decides Decides-eqb p.digits.now c.args.own.now.bytes c.is_some_and.result (search (rules, tests)))
