use Rattle.std.proofs.Common.{rules, tests, codes, sym, ap}
use Rattle.std.proofs.lemmas.Bool.Decides.{Decides-eqb}
use Rattle.std.proofs.lemmas.Slice.Eq.{strip_prefix_is}
use Rattle.derivation.proofs.Held.{given_by}
use Rattle.derivation.proofs.rows.is_given.Goals as goal

pub returns : goal.returns
returns c =
    let a = c.args.algorithm in
    let m = strip_prefix_is Decides-eqb a.now (codes "r:") c.strip_prefix.result c.strip_prefix.ensures.cases in
    given_by a c.strip_prefix.result m c.args.hash.now c.unwrap_or-bare.result.now (ap (λ b. b.now) (sym c.unwrap_or-bare.ensures)) c.digits_of.result c.digits_of.ensures c.is_some_and.result _ c.is_some_and.ensures
    (λ n p. search (rules, tests))
