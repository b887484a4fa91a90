use Rattle.std.proofs.Common.{◌≡◌, ◌%◌, IfOk, subst, rules, arith}
use Rattle.std.proofs.lemmas.Iterator.{YieldsList-from_range, YieldsList-from_map, items_from_collect}
use Rattle.sha256_bench.proofs.Samples.{chain_is_sample}
use Rattle.sha256_bench.proofs.make.Goals as goal

pub returns : goal.returns
returns c =
    subst (λ bytes. IfOk c.collect.result (λ v. v.items ≡ bytes)) (chain_is_sample c.args.size)
    (items_from_collect c.collect.result c.collect.ensures.ran
    (YieldsList-from_map _ (λ i. i % 251) (YieldsList-from_range 0 c.args.size c.args.size c.map.ensures.source (omega arith)) c.map.ensures.closure (λ x r q k. search rules)))
