use Rattle.std.proofs.Common.{List, sym, ap, ◌∙◌, subst, arith, length, map-id}
use Rattle.std.specs.Iterator.{AlwaysYields, size}
use Rattle.std.proofs.lemmas.Iterator.{YieldsList}
use Rattle.std.proofs.lemmas.Iterator.Consumers.{YieldsList-end}
use Rattle.hash_rows.specs.Rows.{Gathered, key}
use Rattle.hash_rows.specs.Seen.{held}
use Rattle.hash_rows.specs.declared.hash.HashRow.{HashRow}
use Rattle.hash_rows.proofs.Gathering.{gathered_none, gathered_more}
use Rattle.hash_rows.proofs.table.calls.gather_from.Goals as goal

pub loop-pair-init : goal.loop-pair-init
loop-pair-init g c =
    let e = ap (λ it. size (g.I.Iterator.remaining it)) c.into_iter-pair-iterator.ensures.into_iter_gives in (
      omega (arith, ap length c.new-table.ensures, e, c.requires.few.1),
      subst (Gathered _) (sym c.new-table.ensures) (gathered_none key),
    )

pub with-table-requires : goal.with-table-requires
with-table-requires g c =
    let left = (c.in-Some.ensures.goes.on c.loop-pair.iterator.1).2 in
    omega (arith, left, c.loop-pair.invariant.0)

pub loop-pair-preserved : goal.loop-pair-preserved
loop-pair-preserved g c =
    let left = (c.in-Some.ensures.goes.on c.loop-pair.iterator.1).2 in (
      omega (arith, left, c.loop-pair.invariant.0, c.with-table.ensures.few),
      gathered_more key c.loop-pair.yielded (held c.loop-pair.table) (held c.with-table.result) c.in-Some.pair c.loop-pair.invariant.1 c.with-table.ensures.placed,
    )

pub returns : goal.returns
returns g c = λ ps gives.
    let steps = g.I.Iterator.next_gives in
    let road : YieldsList steps (λ (x : HashRow). x) c.into_iter-pair-iterator.result ps = record { runs = subst (λ it. AlwaysYields steps (λ (x : HashRow). x) it ps) (sym c.into_iter-pair-iterator.ensures.into_iter_gives) gives } in
    let whole = YieldsList-end road c.loop-pair.yielded _ c.loop-pair.yielded_by _ _ c.in-None.is c.next.ensures.steps in
    subst (λ (xs : List HashRow). Gathered xs (held c.loop-pair.table)) (sym (map-id c.loop-pair.yielded) ∙ whole.0) c.loop-pair.invariant.1
