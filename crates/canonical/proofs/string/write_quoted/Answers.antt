use Rattle.std.proofs.Common.{ℕ, sym, ap, subst}
use Rattle.std.specs.Iterator.{AlwaysYields}
use Rattle.sink.proofs.Writing.{then}
use Rattle.canonical.proofs.Leading.{lead_more, lead_stop, lead_end, spelt, spelt_more, one_came, none_came}
use Rattle.canonical.proofs.string.write_quoted.Goals as goal

pub loop-b-preserved : goal.loop-b-preserved
loop-b-preserved g c = λ xs a.
    let k = c.loop-b.invariant xs a in
    let m = one_came g.I.Iterator.next_gives c.loop-b.b-iterator c.next.new.self c.in-Some.b k.0 k.1 c.in-Some.ensures.steps in
    (m.0, m.2, lead_more k.2 (spelt_more c.in-Some.b m.1) c.in_ok-write_byte.ensures)

pub returns-in_err-write_byte : goal.returns-in_err-write_byte
returns-in_err-write_byte g c = λ xs a.
    let k = c.loop-b.invariant xs (subst (λ it. AlwaysYields g.I.Iterator.next_gives (λ (b : ℕ). b) it xs) (sym c.into_iter-b-iterator.ensures.into_iter_gives) a) in
    let m = one_came g.I.Iterator.next_gives c.loop-b.b-iterator c.next.new.self c.in-Some.b k.0 k.1 c.in-Some.ensures.steps in
    then c.in_ok-write.ensures.writes (lead_stop k.2 (spelt m.0) (spelt_more c.in-Some.b m.1) c.in_err-write_byte.ensures c.from_residual-in_err-write_byte.ensures.0)

pub returns : goal.returns
returns g c = λ xs a.
    let k = c.loop-b.invariant xs (subst (λ it. AlwaysYields g.I.Iterator.next_gives (λ (b : ℕ). b) it xs) (sym c.into_iter-b-iterator.ensures.into_iter_gives) a) in
    let m = none_came g.I.Iterator.next_gives c.loop-b.b-iterator c.next.new.self k.0 k.1 c.in-None.ensures.steps in
    then c.in_ok-write.ensures.writes (lead_end k.2 (ap spelt m) c.write-2.ensures.writes)
