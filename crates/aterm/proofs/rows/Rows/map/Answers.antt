use Rattle.std.proofs.Common.{◌≡◌, sym, ap, subst, rules}
use Rattle.aterm.proofs.Changing.{one_changed}
use Rattle.aterm.proofs.rows.Rows.map.Given as given
use Rattle.aterm.proofs.rows.Rows.map.Goals as goal

pub loop-i-preserved : goal.loop-i-preserved
loop-i-preserved g c =
    let is = c.index-items-i.is in
    let value = c.change-value.result in
    one_changed (λ v w. (w.place ≡ v.place) × given.F-post g c.args.change v.value w.value) c.args.self.items c.loop-i.items c.loop-i.i c.index-items-i.result _ (search rules) (search rules) c.loop-i.invariant.0 is c.loop-i.invariant.1
    (ap (λ r. r.place) (sym is), subst (λ r. given.F-post g c.args.change r.value value) (sym is) c.change-value.ensures)
