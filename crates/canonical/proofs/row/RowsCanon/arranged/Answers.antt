use Rattle.std.proofs.Common.{◌≡◌, ℕ, List, ◌++◌, map, length, take, drop, sym, subst, arith, rules}
use Rattle.std.proofs.Math.Seq.{take-append_seam}
use Rattle.aterm.specs.declared.rows.Placed.{Placed}
use Rattle.canonical.specs.Kinds.{rising, Value, Arranges}
use Rattle.canonical.proofs.row.RowsCanon.arranged.Goals as goal

pub returns : goal.returns
returns g c =
    let k = g.T.Canon.kind in
    let value : Placed g.row.T.Denot → Value k = λ v. g.T.Canon.value c.args.text.now v.value in
    let self = c.args.self in
    let rows = c.arrange.new.rows in
    let after = drop self.len self.items in
    let many : length rows ≡ self.len = search (rules, arith) in
    let front : take self.len (rows ++ after) ≡ rows =
    subst (λ (n : ℕ). take n (rows ++ after) ≡ rows) many (take-append_seam rows after) in
    subst (λ (l : List (Placed g.row.T.Denot)). Arranges (rising g.row.N k) (map value (take self.len self.items)) (map value l)) (sym front) (c.arrange.ensures g.row.N)
