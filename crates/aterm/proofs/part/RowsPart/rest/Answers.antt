use Rattle.std.proofs.Common.{◌≡◌, ◌+◌, ◌-◌, length, take, drop, Ok, Err, sym, ap, ◌∙◌, refl, subst, inl, inr, arith}
use Rattle.std.proofs.lemmas.Result.{err_from_is_err_and}
use Rattle.aterm.specs.declared.reader.Reader.{Reader}
use Rattle.aterm.specs.Grammar.{signs, list, write}
use Rattle.aterm.specs.Reads.{Stops, Written, Next, Each, written_row}
use Rattle.aterm.specs.Tables.{rows_of}
use Rattle.aterm.proofs.Lists.{Begins, begins_from, Partly, partly_none, partly_closed, partly_comma, partly_stops, partly_more}
use Rattle.aterm.proofs.part.RowsPart.rest.Given as given
use Rattle.aterm.proofs.part.RowsPart.rest.Goals as goal
use Rattle.aterm.proofs.part.RowsPart.rest.Goals.{After-row, then-len-gt0+in_ok-expect, else-len-gt0}

-- where the next row begins: after a comma where a row stands before it, else where the reader stands
row_begins : (g : given.Over) (c : After-row g) → (c.if-len-gt0.reader.text.now ≡ c.args.reader.now.text.now) × Begins c.args.reader.now.text.now c.loop-rows.rows.len c.loop-rows.reader.at c.if-len-gt0.reader.at
row_begins g c =
    let u = c.args.reader.now.text.now in
    let to = c.loop-rows.reader.at in
    let o = c.in_default.ensures u c.loop-rows.invariant.0 in
    let Begun : Reader → Type 0 = λ r. (r.text.now ≡ u) × Begins u c.loop-rows.rows.len to r.at in
    elim c.if-len-gt0.branch [
      | then-len-gt0+in_ok-expect w ↦
          let k = w.in_ok-expect.ensures u o.0 in
          subst Begun (sym w.reader-is) (k.0, inr (omega (arith, c.len.ensures, w.if-len-gt0.true), subst (λ n. Next 44 u n (Ok w.expect-then-len-gt0.new.self.at)) o.1.1 k.1.0))
      | else-len-gt0 w ↦ subst Begun (sym w.reader-is) (o.0, inl (omega (arith, c.len.ensures, w.if-len-gt0.false), o.1.1))
    ]

pub loop-rows-init : goal.loop-rows-init
loop-rows-init g c =
    let t = c.args.reader.now.text.now in
    let none = c.default-rows.result in
    (refl, partly_none g.T.Shaped.shape g.row.N (g.T.Shaped.holds t) t c.args.reader.now.at (rows_of none) none.len c.default-rows.ensures (ap (λ k. take k none.items) c.default-rows.ensures))

pub returns-in-Ok : goal.returns-in-Ok
returns-in-Ok g c = λ t e.
    let s = g.T.Shaped.shape in
    let u = c.args.reader.now.text.now in
    let at = c.args.reader.now.at in
    let i = c.loop-rows.invariant in
    let next = c.expect.new.self.at in
    let o = c.in-Ok.ensures u i.0 in (
      o.0 ∙ e,
      subst (λ l. Written (write (list g.row.N s)) (Each s (g.T.Shaped.holds l) at (rows_of c.loop-rows.rows)) l at next) e
          (partly_closed s g.row.N c.args.reader.now.inside i.1 next o.1.0),
    )

pub returns-in_err-expect : goal.returns-in_err-expect
returns-in_err-expect g c = λ t e.
    let p = err_from_is_err_and c.from_residual.result c.from_residual.ensures.1 in
    let s = g.T.Shaped.shape in
    let u = c.args.reader.now.text.now in
    let at = c.args.reader.now.at in
    let i = c.loop-rows.invariant in
    let f = c.in_err-expect.field-0.0 in
    let o = c.in_default.ensures u i.0 in
    let k = c.in_err-expect.ensures u o.0 in
    let comma = subst (λ n. Next 44 u n (Err f)) o.1.1 k.1.0 in (
      k.0 ∙ e,
      rw (p.1, p.2) (subst (λ l. Stops (write (list g.row.N s)) (drop at (signs l)) at f.place f.cause) e
          (partly_comma s g.row.N c.args.reader.now.inside i.1 (omega (arith, c.len.ensures, c.if-len-gt0.true)) c.in_default.field-0 f o.1.0 comma)),
    )

pub returns-in_err-value : goal.returns-in_err-value
returns-in_err-value g c = λ t e.
    let p = err_from_is_err_and c.from_residual-in_err-value.result c.from_residual-in_err-value.ensures.1 in
    let s = g.T.Shaped.shape in
    let u = c.args.reader.now.text.now in
    let at = c.args.reader.now.at in
    let i = c.loop-rows.invariant in
    let f = c.in_err-value.field-0.0 in
    let o = c.in_default.ensures u i.0 in
    let b = row_begins g (goal.at.returns-in_err-value g c).After-row in
    let r = c.in_err-value.ensures.row u b.0 in
    let begun = c.if-len-gt0.reader.at in
    let stop = subst (λ n. Stops (written_row s (g.row.N - n)) (drop begun (signs u)) begun f.place f.cause) c.len-in-loop-rows.ensures r.1 in (
      r.0 ∙ e,
      rw (p.1, p.2) (subst (λ l. Stops (write (list g.row.N s)) (drop at (signs l)) at f.place f.cause) e
          (partly_stops s g.row.N c.args.reader.now.inside i.1 begun b.1 c.in_default.field-0 o.1.0 f stop)),
    )

pub loop-rows-smaller : goal.loop-rows-smaller
loop-rows-smaller g c =
    let u = c.args.reader.now.text.now in
    let to = c.loop-rows.reader.at in
    let i = c.loop-rows.invariant in
    let b = row_begins g (goal.at.loop-rows-smaller g c).After-row in
    let r = c.in_ok-value.ensures.row u b.0 in
    omega (arith, ap length i.0, ap length r.0, begins_from u c.loop-rows.rows.len to c.if-len-gt0.reader.at b.1, c.in_ok-value.ensures.room.1, c.row.new.self.inside)

pub loop-rows-preserved : goal.loop-rows-preserved
loop-rows-preserved g c =
    let s = g.T.Shaped.shape in
    let u = c.args.reader.now.text.now in
    let at = c.args.reader.now.at in
    let i = c.loop-rows.invariant in
    let more = c.push.new.self in
    let v = c.in_ok-value.value in
    let begun = c.if-len-gt0.reader.at in
    let after = c.row.new.self.at in
    let o = c.in_default.ensures u i.0 in
    let b = row_begins g (goal.at.loop-rows-preserved g c).After-row in
    let r = c.in_ok-value.ensures.row u b.0 in
    let wr = subst (λ n. Written (written_row s (g.row.N - n)) (g.T.Shaped.holds u (begun + 1) v) u begun after) c.len-in-loop-rows.ensures r.1 in (
      r.0,
      subst (λ n. Partly s g.row.N (g.T.Shaped.holds u) u at (rows_of more) n after) (sym c.push.ensures.len)
          (partly_more s g.row.N c.args.reader.now.inside i.1 begun b.1 v after wr (rows_of more) c.push.ensures.items),
    )
