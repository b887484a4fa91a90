use Rattle.std.proofs.Common.{◌<◌, refl, arith}
use Rattle.std.proofs.lemmas.Result.{err_from_is_err_and}
use Rattle.aterm.specs.Reads.{came}
use Rattle.aterm.proofs.Lists.{row_open, row_full, row_rest, row_room}
use Rattle.aterm.proofs.Reading.{within_text, came_ok}
use Rattle.aterm.proofs.reader.Reader.row.Goals as goal

pub returns-in_err-expect-clause-row : goal.returns-in_err-expect-clause-row
returns-in_err-expect-clause-row g c = λ t e.
    let p = err_from_is_err_and c.from_residual.result c.from_residual.ensures.1 in
    let h = within_text _ t _ e c.args.self.now.inside in
    let o = c.in_err-expect.ensures t e in
    (o.0, rw (p.1, p.2) (row_open g.T.Shaped.shape t c.args.self.now.at h c.open.result c.open.ensures c.args.room c.in_err-expect.field-0.0 o.1.0))

pub returns-then-room-eq0-clause-row : goal.returns-then-room-eq0-clause-row
returns-then-room-eq0-clause-row g c = λ t e.
    let h = within_text _ t _ e c.args.self.now.inside in
    let o = c.in_ok-expect.ensures t e in
    (o.0, row_full g.T.Shaped.shape t c.args.self.now.at h c.open.result c.open.ensures c.args.room c.if-room-eq0.true c.expect.new.self.at o.1.0)

pub returns-clause-row : goal.returns-clause-row
returns-clause-row g c = λ t e.
    let h = within_text _ t _ e c.args.self.now.inside in
    let o = c.in_ok-expect.ensures t e in
    let v = c.rest.ensures t o.0 in
    (v.0, row_rest g.T.Shaped.shape t c.args.self.now.at h c.open.result c.open.ensures c.args.room (omega arith) c.expect.new.self.at o.1.0 (g.T.Shaped.holds t) (came c.rest.result c.rest.new.reader.at) v.1)

pub returns-clause-room : goal.returns-clause-room
returns-clause-room g c =
    let t = c.args.self.now.text.now in
    let o = c.in_ok-expect.ensures t refl in
    let v = c.rest.ensures t o.0 in
    came_ok c.rest.result c.rest.new.reader.at (λ n. (0 < c.args.room) × (c.args.self.now.at < n))
    (row_room g.T.Shaped.shape t c.args.self.now.at c.args.self.now.inside c.open.result c.open.ensures c.args.room (omega arith) c.expect.new.self.at o.1.0 (g.T.Shaped.holds t) (came c.rest.result c.rest.new.reader.at) v.1)
