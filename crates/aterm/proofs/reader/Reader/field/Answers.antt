use Rattle.std.proofs.lemmas.Result.{err_from_is_err_and}
use Rattle.aterm.proofs.Parts.{field_open, field_body, field_close, field_done}
use Rattle.aterm.proofs.Reading.{within_text}
use Rattle.aterm.proofs.reader.Reader.field.Goals as goal

pub returns-in_err-expect : goal.returns-in_err-expect
returns-in_err-expect g c = λ t e.
    let p = err_from_is_err_and c.from_residual.result c.from_residual.ensures.1 in
    let h = within_text _ t _ e c.args.self.now.inside in
    let o = c.in_err-expect.ensures t e in
    (o.0, rw (p.1, p.2) (field_open g.T.Shaped.shape c.args.closing t c.args.self.now.at h c.open.result c.open.ensures c.in_err-expect.field-0.0 o.1.0))

pub returns-in_err-value : goal.returns-in_err-value
returns-in_err-value g c = λ t e.
    let p = err_from_is_err_and c.from_residual-in_err-value.result c.from_residual-in_err-value.ensures.1 in
    let h = within_text _ t _ e c.args.self.now.inside in
    let o = c.in_ok-expect.ensures t e in
    let v = c.in_err-value.ensures t o.0 in
    (v.0, rw (p.1, p.2) (field_body g.T.Shaped.shape c.args.closing t c.args.self.now.at h c.open.result c.open.ensures c.expect.new.self.at o.1.0 c.in_err-value.field-0.0 v.1))

pub returns-in_err-expect-2 : goal.returns-in_err-expect-2
returns-in_err-expect-2 g c = λ t e.
    let p = err_from_is_err_and c.from_residual-in_err-expect-2.result c.from_residual-in_err-expect-2.ensures.1 in
    let h = within_text _ t _ e c.args.self.now.inside in
    let o = c.in_ok-expect.ensures t e in
    let v = c.in_ok-value.ensures t o.0 in
    let k = c.in_err-expect-2.ensures t v.0 in
    (k.0, rw (p.1, p.2) (field_close g.T.Shaped.shape c.args.closing t c.args.self.now.at h c.open.result c.open.ensures (λ q. g.T.Shaped.holds t q c.in_ok-value.value) c.expect.new.self.at o.1.0 c.rest.new.reader.at v.1 c.in_err-expect-2.field-0.0 k.1.0))

pub returns : goal.returns
returns g c = λ t e.
    let h = within_text _ t _ e c.args.self.now.inside in
    let o = c.in_ok-expect.ensures t e in
    let v = c.in_ok-value.ensures t o.0 in
    let k = c.in_ok-expect-2.ensures t v.0 in
    (k.0, field_done g.T.Shaped.shape c.args.closing t c.args.self.now.at h c.open.result c.open.ensures (λ q. g.T.Shaped.holds t q c.in_ok-value.value) c.expect.new.self.at o.1.0 c.rest.new.reader.at v.1 c.expect-2.new.self.at k.1.0)
