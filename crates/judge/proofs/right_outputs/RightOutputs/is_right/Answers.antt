use Rattle.std.proofs.Common.{◌≡◌, length, arith, rules, tests}
use Rattle.std.proofs.lemmas.Iterator.{cases_from_any, YieldsList-from_slice, YieldsList-from_zip}
use Rattle.std.proofs.lemmas.List.{length-take}
use Rattle.aterm.specs.Tables.{rows_of}
use Rattle.canonical.specs.Files.{said_in}
use Rattle.judge.proofs.Stating.{States, told_any}
use Rattle.judge.proofs.right_outputs.RightOutputs.is_right.Goals as goal

pub returns : goal.returns
returns c =
    let r = c.args.self.now in
    let p = r.of.path.now in
    let t = r.of.text.now in
    let n = said_in t c.args.name in
    let q = said_in t c.args.stated in
    let rows = r.of.file.now.outputs in
    let vs = rows_of rows in
    let fits = rows.fits in
    let l = length-take rows.len rows.items in
    let long : length r.digits.now ≡ 16 = search rules in
    told_any p t n q vs r.digits.now (omega arith) c.any.result
    (cases_from_any c.any.new.self _ c.any.result (States p t n q) (λ z. States p t n q z → ⊥) c.any.ensures.ran (YieldsList-from_zip (YieldsList-from_slice vs (search (rules, tests))) (YieldsList-from_slice r.digits.now (search (rules, tests))))
    (λ x f k. search (rules, tests)) (λ x f k. search (rules, tests)))
