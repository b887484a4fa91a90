use Rattle.std.proofs.lemmas.Result.{err_from_is_err_and}
use Rattle.derivation.specs.declared.question.Question.TheVariants.{Present, Formed, Different, Fixed, Short}
use Rattle.derivation.proofs.Judging.{text_refused, below_13, below_14, below_15, below_16, below_17, every_question, by_refusal, accepted}
use Rattle.derivation.proofs.file.read_file.Goals as goal

pub returns-in_err-file : goal.returns-in_err-file
returns-in_err-file c =
    let p = err_from_is_err_and c.from_residual.result c.from_residual.ensures.1 in
    let e = c.in_err-file.ensures in
    rw (p.1, p.2) (text_refused c.args.path.now c.args.text.now c.in_err-file.field-0.0 e.0 e.1)

pub returns-in_err-put : goal.returns-in_err-put
returns-in_err-put c =
    let p = err_from_is_err_and c.from_residual-in_err-put.result c.from_residual-in_err-put.ensures.1 in
    let e = c.in_ok-file.ensures in
    rw (p.1, p.2) (by_refusal _ _ c.in_ok-file.file e.0 e.1 Present c.in_err-put.field-0.0 c.in_err-put.ensures (below_13 _))

pub returns-in_err-put-2 : goal.returns-in_err-put-2
returns-in_err-put-2 c =
    let p = err_from_is_err_and c.from_residual-in_err-put-2.result c.from_residual-in_err-put-2.ensures.1 in
    let e = c.in_ok-file.ensures in
    rw (p.1, p.2) (by_refusal _ _ c.in_ok-file.file e.0 e.1 Formed c.in_err-put-2.field-0.0 c.in_err-put-2.ensures (below_14 _ c.in_ok-put.ensures))

pub returns-in_err-put-3 : goal.returns-in_err-put-3
returns-in_err-put-3 c =
    let p = err_from_is_err_and c.from_residual-in_err-put-3.result c.from_residual-in_err-put-3.ensures.1 in
    let e = c.in_ok-file.ensures in
    rw (p.1, p.2) (by_refusal _ _ c.in_ok-file.file e.0 e.1 Different c.in_err-put-3.field-0.0 c.in_err-put-3.ensures (below_15 _ c.in_ok-put.ensures c.in_ok-put-2.ensures))

pub returns-in_err-put-4 : goal.returns-in_err-put-4
returns-in_err-put-4 c =
    let p = err_from_is_err_and c.from_residual-in_err-put-4.result c.from_residual-in_err-put-4.ensures.1 in
    let e = c.in_ok-file.ensures in
    rw (p.1, p.2) (by_refusal _ _ c.in_ok-file.file e.0 e.1 Fixed c.in_err-put-4.field-0.0 c.in_err-put-4.ensures (below_16 _ c.in_ok-put.ensures c.in_ok-put-2.ensures c.in_ok-put-3.ensures))

pub returns-in_err-put-5 : goal.returns-in_err-put-5
returns-in_err-put-5 c =
    let p = err_from_is_err_and c.from_residual-in_err-put-5.result c.from_residual-in_err-put-5.ensures.1 in
    let e = c.in_ok-file.ensures in
    rw (p.1, p.2) (by_refusal _ _ c.in_ok-file.file e.0 e.1 Short c.in_err-put-5.field-0.0 c.in_err-put-5.ensures (below_17 _ c.in_ok-put.ensures c.in_ok-put-2.ensures c.in_ok-put-3.ensures c.in_ok-put-4.ensures))

pub returns : goal.returns
returns c =
    let e = c.in_ok-file.ensures in
    accepted _ _ c.in_ok-file.file e.0 e.1 (every_question _ c.in_ok-put.ensures c.in_ok-put-2.ensures c.in_ok-put-3.ensures c.in_ok-put-4.ensures c.in_ok-put-5.ensures)
