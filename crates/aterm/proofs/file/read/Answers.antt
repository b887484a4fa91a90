use Rattle.std.proofs.lemmas.Result.{err_from_is_err_and}
use Rattle.aterm.specs.declared.fault.Cause.TheVariants.{Byte}
use Rattle.aterm.specs.declared.fault.Fault.{Fault}
use Rattle.aterm.specs.Files.{whole}
use Rattle.aterm.proofs.Whole.{word_stops, body_stops, end_stops, reads, none_if_read, one_fault}
use Rattle.aterm.proofs.file.read.Goals as goal

pub returns-in_err-reader : goal.returns-in_err-reader
returns-in_err-reader c =
    let p = err_from_is_err_and c.from_residual.result c.from_residual.ensures.1 in
    let st = word_stops c.in_err-reader.ensures.word in
    rw (p.1, p.2) (st, λ g. one_fault c.args.text.now c.in_err-reader.field-0.0 g st)

pub returns-in_err-file : goal.returns-in_err-file
returns-in_err-file c =
    let p = err_from_is_err_and c.from_residual-in_err-file.result c.from_residual-in_err-file.ensures.1 in
    let t = c.args.text.now in
    let passed = c.in_ok-reader.ensures.word in
    let r = c.in_err-file.ensures t c.in_ok-reader.ensures.text in
    let st = body_stops t c.in_ok-reader.reader.at passed.0 passed.1 r.1 in
    rw (p.1, p.2) (st, λ g. one_fault t c.in_err-file.field-0.0 g st)

pub returns-then-reader-text : goal.returns-then-reader-text
returns-then-reader-text c =
    let t = c.args.text.now in
    let passed = c.in_ok-reader.ensures.word in
    let r = c.in_ok-file.ensures t c.in_ok-reader.ensures.text in
    let f : Fault = record { place = c.rest.new.reader.at; cause = Byte } in
    let st = end_stops t c.in_ok-reader.reader.at passed.0 passed.1 c.rest.new.reader.at r.1 c.if-reader-text.true in
    (st, λ g. one_fault t f g st)

pub returns : goal.returns
returns c =
    let t = c.args.text.now in
    let passed = c.in_ok-reader.ensures.word in
    let r = c.in_ok-file.ensures t c.in_ok-reader.ensures.text in
    let read = reads t c.in_ok-reader.reader.at passed.0 passed.1 c.in_ok-file.file c.rest.new.reader.at r.1 c.if-reader-text.false in
    (read, λ g. none_if_read {W = whole} read.tree read.written)
