use Rattle.std.proofs.Common.{◌≡◌, List, length, None, Some, Err, Result, IfErr, refl, sym, ap, ◌∙◌, subst, rules}
use Rattle.aterm.specs.declared.file.Input.{Input}
use Rattle.aterm.specs.declared.rows.Placed.{Placed}
use Rattle.derivation.specs.Judgement.{Accepted, JudgedFile}
use Rattle.image.specs.Files.{bytes_of, files_of}
use Rattle.links.specs.Linked.{FileLinked, RowsLinked}
use Rattle.right_paths.specs.declared.hashes.Counted.{Counted}
use Rattle.verdict.specs.declared.fault.Fault.{Fault}
use Rattle.verdict.specs.declared.fault.Fault.TheVariants as fault
use Rattle.checker.specs.Rows.{row_at}
use Rattle.checker.specs.Seen.{view_in}
use Rattle.checker.specs.Settling.{LinksAsked, kind_of, faulted, ReadDecided, faulty, sure}
use Rattle.checker.specs.declared.state.Settlement.{Settlement}
use Rattle.checker.proofs.Decided.{counted, decides_at, unread_at}
use Rattle.checker.proofs.Mapped.{passed, failed}
use Rattle.checker.proofs.Reopened.{image_opens}
use Rattle.checker.proofs.checker.OpenSet.decide.Goals as goal

pub returns-in_err-read-clause-faulty : goal.returns-in_err-read-clause-faulty
returns-in_err-read-clause-faulty g c =
    let path = c.args.file.path.now in
    let text = c.args.file.text.now in
    let kind = kind_of g.S.Sink.step g.S.DigestSink.start g.S.DigestSink.capacity g.S.DigestSink.answered g.S.DigestSink.wide in
    let v = view_in c.args.self.now in
    let before = (g.S.Sink.held c.args.sink.now).meaning in
    let f = c.in_err-read.field-0.0 in
    let z = failed (JudgedFile path text) c.read_file.result c.map_err.result (λ w e. e ≡ fault.Reading w) f c.read_file.ensures c.map_err.ensures.cases c.map_err.ensures.variant c.in_err-read.was in
    let Is : Fault → Type 0 = λ e. ReadDecided kind v path text before (faulted e) 0 before in
    let is : c.from_residual.result ≡ Err f = search rules in
    subst (λ (r : Result (Counted Settlement) Fault). IfErr r Is) (sym is) (subst Is (sym z.2) (unread_at kind v path text z.0 z.1.0 before))

pub check_links-requires : goal.check_links-requires
check_links-requires g c =
    let i = c.args.self.now.files.image in
    let path = c.args.file.path.now in
    let text = c.args.file.text.now in
    let read = c.in_ok-read.read in
    let l = c.unwrap-links.result in
    let a : Accepted path text read = passed (JudgedFile path text) c.read_file.result c.map_err.result _ read c.read_file.ensures c.map_err.ensures.cases c.map_err.ensures.variant c.in_ok-read.was in
    let linked : RowsLinked (bytes_of i) (files_of i) path text l = subst (FileLinked (bytes_of i) (files_of i) path text) c.unwrap-links.ensures c.requires.linked in
    counted (bytes_of i) (files_of i) path text l read a linked ∙ sym (ap length c.as_slice.ensures)

pub returns-in_err-check_links-clause-faulty : goal.returns-in_err-check_links-clause-faulty
returns-in_err-check_links-clause-faulty g c =
    let i = c.args.self.now.files.image in
    let path = c.args.file.path.now in
    let text = c.args.file.text.now in
    let read = c.in_ok-read.read in
    let l = c.unwrap-links.result in
    let a : Accepted path text read = passed (JudgedFile path text) c.read_file.result c.map_err.result _ read c.read_file.ensures c.map_err.ensures.cases c.map_err.ensures.variant c.in_ok-read.was in
    let linked : RowsLinked (bytes_of i) (files_of i) path text l = subst (FileLinked (bytes_of i) (files_of i) path text) c.unwrap-links.ensures c.requires.linked in
    let kind = kind_of g.S.Sink.step g.S.DigestSink.start g.S.DigestSink.capacity g.S.DigestSink.answered g.S.DigestSink.wide in
    let v = view_in c.args.self.now in
    let before = (g.S.Sink.held c.args.sink.now).meaning in
    let f = c.in_err-check_links.field-0.0 in
    let asked = subst (λ (us : List (Placed Input)). LinksAsked (row_at c.args.self.now.states) l us (Some f)) c.as_slice.ensures c.in_err-check_links.ensures in
    let is : c.from_residual-in_err-check_links.result ≡ Err f = search rules in
    subst (λ (r : Result (Counted Settlement) Fault). IfErr r (λ e. ReadDecided kind v path text before (faulted e) 0 before)) (sym is)
    (decides_at kind v (image_opens i) l read path text a linked before before (faulted f) 0 (faulty f asked refl refl refl))

pub settle_hashed-requires-clause-reads : goal.settle_hashed-requires-clause-reads
settle_hashed-requires-clause-reads g c =
    passed (JudgedFile c.args.file.path.now c.args.file.text.now) c.read_file.result c.map_err.result _ c.in_ok-read.read c.read_file.ensures c.map_err.ensures.cases c.map_err.ensures.variant c.in_ok-read.was

pub returns-clause-decided : goal.returns-clause-decided
returns-clause-decided g c =
    let i = c.args.self.now.files.image in
    let path = c.args.file.path.now in
    let text = c.args.file.text.now in
    let read = c.in_ok-read.read in
    let l = c.unwrap-links.result in
    let a : Accepted path text read = passed (JudgedFile path text) c.read_file.result c.map_err.result _ read c.read_file.ensures c.map_err.ensures.cases c.map_err.ensures.variant c.in_ok-read.was in
    let linked : RowsLinked (bytes_of i) (files_of i) path text l = subst (FileLinked (bytes_of i) (files_of i) path text) c.unwrap-links.ensures c.requires.linked in
    let kind = kind_of g.S.Sink.step g.S.DigestSink.start g.S.DigestSink.capacity g.S.DigestSink.answered g.S.DigestSink.wide in
    let asked = subst (λ (us : List (Placed Input)). LinksAsked (row_at c.args.self.now.states) l us None) c.as_slice.ensures c.in_ok-check_links.ensures in
    decides_at kind (view_in c.args.self.now) (image_opens i) l read path text a linked (g.S.Sink.held c.args.sink.now).meaning (g.S.Sink.held c.settle_hashed.new.sink).meaning
    c.settle_hashed.result.value c.settle_hashed.result.count (sure asked c.settle_hashed.ensures)
