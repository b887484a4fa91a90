use Rattle.std.proofs.Common.{◌≤◌, length, Some, sym, refl, ap, ◌∙◌, subst, arith}
use Rattle.hash_modulo.specs.Sets.{Bytes}
use Rattle.image.specs.Files.{FileAt, bytes_of, files_of}
use Rattle.image.specs.Layout.{file_path, file_text}
use Rattle.links.specs.Linked.{FileLinked}
use Rattle.links.proofs.Files.{set_has}
use Rattle.store_path.specs.Names.{StorePath}
use Rattle.checker.specs.Calls as calls
use Rattle.checker.specs.Seen.{view_in}
use Rattle.checker.specs.Settling.{kind_of}
use Rattle.checker.specs.Views.{View, files}
use Rattle.checker.proofs.Counting.{count_is_rise}
use Rattle.checker.proofs.Placed.{stored_at, near_at}
use Rattle.checker.proofs.Reopened.{image_opens, all_linked}
use Rattle.checker.proofs.checker.OpenSet.settle.Goals as goal

pub settle_file-decided-requires-clause-stored : goal.settle_file-decided-requires-clause-stored
settle_file-decided-requires-clause-stored g c =
    let i = c.args.self.now.files.image in
    let (from, to, path, _, _) = subst (FileAt (bytes_of i) (files_of i) c.args.visit.file) c.unwrap-file.ensures c.file.ensures in
    subst StorePath (sym path) (stored_at (bytes_of i) (files_of i) i.opens c.args.visit.file from to)

pub settle_file-decided-requires-clause-near : goal.settle_file-decided-requires-clause-near
settle_file-decided-requires-clause-near g c =
    let i = c.args.self.now.files.image in
    let (from, to, path, _, _) = subst (FileAt (bytes_of i) (files_of i) c.args.visit.file) c.unwrap-file.ensures c.file.ensures in
    subst (λ (q : Bytes). length q ≤ 255) (sym path) (near_at (bytes_of i) (files_of i) i.opens c.args.visit.file from to)

pub settle_file-decided-requires-clause-linked : goal.settle_file-decided-requires-clause-linked
settle_file-decided-requires-clause-linked g c =
    let f = c.args.self.now.files in
    let img = bytes_of f.image in
    let n = files_of f.image in
    let k = c.args.visit.file in
    let (from, to, path, text, _) = subst (FileAt img n k) c.unwrap-file.ensures c.file.ensures in
    let is = c.get.ensures.within from (omega (arith, to, f.image.chain.few)) in
    subst (λ (p : Bytes). FileLinked img n p c.unwrap-file.result.text.now c.get.result) (sym path)
    (subst (λ (t : Bytes). FileLinked img n (file_path img k) t c.get.result) (sym text)
    (subst (FileLinked img n (file_path img k) (file_text img k)) (sym is) (all_linked f k from to)))

pub returns-clause-settles : goal.returns-clause-settles
returns-clause-settles g c = λ sound.
    let v : View = view_in c.args.self.now in
    let k = c.args.visit.file in
    let taken = c.if-not-is_taken.ensures.0 refl in
    let (from, to, path, text, _) = subst (FileAt v.image v.count k) c.unwrap-file.ensures c.file.ensures in
    let there = ap (files v) path ∙ set_has v.image v.count (image_opens c.args.self.now.files.image) k from to ∙ ap Some (sym text) in
    let kind = kind_of g.S.Sink.step g.S.DigestSink.start g.S.DigestSink.capacity g.S.DigestSink.answered g.S.DigestSink.wide in
    let settled = c.settle_file-decided.result.value in (
      settled,
      refl,
      taken,
      record { opened = refl; image = refl; count = refl; here = c.put.ensures.here; others = c.put.ensures.others },
      subst (λ (p : Bytes). calls.Decides kind (files v) p settled (g.S.Sink.held c.args.sink.now).meaning c.settle_file-decided.result.count (g.S.Sink.held c.settle_file-decided.new.sink).meaning) path
          (c.settle_file-decided.ensures sound k taken (sym path) there),
    )

pub returns-clause-rise : goal.returns-clause-rise
returns-clause-rise g c = λ sound.
    count_is_rise _ (view_in c.args.self.now) _ c.args.visit.file c.settle_file-decided.result.count
    (g.S.Sink.held c.args.sink.now).meaning (g.S.Sink.held c.settle_file-decided.new.sink).meaning (g.S.Sink.wraps c.args.sink.now) (returns-clause-settles g c sound)
