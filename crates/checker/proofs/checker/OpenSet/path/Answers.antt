use Rattle.std.proofs.Common.{◌≡◌, ◌≤◌, None, length, sym, refl, subst, rules}
use Rattle.hash_modulo.specs.Sets.{Bytes}
use Rattle.image.specs.Files.{bytes_of, files_of}
use Rattle.store_path.specs.Names.{StorePath}
use Rattle.checker.specs.Locating.{LocatedIfRead}
use Rattle.checker.specs.Seen.{view_in}
use Rattle.checker.specs.Settling.{kind_of}
use Rattle.checker.specs.Views.{path_at}
use Rattle.checker.proofs.Placed.{stored_at, near_at, short_at, hashed_at, path_written, path_answered, path_refused}
use Rattle.checker.proofs.Reopened.{image_opens}
use Rattle.checker.proofs.checker.OpenSet.path.Goals as goal

pub write_path-requires-clause-stored : goal.write_path-requires-clause-stored
write_path-requires-clause-stored g c =
    let i = c.args.self.now.files.image in
    let there = c.in_ok-file.ensures in
    subst StorePath (sym there.1) (stored_at (bytes_of i) (files_of i) i.opens c.args.number there.0.0 there.0.1)

pub write_path-requires-clause-near : goal.write_path-requires-clause-near
write_path-requires-clause-near g c =
    let i = c.args.self.now.files.image in
    let there = c.in_ok-file.ensures in
    subst (λ (q : Bytes). length q ≤ 255) (sym there.1) (near_at (bytes_of i) (files_of i) i.opens c.args.number there.0.0 there.0.1)

pub write_path-requires-clause-short : goal.write_path-requires-clause-short
write_path-requires-clause-short g c =
    let i = c.args.self.now.files.image in
    let there = c.in_ok-file.ensures in
    subst (λ (q : Bytes). length q ≤ 262144) (sym there.2) (short_at (bytes_of i) (files_of i) i.opens c.args.number there.0.0 there.0.1)

pub returns-clause-located : goal.returns-clause-located
returns-clause-located g c = λ sound.
    let s = g.S.Sink in
    let d = g.S.DigestSink in
    let kind = kind_of s.step d.start d.capacity d.answered d.wide in
    let v = view_in c.args.self.now in
    let k = c.args.number in
    let j = c.args.j in
    let out = c.args.out.now in
    let before = (s.held c.args.sink.now).meaning in
    let r = c.write_path.result in
    let after = c.write_path.new.out in
    let sink = (s.held c.write_path.new.sink).meaning in
    let there = c.in_ok-file.ensures in
    let some : c.hash_in.result ≡ None → ⊥ = λ e. search rules in
    let h = hashed_at v k there.0 c.in_ok-state.state c.in_ok-state.ensures.1 c.hash_in.result c.hash_in.ensures some in
    path_answered kind v k (image_opens c.args.self.now.files.image) sound refl there.0 h.0 h.1 j out before r after sink
    (subst (λ (t : Bytes). LocatedIfRead kind v (path_at v k) t j out before r after sink) there.2
    (subst (λ (q : Bytes). LocatedIfRead kind v q c.in_ok-file.file.text.now j out before r after sink) there.1 c.write_path.ensures.located))

pub returns-clause-written : goal.returns-clause-written
returns-clause-written g c =
    let s = g.S.Sink in
    let d = g.S.DigestSink in
    path_written (kind_of s.step d.start d.capacity d.answered d.wide) (view_in c.args.self.now) c.in_ok-file.file.path.now c.in_ok-file.file.text.now c.args.j c.args.out.now
    (s.held c.args.sink.now).meaning c.write_path.result c.write_path.new.out (s.held c.write_path.new.sink).meaning c.write_path.ensures.located

pub returns-clause-refused : goal.returns-clause-refused
returns-clause-refused g c =
    let s = g.S.Sink in
    let d = g.S.DigestSink in
    let kind = kind_of s.step d.start d.capacity d.answered d.wide in
    let v = view_in c.args.self.now in
    let k = c.args.number in
    let j = c.args.j in
    let out = c.args.out.now in
    let before = (s.held c.args.sink.now).meaning in
    let r = c.write_path.result in
    let after = c.write_path.new.out in
    let sink = (s.held c.write_path.new.sink).meaning in
    let there = c.in_ok-file.ensures in
    let some : c.hash_in.result ≡ None → ⊥ = λ e. search rules in
    let h = hashed_at v k there.0 c.in_ok-state.state c.in_ok-state.ensures.1 c.hash_in.result c.hash_in.ensures some in
    path_refused v k (image_opens c.args.self.now.files.image) refl there.0 h kind j out before r after sink
    (subst (λ (t : Bytes). LocatedIfRead kind v (path_at v k) t j out before r after sink) there.2
    (subst (λ (q : Bytes). LocatedIfRead kind v q c.in_ok-file.file.text.now j out before r after sink) there.1 c.write_path.ensures.located))
