use Rattle.std.proofs.Common.{IfErr, length, sym, subst}
use Rattle.checker.specs.Locating.{PathRefused}
use Rattle.checker.specs.Seen.{view_of, view_in}
use Rattle.checker.specs.Settling.{kind_of}
use Rattle.checker.specs.Views.{View}
use Rattle.checker.proofs.Placed.{path_in}
use Rattle.checker.proofs.checker.Checker.path.Goals as goal

pub returns-clause-located : goal.returns-clause-located
returns-clause-located g c =
    let s = g.S.Sink in
    let d = g.S.DigestSink in
    path_in (kind_of s.step d.start d.capacity d.answered d.wide) (view_of c.args.self.now) (view_in c.in_ok-set.set.now) c.args.file c.args.j c.args.out.now (s.held c.args.sink.now).meaning
    c.path.result c.path.new.out (s.held c.path.new.sink).meaning c.in_ok-set.ensures c.path.ensures.located

pub returns-clause-refused : goal.returns-clause-refused
returns-clause-refused g c =
    subst (λ (v : View). IfErr c.path.result (PathRefused v c.args.file c.args.j (length c.args.out.now))) (sym c.in_ok-set.ensures) c.path.ensures.refused
