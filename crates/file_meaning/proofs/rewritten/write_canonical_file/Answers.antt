use Rattle.std.proofs.Common.{◌≡◌, Err, rules}
use Rattle.file_meaning.specs.declared.rewritten.Unwritten.TheVariants.{Full}
use Rattle.file_meaning.proofs.Again.{accepted}
use Rattle.file_meaning.proofs.rewritten.write_canonical_file.Goals as goal

pub returns-in_err-write_canonical : goal.returns-in_err-write_canonical
returns-in_err-write_canonical g c =
    let is : c.from_residual-in_err-write_canonical.result ≡ Err Full = search rules in
    let h = accepted c.args.path.now c.args.text.now c.in_ok-file.file c.in_ok-file.ensures in
    rw is (h.meaning, h.reads, (c.in_err-write_canonical.ensures 7 h.tree h.meaning h.held h.apart h.means).told)

pub returns : goal.returns
returns g c =
    let h = accepted c.args.path.now c.args.text.now c.in_ok-file.file c.in_ok-file.ensures in
    (h.meaning, h.reads, (c.in_ok-write_canonical.ensures 7 h.tree h.meaning h.held h.apart h.means).told)
