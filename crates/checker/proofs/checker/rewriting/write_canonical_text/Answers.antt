use Rattle.std.proofs.Common.{subst}
use Rattle.canonical.specs.Files.{derivation_value}
use Rattle.derivation.specs.Judgement.{JudgedFile}
use Rattle.checker.proofs.Rewritten.{sorted_reads, file_written, file_unread}
use Rattle.checker.proofs.checker.rewriting.write_canonical_text.Goals as goal

pub returns-in_default : goal.returns-in_default
returns-in_default c =
    let path = c.args.file.path.now in
    let text = c.args.file.text.now in
    let fault = subst (JudgedFile path text) c.in_default.is c.read_file.ensures in
    file_unread path text c.in_default.field-0 fault.0 c.args.out.now

pub returns : goal.returns
returns c =
    let path = c.args.file.path.now in
    let text = c.args.file.text.now in
    let reads = sorted_reads path text c.in-Ok.read c.sorted.result (subst (JudgedFile path text) c.in-Ok.is c.read_file.ensures) c.sorted.ensures in
    file_written path text (derivation_value text c.sorted.result) reads c.args.out.now c.write_text.result c.write_text.new.out c.write_text.ensures
