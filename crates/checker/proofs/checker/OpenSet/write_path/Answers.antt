use Rattle.std.proofs.Common.{refl, subst, inr}
use Rattle.derivation.specs.Judgement.{JudgedFile}
use Rattle.file_meaning.proofs.Judged.{not_both}
use Rattle.checker.proofs.checker.OpenSet.write_path.Goals as goal

pub returns-in_default-clause-located : goal.returns-in_default-clause-located
returns-in_default-clause-located g c =
    let path = c.args.file.path.now in
    let text = c.args.file.text.now in
    let fault = subst (JudgedFile path text) c.in_default.is c.read_file.ensures in
    inr ((λ z. not_both path text z.0 c.in_default.field-0 z.1 fault.0), refl, refl, refl)
