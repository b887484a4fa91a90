use Rattle.std.proofs.Common.{sym, refl, subst, arith}
use Rattle.hash_modulo.specs.Sets.{Bytes}
use Rattle.image.specs.Files.{bytes_of, files_of}
use Rattle.image.specs.Layout.{file_text}
use Rattle.links.specs.Linked.{FileLinked, LinkedAt}
use Rattle.links.proofs.table.calls.links_at.Goals as goal

pub returns-in_err-file : goal.returns-in_err-file
returns-in_err-file c =
    let image = c.args.owners.now.image.now in
    record { kept = λ all. subst (LinkedAt (bytes_of image) (files_of image) c.args.number) (sym c.from_residual.ensures) (record { within = λ from to. absurd (c.in_err-file.ensures from to); past = λ _. refl }) }

pub returns : goal.returns
returns c =
    let image = c.args.owners.now.image.now in
    let img = bytes_of image in
    let n = files_of image in
    let file = c.in_ok-file.file in
    let at = c.in_ok-file.ensures in
    record {
      kept = λ all. record {
        within = λ from to. subst (λ (p : Bytes). FileLinked img n p (file_text img c.args.number) c.links_of.result) at.2 (subst (λ (t : Bytes). FileLinked img n file.path.now t c.links_of.result) at.3 (c.links_of.ensures all));
        past = λ more. absurd (omega (arith, more, at.1));
      };
    }
