use Rattle.std.proofs.Common.{◌≡◌, ◌+◌, List, Some, option_copied, sym, ◌∙◌, subst}
use Rattle.aterm.specs.Files.{span}
use Rattle.aterm.specs.Grammar.{string, meaning}
use Rattle.aterm.specs.Reads.{Each, past}
use Rattle.aterm.specs.declared.part.Span.{Span}
use Rattle.aterm.specs.declared.rows.Placed.{Placed}
use Rattle.hash_modulo.specs.Sets.{Bytes}
use Rattle.image.specs.Files.{bytes_of, files_of}
use Rattle.image.specs.Layout.{file_path, file_text}
use Rattle.links.specs.Owners.{NamesAre, NamesKept}
use Rattle.links.specs.Sets.{Found}
use Rattle.links.proofs.Files.{stands}
use Rattle.links.proofs.rows.link_row.Goals as goal

pub returns : goal.returns
returns c = λ all at t h plain.
    let image = c.args.owners.now.image.now in
    let img = bytes_of image in
    let n = files_of image in
    let text = c.args.text.now in
    let number = c.in_ok-number.number in
    let file = c.in_ok-number.file in
    let there = c.in_ok-number.ensures.found in
    let inner = past string at t.0 + 1 in
    let p : c.bytes.result.now ≡ meaning t.0 = c.bytes.ensures ∙ h.0.cut ∙ plain.path in
    let found : Found img n (meaning t.0) (Some number) = subst (λ (q : Bytes). Found img n q (Some number)) p there.0 in
    let names : NamesAre text c.as_slice.result.now t.1 = (inner, subst (λ (vs : List (Placed Span)). Each string (λ q v. span text v q) inner vs t.1) (sym c.as_slice.ensures) h.1) in
    let path : file_path img number ≡ file.path.now = there.0.2 ∙ sym there.1 in
    let kept : NamesKept (file_path img number) (file_text img number) (option_copied c.get.result) = subst (NamesKept (file_path img number) (file_text img number)) (sym (c.get.ensures there.0.0 c.in_ok-number.ensures.few)) (all number there.0.0 there.0.1) in
    let named : NamesKept file.path.now file.text.now (option_copied c.get.result) = subst (λ (q : Bytes). NamesKept q file.text.now (option_copied c.get.result)) path (subst (λ (u : Bytes). NamesKept (file_path img number) u (option_copied c.get.result)) (sym there.2) kept) in
    (found, c.is_owned-owned.ensures img file.path.now n number (stands img n c.bytes.result.now number file there image.opens) named t.1 names plain.names (meaning t.0) found)
