use Rattle.std.proofs.Common.{map, ap, ◌∙◌, subst}
use Rattle.aterm.specs.Meaning.{cut}
use Rattle.aterm.specs.Tables.{rows_of}
use Rattle.aterm.specs.declared.part.Span.{Span}
use Rattle.hash_modulo.specs.Sets.{Bytes}
use Rattle.image.specs.Files.{bytes_of}
use Rattle.image.specs.Layout.{file_text}
use Rattle.links.specs.Owners.{OutputsNamed}
use Rattle.links.proofs.Names.{accepted, names_held}
use Rattle.links.proofs.owners.names_at.Goals as goal

pub returns : goal.returns
returns c = λ from to.
    let path = c.in_ok-file.file.path.now in
    let text = c.in_ok-file.file.text.now in
    let d = c.in_ok-d.d in
    let a = accepted path text c.read_file.result d c.read_file.ensures c.in_ok-d.ensures.value in
    let kept : OutputsNamed path text c.new.result = record {
      file = d;
      accepted = a;
      outputs = ap (map (λ (s : Span). cut text s.start s.«end»)) c.new.ensures ∙ names_held text 8 (rows_of d.outputs) a.reading.tree.0 a.reading.held.0;
    } in
    let at = c.in_ok-file.ensures in
    subst (λ (p : Bytes). OutputsNamed p (file_text (bytes_of c.args.image.now) c.args.number) c.new.result) at.2 (subst (λ (t : Bytes). OutputsNamed path t c.new.result) at.3 kept)
