use Rattle.std.proofs.Common.{◌≡◌, ℕ, ◌<◌, ◌≤◌, length, get_or, ap, ◌∙◌, arith, rules, map}
use Rattle.std.proofs.lemmas.List.{length-take}
use Rattle.aterm.specs.declared.file.Output.{Output}
use Rattle.aterm.specs.declared.part.Span.{Span}
use Rattle.aterm.specs.declared.rows.Placed.{Placed}
use Rattle.store_path.proofs.Made.{made}
use Rattle.links.proofs.Names.{take_rows}
use Rattle.links.proofs.output_names.OutputNames.new.Goals as goal

blank : Span
blank = record { start = 0; «end» = 0 }

pub returns : goal.returns
returns c =
    let rows = c.as_slice-rows.result.now in
    let name = λ (v : Placed Output). v.value.name in
    let each = made c.from_fn-spans.result (λ (i : ℕ) (y : Span). (v : Placed Output) → i < length rows → y ≡ name (get_or rows i v)) 16 blank (λ i y q low called. (search rules, λ v l. search rules)) c.from_fn-spans.ensures.items in
    let few : length rows ≤ 16 = omega (arith, ap length c.as_slice-rows.ensures, length-take c.args.outputs.now.len c.args.outputs.now.items, c.args.outputs.now.fits) in
    take_rows name rows c.from_fn-spans.result blank (omega (arith, few, c.from_fn-spans.ensures.items.long)) (λ i v l. each i (omega (arith, few, l)) v l)
    ∙ ap (map name) c.as_slice-rows.ensures
