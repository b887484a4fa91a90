use Rattle.std.proofs.Common.{◌+◌, Some, sym, ap, subst}
use Rattle.std.proofs.lemmas.Bool.Decides.{not_from_Decides}
use Rattle.aterm.specs.Files.{output, input, in_output, in_input}
use Rattle.derivation.specs.Asked.{First}
use Rattle.derivation.specs.Questions.{entries, place_2, present}
use Rattle.derivation.proofs.Scan.{each_as}
use Rattle.derivation.proofs.Held.{held_empty}
use Rattle.derivation.proofs.Files.{present_none, present_inputs}
use Rattle.derivation.proofs.file.Asked.present.Goals as goal

pub returns-then-is_empty : goal.returns-then-is_empty
returns-then-is_empty c = λ x h.
    let o = each_as output (in_output c.args.self.now.text.now) 8 x.0 c.as_slice.ensures h.0 in
    subst (First present (entries x)) (ap Some (sym c.of_list.ensures))
    (present_none x ((held_empty output (in_output c.args.self.now.text.now) 8 c.as_slice.result.now x.0 o c.is_empty.result c.is_empty.ensures).0 c.if-is_empty.true))

pub returns : goal.returns
returns c = λ x h.
    let o = each_as output (in_output c.args.self.now.text.now) 8 x.0 c.as_slice.ensures h.0 in
    let i = each_as input (in_input c.args.self.now.text.now) (place_2 x + 1) x.1.0 c.as_slice-2.ensures h.1.0 in
    present_inputs x (not_from_Decides c.is_empty.result (held_empty output (in_output c.args.self.now.text.now) 8 c.as_slice.result.now x.0 o c.is_empty.result c.is_empty.ensures) c.if-is_empty.false) c.spot_of_no.result (c.spot_of_no.ensures (place_2 x + 1) x.1.0 i)
