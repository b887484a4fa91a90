use Rattle.std.proofs.Common.{[], Ok, ◌∙◌, refl, sym, ap, rules}
use Rattle.std.proofs.Output.{has_written_of_eq, has_written_append, displays_on_ok_of_eq}
use Rattle.std.proofs.lemmas.List.{take_more, flat_map_more}
use Rattle.std.specs.Fmt.{styled_digits_output}
use Rattle.sink.specs.Numerals.{pair, hex}
use Rattle.test_input.proofs.Byte.{padded_is_pair}
use Rattle.test_input.proofs.base16.HexDisplay.fmt.Goals as goal

pub loop-b-preserved : goal.loop-b-preserved
loop-b-preserved g c = λ p.
    let text = ap (styled_digits_output c.in_radix.result) c.laid_out.ensures ∙ padded_is_pair _ _ (search rules) c.in_radix.ensures in
    let written = displays_on_ok_of_eq _ _ _ (Ok c.in_ok-write.field-0) _ _ text c.in_ok-write.ensures.writes in
    has_written_of_eq _ _ _ _ _ (flat_map_more pair [] _ _ ∙ sym (ap hex (take_more _ _ 0 c.loop-b-test.true)))
    (has_written_append _ _ _ _ _ _ (c.loop-b.invariant p) (written (c.loop-b.invariant p).plain refl))
