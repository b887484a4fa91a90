use Rattle.std.proofs.Common.{length, map, [], replicate, ap, ◌∙◌, rules, arith}
use Rattle.aterm.specs.declared.rows.Placed.{Placed}
use Rattle.canonical.specs.Files.{values, input_value}
use Rattle.hash_rows.specs.Rows.{no_row}
use Rattle.right_paths.specs.Inputs.{hash_input_value}
use Rattle.right_paths.specs.Numbered.{named}
use Rattle.right_paths.specs.declared.hash_input.HashInput.{HashInput}
use Rattle.right_paths.proofs.InputNames.{rows_made}
use Rattle.right_paths.proofs.inputs.table_with_names.Goals as goal

-- what is read past the last row
abbrev nowhere : Placed HashInput
nowhere = record { place = 0; value = record { hash = no_row.hash; names = record { items = replicate 16 (record { place = 0; value = record { start = 0; «end» = 0 } }); len = 0; fits = omega arith } } }

pub returns : goal.returns
returns c t =
    let rows = c.as_slice-rows.result.now in
    let name = named (values (input_value t) c.args.inputs.now) in
    rows_made c.from_fn-items.result rows (λ (v : Placed HashInput). hash_input_value t v.value) name nowhere no_row ([], [])
    (omega (arith, ap length c.as_slice-rows.ensures, c.args.table.now.few))
    (λ i y q called. search rules) c.from_fn-items.ensures.items
    ∙ ap (map name) c.as_slice-rows.ensures
