use Rattle.std.proofs.Common.{List, map, ap, ◌∙◌, rules}
use Rattle.std.proofs.lemmas.Iterator.{YieldsList-from_slice, YieldsList-from_map}
use Rattle.std.proofs.lemmas.Iterator.Consumers.{YieldsList-at, YieldsList-from_enumerate}
use Rattle.aterm.specs.declared.file.Input.{Input}
use Rattle.aterm.specs.declared.rows.Placed.{Placed}
use Rattle.aterm.specs.Tables.{rows_of}
use Rattle.canonical.specs.Files.{values, input_value}
use Rattle.hash_rows.specs.Seen.{held}
use Rattle.hash_rows.proofs.Lawful.{rows_ordered}
use Rattle.right_paths.specs.Numbered.{named}
use Rattle.right_paths.proofs.Numbering.{number, numbered, rows_right}
use Rattle.right_paths.proofs.inputs.hash_inputs.Goals as goal

pub returns : goal.returns
returns c t g aligned =
    let hs = c.args.hashes.now in
    let inputs = values (input_value t) (rows_of c.args.inputs.now) in
    let gathered = c.gather_from-table.ensures (numbered 0 hs)
    (YieldsList-from_map _ number (YieldsList-at c.map-numbered.ensures.source (YieldsList-from_enumerate (YieldsList-at c.enumerate.ensures.source (YieldsList-from_slice hs c.iter.ensures.rest)) c.enumerate.ensures.count)) c.map-numbered.ensures.closure (λ x r q k. search rules)).runs in
    rows_right g inputs hs (held c.gather_from-table.result) _ (rows_ordered c.gather_from-table.result).rising gathered
    (c.table_with_names.ensures t ∙ ap (λ (xs : List (Placed Input)). map (named (values (input_value t) xs)) (held c.gather_from-table.result)) c.as_slice.ensures) aligned
