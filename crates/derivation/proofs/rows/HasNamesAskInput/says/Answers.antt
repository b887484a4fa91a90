use Rattle.std.proofs.Common.{◌+◌, eqb, length, ap, ◌∙◌}
use Rattle.aterm.specs.Grammar.{string}
use Rattle.aterm.specs.Reads.{past}
use Rattle.aterm.specs.Files.{span}
use Rattle.aterm.specs.Tables.{rows_of}
use Rattle.derivation.proofs.Held.{decides_some}
use Rattle.derivation.proofs.rows.HasNamesAskInput.says.Goals as goal

pub returns : goal.returns
returns c = λ from xs at x a h.
    decides_some string (λ p v. span c.args._text.now v p) (past string at x.0 + 1) (rows_of c.args.row.now.names) x.1 h.1 c.is_empty.result
    (c.is_empty.ensures ∙ ap (λ l. eqb (length l) 0) c.as_slice.ensures)
