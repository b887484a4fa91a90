use Rattle.std.proofs.Common.{sym, ◌∙◌, rules, arith}
use Rattle.recorder.proofs.Firsts.{counts_is, laid_mid}
use Rattle.recorder.proofs.table.Table.keep.Goals as goal

pub returns : goal.returns
returns c =
    let s = c.args.self.now in
    let bytes = c.args.bytes.now in (
      c.count_on-self.ensures ∙ sym (counts_is s.count bytes (omega arith)),
      laid_mid s.bytes bytes _ s.count c.min-at.result c.min-n.result (search rules) (omega arith) (omega arith) (omega arith) c.copy_from_slice.ensures.after,
    )
