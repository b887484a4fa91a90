use Rattle.std.proofs.Common.{ℕ, ◌<◌, length, get_or, arith, rules}
use Rattle.aterm.specs.declared.rows.Placed.{Placed}
use Rattle.aterm.specs.declared.file.Input.{Input}
use Rattle.canonical.specs.Files.{said_in}
use Rattle.hash_rows.specs.declared.hash.Hash.{Hash}
use Rattle.store_path.proofs.Made.{made}
use Rattle.checker.specs.Seen.{view_in}
use Rattle.checker.specs.Settling.{HashFor}
use Rattle.checker.proofs.checker.OpenSet.input_hashes.Goals as goal

pub returns : goal.returns
returns c = λ few i r x l.
    let rows = c.args.inputs.now in
    let v = view_in c.args.self.now in
    let text = c.args.text.now in
    let each = made c.from_fn.result (λ (j : ℕ) (y : Hash). (s : Placed Input) → j < length rows → HashFor v (said_in text (get_or rows j s).value.path) y) 64 x
    (λ j y q low called. (search rules, λ s m. search rules)) c.from_fn.ensures.items in
    each i (omega (arith, l, few)) r l
