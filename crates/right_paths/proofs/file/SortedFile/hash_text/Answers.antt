-- The texts of a file within the limits are short, and their digests and the paths are those of the definition.
use Rattle.std.proofs.Common.{refl, arith}
use Rattle.aterm.specs.Tables.{rows_of}
use Rattle.canonical.specs.Files.{values, derivation_value}
use Rattle.canonical.specs.Meanings.{canonical}
use Rattle.hash_modulo.specs.Hashes.{with_inputs}
use Rattle.hash_modulo.specs.Paths.{masked}
use Rattle.right_paths.specs.Inputs.{hash_input_value}
use Rattle.right_paths.specs.Views.{file_by}
use Rattle.right_paths.proofs.Aligning.{hash_short, masked_short}
use Rattle.right_paths.proofs.Workings.{text_rest}
use Rattle.right_paths.proofs.file.SortedFile.hash_text.Goals as goal

pub pour-whole-requires : goal.pour-whole-requires
pour-whole-requires g c =
    let s = c.args.self.now in
    let w = c.requires.works in
    hash_short w (c.hash_inputs.ensures s.text.now w.given w.aligned)

pub pour-masked-requires : goal.pour-masked-requires
pour-masked-requires g c =
    let s = c.args.self.now in
    let w = c.requires.works in
    masked_short w (c.hash_inputs.ensures s.text.now w.given w.aligned)

-- each text is as long as what was counted for it
pub overflow_add-result : goal.overflow_add-result
overflow_add-result g c =
    let s = c.args.self.now in
    let w = c.requires.works in
    omega (arith, hash_short w (c.hash_inputs.ensures s.text.now w.given w.aligned), c.pour-whole.ensures.count, c.requires.few)

pub overflow_add-result-2 : goal.overflow_add-result-2
overflow_add-result-2 g c =
    let s = c.args.self.now in
    let w = c.requires.works in
    let r = c.hash_inputs.ensures s.text.now w.given w.aligned in
    omega (arith, hash_short w r, masked_short w r, c.pour-whole.ensures.count, c.pour-masked.ensures.count, c.requires.few)

pub overflow_add-result-3 : goal.overflow_add-result-3
overflow_add-result-3 g c =
    let s = c.args.self.now in
    let w = c.requires.works in
    let t = s.text.now in
    let r = c.hash_inputs.ensures t w.given w.aligned in
    let v = c.hash_inputs.result in
    let text = canonical (with_inputs (masked (derivation_value t s.file.now)) (values (hash_input_value t) (rows_of v))) in
    omega (arith, hash_short w r, masked_short w r, c.pour-whole.ensures.count, c.pour-masked.ensures.count, (c.output_paths-outputs.ensures text c.pour-masked.ensures.hash).few, c.requires.few)

pub returns : goal.returns
returns g c h aligned =
    let s = c.args.self.now in
    let t = s.text.now in
    let v = c.hash_inputs.result in
    let m = file_by s in
    let rows = values (hash_input_value t) (rows_of v) in
    let o = c.output_paths-outputs.ensures (canonical (with_inputs (masked m) rows)) c.pour-masked.ensures.hash in
    (rows, c.hash_inputs.ensures t h aligned, text_rest {m = m} c.pour-whole.ensures c.pour-masked.ensures o refl refl refl refl)
