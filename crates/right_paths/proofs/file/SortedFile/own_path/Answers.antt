-- Both strings of a file within the limits are short, and the references that are written are its references.
use Rattle.std.proofs.Common.{◌≡◌, ◌<◌, length, sym, subst, arith}
use Rattle.sink.specs.Numerals.{hex}
use Rattle.hash_modulo.specs.Paths.{path_string, own_type}
use Rattle.hash_modulo.specs.Sets.{Bytes}
use Rattle.hash_modulo.proofs.Lengths.{canonical_short, own_short, hex_length}
use Rattle.right_paths.specs.References.{references_of}
use Rattle.right_paths.specs.Views.{file_by}
use Rattle.right_paths.proofs.Merging.{references_right}
use Rattle.right_paths.proofs.Workings.{own_worked}
use Rattle.right_paths.proofs.file.SortedFile.own_path.Goals as goal

pub locate-own-requires : goal.locate-own-requires
locate-own-requires g c =
    let m = file_by c.args.self.now in
    let h = c.pour-whole.result.value in
    let w : length h ≡ 32 = omega arith in
    subst (λ (n : Bytes). length (path_string (own_type (references_of m)) (hex h) n) < 1048576) (sym c.name_of-name.ensures)
    (own_short c.requires.limits (references_right m c.requires.lawful.1.0.1.1 c.requires.lawful.1.1.0.1.1) (hex h) (omega (arith, hex_length h, w)))

pub overflow_add-result : goal.overflow_add-result
overflow_add-result g c =
    let m = file_by c.args.self.now in
    let h = c.pour-whole.result.value in
    let w : length h ≡ 32 = omega arith in
    let string : Bytes → Bytes = path_string (own_type (references_of m)) (hex h) in
    let s : length (string c.name_of-name.result.now) < 1048576 =
    subst (λ (n : Bytes). length (string n) < 1048576) (sym c.name_of-name.ensures)
    (own_short c.requires.limits (references_right m c.requires.lawful.1.0.1.1 c.requires.lawful.1.1.0.1.1) (hex h) (omega (arith, hex_length h, w))) in
    omega (arith, canonical_short c.requires.limits, s, c.pour-whole.ensures.count, c.locate-own.ensures.pours.count)

pub returns : goal.returns
returns g c =
    let m = file_by c.args.self.now in
    let h = c.pour-whole.result.value in
    let w : length h ≡ 32 = omega arith in
    let r = references_right m c.requires.lawful.1.0.1.1 c.requires.lawful.1.1.0.1.1 in
    own_worked r c.name_of-name.ensures c.pour-whole.ensures c.locate-own.ensures (canonical_short c.requires.limits) (own_short c.requires.limits r (hex h) (omega (arith, hex_length h, w)))
