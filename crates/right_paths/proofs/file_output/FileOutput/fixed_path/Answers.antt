-- The strings of a fixed output's path are short, and which of them are digested goes by the algorithm.
use Rattle.std.proofs.Common.{◌≡◌, ◌<◌, false, [], length, codes, sym, refl, ap, ◌∙◌, subst, arith}
use Rattle.std.proofs.lemmas.Bool.Decides.{not_from_Decides}
use Rattle.derivation.specs.Questions.{output_name}
use Rattle.sink.specs.Numerals.{hex}
use Rattle.hash_modulo.specs.Paths.{path_string, inner_string}
use Rattle.hash_modulo.specs.Sets.{Bytes}
use Rattle.hash_modulo.proofs.Lengths.{hex_length}
use Rattle.right_paths.specs.Views.{said_by, output_by}
use Rattle.right_paths.proofs.Pourings.{pours_as, located_as}
use Rattle.right_paths.proofs.Workings.{source_worked, given_worked}
use Rattle.right_paths.proofs.file_output.FileOutput.fixed_path.Goals as goal

pub returns-then-says : goal.returns-then-says
returns-then-says g c =
    let s = c.args.self.now in
    let path = s.path.now in
    let string : Bytes → Bytes → Bytes = λ h n. path_string (codes "source") h (output_name path n) in
    let e = ap (λ (h : Bytes). string h (said_by c.said-out.result)) c.said-hash.ensures ∙ ap (string (output_by s).1.1.1) c.said-out.ensures in
    source_worked (sym c.said-algorithm.ensures ∙ c.if-says.ensures.0 refl) (located_as e c.locate.ensures) c.requires.source

pub locate-outer-requires : goal.locate-outer-requires
locate-outer-requires g c =
    let path = c.args.self.now.path.now in
    let h = c.pour-inner.result.value in
    let w : length h ≡ 32 = omega arith in
    subst (λ (n : Bytes). length (path_string (codes "output:out") (hex h) (output_name path n)) < 1048576) (sym c.said-out.ensures) (c.requires.output (hex h) (omega (arith, hex_length h, w)))

pub overflow_add-result : goal.overflow_add-result
overflow_add-result g c =
    let s = c.args.self.now in
    let path = s.path.now in
    let h = c.pour-inner.result.value in
    let w : length h ≡ 32 = omega arith in
    let given = ap (λ (n : Bytes). length (path_string (codes "output:out") (hex h) (output_name path n))) c.said-out.ensures in
    let inner = ap (λ (a : Bytes). length (inner_string ([], ([], (a, said_by c.said-hash.result))))) c.said-algorithm.ensures
    ∙ ap (λ (k : Bytes). length (inner_string ([], ([], ((output_by s).1.1.0, k))))) c.said-hash.ensures in
    omega (arith, given, inner, c.requires.output (hex h) (omega (arith, hex_length h, w)), c.requires.inner, c.pour-inner.ensures.count, c.locate-outer.ensures.pours.count)

pub returns : goal.returns
returns g c =
    let s = c.args.self.now in
    let path = s.path.now in
    let h = c.pour-inner.result.value in
    let w : length h ≡ 32 = omega arith in
    let given = ap (λ (n : Bytes). path_string (codes "output:out") (hex h) (output_name path n)) c.said-out.ensures in
    let inner = ap (λ (a : Bytes). inner_string ([], ([], (a, said_by c.said-hash.result)))) c.said-algorithm.ensures
    ∙ ap (λ (k : Bytes). inner_string ([], ([], ((output_by s).1.1.0, k)))) c.said-hash.ensures in
    given_worked (λ z. not_from_Decides false c.if-says.ensures refl (c.said-algorithm.ensures ∙ z)) (pours_as inner c.pour-inner.ensures) (located_as given c.locate-outer.ensures) c.requires.inner
    (c.requires.output (hex h) (omega (arith, hex_length h, w)))
