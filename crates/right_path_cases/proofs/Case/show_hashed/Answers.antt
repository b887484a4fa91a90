use Rattle.std.proofs.Common.{◌∙◌, sym}
use Rattle.std.proofs.lemmas.List.{length-map}
use Rattle.canonical.specs.Files.{derivation_value}
use Rattle.right_paths.proofs.Given.{some_workable}
use Rattle.right_path_cases.proofs.Case.show_hashed.Goals as goal

pub hash-worked-requires : goal.hash-worked-requires
hash-worked-requires c =
    let m = derivation_value c.args.self.now.text.now c.args.sorted.now in
    let prepared = c.requires.prepared in
    some_workable c.args.self.now.path.now m c.args.hashes.now prepared.limits prepared.lawful (length-map _ _ ∙ sym c.requires.each)
