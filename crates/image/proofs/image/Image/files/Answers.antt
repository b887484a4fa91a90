use Rattle.std.proofs.Common.{suc, ◌-◌, arith}
use Rattle.image.specs.Files.{bytes_of, files_of}
use Rattle.image.proofs.InOrder.{files_length}
use Rattle.image.proofs.image.Image.files.Goals as goal

pub returns-clause-few : goal.returns-clause-few
returns-clause-few c =
    let image = c.args.self.now in
    omega (arith, files_length (bytes_of image) 1 (suc (files_of image) - 1), image.chain.few)
