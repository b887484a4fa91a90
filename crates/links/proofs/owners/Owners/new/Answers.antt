use Rattle.std.proofs.Common.{ℕ, ◌+◌, ◌-◌, ◌≤◌, None, Option, get_or, subst, arith, rules}
use Rattle.image.specs.Files.{bytes_of, files_of}
use Rattle.image.specs.Layout.{file_path, file_text}
use Rattle.store_path.proofs.Made.{made}
use Rattle.links.specs.Owners.{NamesKept}
use Rattle.links.specs.declared.output_names.OutputNames.{OutputNames}
use Rattle.links.proofs.owners.Owners.new.Goals as goal

pub returns-clause-names : goal.returns-clause-names
returns-clause-names c = λ k from to.
    let img = bytes_of c.args.image.now in
    let n = files_of c.args.image.now in
    let each = made c.from_fn-names.result (λ (i : ℕ) (y : Option OutputNames). 1 ≤ i + 1 → i + 1 ≤ n → NamesKept (file_path img (i + 1)) (file_text img (i + 1)) y) 256 None (λ i y q low called. (search rules, search rules)) c.from_fn-names.ensures.items in
    subst (λ (j : ℕ). NamesKept (file_path img j) (file_text img j) (get_or c.from_fn-names.result (k - 1) None)) {x = k - 1 + 1} {y = k} (omega arith) (each (k - 1) (omega (arith, c.args.image.now.chain.few)) (omega arith) (omega arith))
