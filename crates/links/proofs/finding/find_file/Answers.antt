use Rattle.std.proofs.Common.{◌≡◌, ℕ, ◌+◌, ◌-◌, ◌<◌, List, [], length, get_or, None, Some, sym, ap, ◌∙◌, subst, arith, rules, tests}
use Rattle.std.specs.List.{AllWithin, enumerate_from}
use Rattle.std.proofs.lemmas.Iterator.{first_from_find}
use Rattle.std.proofs.lemmas.List.FromFn.{length-enumerate_from, get_or-enumerate_from}
use Rattle.hash_modulo.specs.Sets.{Bytes}
use Rattle.image.specs.Files.{bytes_of, files_of}
use Rattle.image.specs.InOrder.{pair, files_from}
use Rattle.image.specs.Layout.{file_path, file_text}
use Rattle.image.proofs.InOrder.{files_length, files_at, numbered}
use Rattle.links.specs.Sets.{Nowhere, FoundFile}
use Rattle.links.proofs.finding.find_file.Goals as goal

-- the number of files before one, its path and its text
abbrev Numbered : Type 0
Numbered = ℕ × (Bytes × Bytes)

module _ (img : List ℕ) (n : ℕ) where
  abbrev all : List Numbered
  all = enumerate_from 0 (files_from img 1 n)

  many : length all ≡ n
  many = length-enumerate_from 0 (files_from img 1 n) ∙ files_length img 1 n

  at_place : (i : ℕ) (d : Numbered) → i < n → get_or all i d ≡ (i, (file_path img (i + 1), file_text img (i + 1)))
  at_place i d h =
      get_or-enumerate_from 0 (files_from img 1 n) i d (omega (arith, files_length img 1 n))
      ∙ ap (λ (y : Bytes × Bytes). (0 + i, y)) (files_at img 1 n i d.1 h)
      ∙ ap (λ (k : ℕ). (k, (file_path img (1 + i), file_text img (1 + i)))) {x = 0 + i} {y = i} (omega arith)
      ∙ ap (λ (k : ℕ). (i, (file_path img k, file_text img k))) {x = 1 + i} {y = i + 1} (omega arith)

  nowhere : (p : Bytes) → AllWithin (λ (y : Numbered). y.1.0 ≡ p → ⊥) all 0 (length all) → Nowhere img n p
  nowhere p none k from to is =
      none (k - 1) (0, ([], [])) (omega arith) (omega (arith, many))
      (ap (λ (y : Numbered). y.1.0) (at_place (k - 1) (0, ([], [])) (omega arith)) ∙ ap (file_path img) {x = k - 1 + 1} {y = k} (omega arith) ∙ is)

pub returns-in_err-before-clause-found : goal.returns-in_err-before-clause-found
returns-in_err-before-clause-found c =
    let img = bytes_of c.args.image.now in
    let n = files_of c.args.image.now in
    let p = c.args.path.now in
    let road = numbered img n c.files.result c.enumerate.result c.files.ensures.are c.enumerate.ensures.source c.enumerate.ensures.count in
    let none = first_from_find c.find.new.self _ None (λ (y : Numbered). y.1.0 ≡ p) (λ (y : Numbered). y.1.0 ≡ p → ⊥) c.in_err-before.ensures.ran road (λ x q k. search (rules, tests)) (λ x q k. search (rules, tests)) in
    subst (FoundFile img n p) (sym c.from_residual.ensures) (nowhere img n p none)

pub returns-clause-found : goal.returns-clause-found
returns-clause-found c =
    let img = bytes_of c.args.image.now in
    let n = files_of c.args.image.now in
    let p = c.args.path.now in
    let before = c.in_ok-before.before in
    let file = c.in_ok-before.file in
    let road = numbered img n c.files.result c.enumerate.result c.files.ensures.are c.enumerate.ensures.source c.enumerate.ensures.count in
    let some = first_from_find c.find.new.self _ (Some (before, file)) (λ (y : Numbered). y.1.0 ≡ p) (λ (y : Numbered). y.1.0 ≡ p → ⊥) c.in_ok-before.ensures.ran road (λ x q k. search (rules, tests)) (λ x q k. search (rules, tests)) in
    let i = some.1 in
    let less : i < n = omega (arith, some.2, many img n) in
    let is : (before, pair file) ≡ (i, (file_path img (i + 1), file_text img (i + 1))) = sym (some.3 (0, ([], []))) ∙ at_place img n i (0, ([], [])) less in
    let same : before ≡ i = ap (λ (y : Numbered). y.0) is in
    let path : file.path.now ≡ file_path img (before + 1) = ap (λ (y : Numbered). y.1.0) is ∙ ap (λ (k : ℕ). file_path img (k + 1)) (sym same) in
    let text : file.text.now ≡ file_text img (before + 1) = ap (λ (y : Numbered). y.1.1) is ∙ ap (λ (k : ℕ). file_text img (k + 1)) (sym same) in
    ((omega arith, omega arith, sym path ∙ some.0), some.0, text)
