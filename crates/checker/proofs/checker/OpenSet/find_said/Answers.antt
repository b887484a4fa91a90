use Rattle.std.proofs.Common.{◌≡◌, ℕ, ◌+◌, ◌-◌, ◌<◌, [], length, get_or, Some, None, sym, ap, ◌∙◌, subst, arith, rules, tests}
use Rattle.std.specs.List.{AllWithin}
use Rattle.std.proofs.lemmas.Iterator.{IsFirst-from_position}
use Rattle.std.proofs.lemmas.Iterator.Consumers.{YieldsList-from_first}
use Rattle.hash_modulo.specs.Sets.{Bytes}
use Rattle.image.specs.Files.{bytes_of, files_of}
use Rattle.image.specs.InOrder.{pair, files_from, files_left}
use Rattle.image.specs.Layout.{file_path}
use Rattle.image.proofs.InOrder.{files_length, files_at}
use Rattle.links.specs.Sets.{Nowhere, Found}
use Rattle.right_paths.specs.Views.{said_by}
use Rattle.checker.proofs.checker.OpenSet.find_said.Goals as goal

module _ (img : Bytes) (n : ℕ) (p : Bytes) where
  abbrev Is : Bytes × Bytes → Type 0
  Is y = p ≡ y.0

  abbrev Other : Bytes × Bytes → Type 0
  Other y = p ≡ y.0 → ⊥

  path_there : (i : ℕ) → i < n → file_path img (1 + i) ≡ (get_or (files_from img 1 n) i ([], [])).0
  path_there i l = sym (ap (λ (y : Bytes × Bytes). y.0) (files_at img 1 n i ([], []) l))

  nowhere : AllWithin Other (files_from img 1 n) 0 (length (files_from img 1 n)) → Nowhere img n p
  nowhere none k from to is =
      none (k - 1) ([], []) (omega arith) (omega (arith, files_length img 1 n))
      (sym is ∙ ap (file_path img) {x = k} {y = 1 + (k - 1)} (omega arith) ∙ path_there (k - 1) (omega arith))

pub returns-in_err-before : goal.returns-in_err-before
returns-in_err-before c =
    let img = bytes_of c.args.self.now.files.image in
    let n = files_of c.args.self.now.files.image in
    let p = said_by c.args.path in
    let none = IsFirst-from_position c.position.new.self _ None (Is img n p) (Other img n p) c.in_err-before.ensures.ran
    (YieldsList-from_first pair files_left (files_from img 1 n) c.files.ensures.are) (λ x q k. search (rules, tests)) (λ x q k. search (rules, tests)) in
    subst (Found img n p) (sym c.from_residual.ensures) (nowhere img n p none)

pub returns : goal.returns
returns c =
    let img = bytes_of c.args.self.now.files.image in
    let n = files_of c.args.self.now.files.image in
    let p = said_by c.args.path in
    let before = c.in_ok-before.before in
    let some = IsFirst-from_position c.position.new.self _ (Some before) (Is img n p) (Other img n p) c.in_ok-before.ensures.ran
    (YieldsList-from_first pair files_left (files_from img 1 n) c.files.ensures.are) (λ x q k. search (rules, tests)) (λ x q k. search (rules, tests)) in
    let less : before < n = omega (arith, some.0, files_length img 1 n) in
    (omega arith, omega arith, ap (file_path img) {x = before + 1} {y = 1 + before} (omega arith) ∙ path_there img n p before less ∙ sym (some.1 ([], [])))
