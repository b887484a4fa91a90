use Rattle.std.proofs.Common.{ℕ, ◌+◌, ◌-◌, ◌≤◌, None, Option, get_or, subst, inl, inr, arith, rules}
use Rattle.std.proofs.lemmas.Bool.{cases_order}
use Rattle.std.proofs.lemmas.List.{get_or_past}
use Rattle.image.specs.Files.{bytes_of, files_of}
use Rattle.store_path.proofs.Made.{made}
use Rattle.links.specs.Linked.{Linked}
use Rattle.links.specs.Owners.{LinkedBy}
use Rattle.links.specs.declared.link.Links.{Links}
use Rattle.links.proofs.table.LinkTable.new.Goals as goal

pub returns-clause-linked : goal.returns-clause-linked
returns-clause-linked c = λ all k from to.
    let owners = c.args.owners.now in
    let img = bytes_of owners.image.now in
    let n = files_of owners.image.now in
    let files = c.from_fn-files.result in
    let each = made files (λ (i : ℕ) (y : Option Links). LinkedBy owners (i + 1) y) 256 None (λ i y q low called. (search rules, search rules)) c.from_fn-files.ensures.items in
    subst (λ (j : ℕ). Linked img n j (get_or files (k - 1) None)) {x = k - 1 + 1} {y = k} (omega arith) (((each (k - 1) (omega (arith, owners.image.now.chain.few))).kept all).within (omega arith) (omega arith))

pub returns-clause-past : goal.returns-clause-past
returns-clause-past c = λ all k more.
    let owners = c.args.owners.now in
    let img = bytes_of owners.image.now in
    let n = files_of owners.image.now in
    let files = c.from_fn-files.result in
    let each = made files (λ (i : ℕ) (y : Option Links). LinkedBy owners (i + 1) y) 256 None (λ i y q low called. (search rules, search rules)) c.from_fn-files.ensures.items in
    let beyond = λ (h : 256 ≤ k - 1). get_or_past files (k - 1) None (omega (arith, h, c.from_fn-files.ensures.items.long)) in
    elim (cases_order (k - 1) 256) [
      | inl e ↦ beyond (omega (arith, e))
      | inr o ↦ elim o [
        | inl h ↦ ((each (k - 1) h).kept all).past (omega (arith, more))
        | inr h ↦ beyond (omega (arith, h))
      ]
    ]
