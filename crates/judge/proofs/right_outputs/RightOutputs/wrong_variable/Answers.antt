use Rattle.std.proofs.Common.{◌≡◌, ℕ, Bor, Option, Some, length, sym, ap, ◌∙◌, subst, arith, rules, tests}
use Rattle.std.proofs.lemmas.Bool.{false≢true}
use Rattle.std.proofs.lemmas.Iterator.{YieldsList-from_slice}
use Rattle.aterm.specs.Files.{variable, in_variable}
use Rattle.aterm.specs.declared.file.Variable.{Variable}
use Rattle.aterm.specs.declared.rows.Placed.{Placed}
use Rattle.canonical.specs.Files.{said_in}
use Rattle.derivation.specs.declared.field.Field.TheVariants.{Environment}
use Rattle.derivation.proofs.Scan.{FirstRow, clean_all, first_row, split_row, clean_before}
use Rattle.judge.specs.Stated.{VariableTold, told_outputs}
use Rattle.judge.proofs.Environment.{Unnamed, name_there, row_right, row_wrong, no_row}
use Rattle.judge.proofs.right_outputs.RightOutputs.wrong_variable.Goals as goal
use Rattle.judge.proofs.right_outputs.RightOutputs.wrong_variable.Goals.{After-find}

-- the first row with the name, or that none has it
row_found : (c : After-find) (o : Option (ℕ × Bor (Placed Variable))) → c.find.result ≡ o
    → FirstRow (λ k v. said_in c.args.self.now.of.text.now v.value.name ≡ said_in c.args.self.now.of.text.now c.args.name) (λ k v. said_in c.args.self.now.of.text.now v.value.name ≡ said_in c.args.self.now.of.text.now c.args.name → ⊥) c.args.variables.now o
row_found c o is =
    let t = c.args.self.now.of.text.now in
    let us = c.args.variables.now in
    let n = said_in t c.args.name in
    let Yes : ℕ → Placed Variable → Type 0 = λ k v. said_in t v.value.name ≡ n in
    let No : ℕ → Placed Variable → Type 0 = λ k v. said_in t v.value.name ≡ n → ⊥ in
    subst (FirstRow Yes No us) is
    (first_row Yes No us c.find.new.self _ c.find.result c.find.ensures.ran (YieldsList-from_slice us (search (rules, tests))) (search (rules, tests)) (λ x f k. search (rules, tests)) (λ x f k. search (rules, tests)))

pub returns-in-Some : goal.returns-in-Some
returns-in-Some c = λ at vs a d.
    let r = c.args.self.now in
    let t = r.of.text.now in
    let us = c.args.variables.now in
    let n = said_in t c.args.name in
    let i = c.in-Some.field-0-0 in
    let u = c.in-Some.row.now in
    let w = row_found (goal.at.returns-in-Some c).After-find _ c.in-Some.is in
    let s = split_row variable (in_variable t) at us vs a i u w.1 w.2 in
    row_right r.of.path.now t (told_outputs r) r.digits.now n at us vs i u s w.0 (c.is_right.ensures.0 c.if-is_right.true)

pub returns-in-Some-2 : goal.returns-in-Some-2
returns-in-Some-2 c = λ at vs a d.
    let r = c.args.self.now in
    let t = r.of.text.now in
    let us = c.args.variables.now in
    let n = said_in t c.args.name in
    let i = c.in-Some.field-0-0 in
    let u = c.in-Some.row.now in
    let w = row_found (goal.at.returns-in-Some-2 c).After-find _ c.in-Some.is in
    let s = split_row variable (in_variable t) at us vs a i u w.1 w.2 in
    subst (VariableTold r.of.path.now (told_outputs r) r.digits.now at vs n) (ap Some (sym c.of_row.ensures))
    (row_wrong r.of.path.now t (told_outputs r) r.digits.now n at us vs i u s d w.0 (λ y. false≢true (sym c.if-is_right.false ∙ c.is_right.ensures.1 y)))

pub returns-in-None : goal.returns-in-None
returns-in-None c = λ at vs a d.
    let r = c.args.self.now in
    let t = r.of.text.now in
    let us = c.args.variables.now in
    let n = said_in t c.args.name in
    let w = row_found (goal.at.returns-in-None c).After-find _ c.in-None.is in
    subst (VariableTold r.of.path.now (told_outputs r) r.digits.now at vs n) (ap Some (sym c.of_list.ensures))
    (no_row r.of.path.now t (told_outputs r) r.digits.now n at us vs
    (clean_all variable (in_variable t) (Unnamed n) Environment at us vs (length us) (omega arith) a
    (clean_before variable (in_variable t) at us vs a (Unnamed n) Environment (λ k v. said_in t v.value.name ≡ n → ⊥)
    (λ k v s other e. other (name_there r.of.path.now t (told_outputs r) r.digits.now n at us vs k v s ∙ e)) (length us) (omega arith) w)))
