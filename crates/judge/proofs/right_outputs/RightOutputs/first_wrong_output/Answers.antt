use Rattle.std.proofs.Common.{◌≡◌, ◌∙◌, ℕ, Bor, Option, [], length, Some, subst, sym, ap, arith, rules, tests}
use Rattle.std.specs.ControlFlow.{continue_value}
use Rattle.std.proofs.lemmas.Iterator.{YieldsList-from_slice}
use Rattle.aterm.specs.Files.{output, in_output}
use Rattle.aterm.specs.Grammar.{meaning}
use Rattle.aterm.specs.declared.file.Output.{Output}
use Rattle.aterm.specs.declared.rows.Placed.{Placed}
use Rattle.derivation.specs.Asked.{First, rows_at}
use Rattle.derivation.specs.declared.field.Field.TheVariants.{Outputs}
use Rattle.derivation.proofs.Scan.{FirstRow, found, clean_all, first_row, split_row, clean_before}
use Rattle.judge.specs.Stated.{Told}
use Rattle.judge.proofs.Stating.{StatesRight, right_there, right_back}
use Rattle.judge.proofs.right_outputs.RightOutputs.first_wrong_output.Goals as goal
use Rattle.judge.proofs.right_outputs.RightOutputs.first_wrong_output.Goals.{After-find}

-- the first row that states another path, or that each states the right one
row_found : (c : After-find) (o : Option (ℕ × Bor (Placed Output))) → c.find.result ≡ o → FirstRow (λ k v. StatesRight c.args.self.now v → ⊥) (λ k v. StatesRight c.args.self.now v) c.args.rows.now o
row_found c o is =
    let r = c.args.self.now in
    let vs = c.args.rows.now in
    subst (FirstRow (λ k v. StatesRight r v → ⊥) (λ k v. StatesRight r v) vs) is
    (first_row (λ k v. StatesRight r v → ⊥) (λ k v. StatesRight r v) vs c.find.new.self _ c.find.result c.find.ensures.ran (YieldsList-from_slice vs (search (rules, tests))) (search (rules, tests)) (λ x f k. search (rules, tests)) (λ x f k. search (rules, tests)))

pub returns-in_err-i : goal.returns-in_err-i
returns-in_err-i c = λ from xs a.
    let r = c.args.self.now in
    let t = r.of.text.now in
    let vs = c.args.rows.now in
    let w = row_found (goal.at.returns-in_err-i c).After-find _ (c.branch-i.ensures ∙ ap continue_value c.in_err-i.is) in
    subst (First (λ e. Told r (meaning e.1.0) (meaning e.1.1.0)) (rows_at output Outputs from [] xs)) (sym c.from_residual.ensures)
    (clean_all output (in_output t) (λ ys x. Told r (meaning x.0) (meaning x.1.0)) Outputs from vs xs (length vs) (omega arith) a
    (clean_before output (in_output t) from vs xs a (λ ys x. Told r (meaning x.0) (meaning x.1.0)) Outputs (λ k v. StatesRight r v) (right_there r from vs xs) (length vs) (omega arith) w))

pub returns : goal.returns
returns c = λ from xs a.
    let r = c.args.self.now in
    let t = r.of.text.now in
    let vs = c.args.rows.now in
    let i = c.in_ok-i.i in
    let v = c.in_ok-i.row.now in
    let w = row_found (goal.at.returns c).After-find _ (c.branch-i.ensures ∙ ap continue_value c.in_ok-i.is) in
    let s = split_row output (in_output t) from vs xs a i v w.1 w.2 in
    subst (First (λ e. Told r (meaning e.1.0) (meaning e.1.1.0)) (rows_at output Outputs from [] xs)) (ap Some (sym c.of_row.ensures))
    (found output (in_output t) (λ ys x. Told r (meaning x.0) (meaning x.1.0)) Outputs from vs xs i v s
    (clean_before output (in_output t) from vs xs a (λ ys x. Told r (meaning x.0) (meaning x.1.0)) Outputs (λ k v. StatesRight r v) (right_there r from vs xs) i (omega (arith, w.1)) w.3)
    (λ y. w.0 (right_back r from vs xs i v s y))).0
