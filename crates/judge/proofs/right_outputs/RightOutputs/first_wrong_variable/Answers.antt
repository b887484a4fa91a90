use Rattle.std.proofs.Common.{List, length, Some, None, Option, sym, ap, ◌∙◌, subst, arith, rules, tests}
use Rattle.std.specs.Iterator.Runs.{ItemsMapTo}
use Rattle.std.specs.Slice.Iter.{iter_rest}
use Rattle.aterm.specs.Files.{output, in_output}
use Rattle.aterm.specs.Grammar.{Tree, meaning}
use Rattle.aterm.specs.declared.file.Output.{Output}
use Rattle.aterm.specs.declared.file.Variable.{Variable}
use Rattle.aterm.specs.declared.rows.Placed.{Placed}
use Rattle.canonical.specs.Files.{said_in}
use Rattle.derivation.specs.declared.field.Field.TheVariants.{Outputs}
use Rattle.derivation.specs.declared.spot.Spot.{Spot}
use Rattle.derivation.proofs.Scan.{clean_all, split_row, clean_before, spot, found}
use Rattle.hash_modulo.specs.Sets.{Bytes}
use Rattle.verdict.specs.Judged.{Behind}
use Rattle.judge.specs.Stated.{StandsAt, VariableRight, VariableAsked, VariablesAsked, told_outputs}
use Rattle.judge.specs.declared.right_outputs.RightOutputs.{RightOutputs}
use Rattle.judge.proofs.Finding.{FirstMapped, first_mapped}
use Rattle.judge.proofs.Standing.{output_name_there}
use Rattle.judge.proofs.right_outputs.RightOutputs.first_wrong_variable.Goals as goal

module _ (r : RightOutputs) (us : List (Placed Variable)) (rows : List (Placed Output)) where
  abbrev Asked : Placed Output → Option Spot → Type 0
  Asked v = VariableAsked r us (said_in r.of.text.now v.value.name)

  told : (o : Option Spot) → FirstMapped Asked rows o → VariablesAsked r us rows o
  told None w = λ at vs a d from xs b.
      let t = r.of.text.now in
      let right_of : Bytes → Type 0 = VariableRight r.of.path.now (told_outputs r) r.digits.now vs in
      clean_all output (in_output t) (λ ys x. right_of (meaning x.0)) Outputs from rows xs (length rows) (omega arith) b
      (clean_before output (in_output t) from rows xs b (λ ys x. right_of (meaning x.0)) Outputs (λ k v. Asked v None) (λ k v s said. subst right_of (output_name_there t from rows xs k v s) (said at vs a d)) (length rows) (omega arith) w)
  told (Some q) (i, v, l, there, here, before) = λ at vs a d from xs b.
      let t = r.of.text.now in
      let right_of : Bytes → Type 0 = VariableRight r.of.path.now (told_outputs r) r.digits.now vs in
      let s = split_row output (in_output t) from rows xs b i v l there in
      let said = output_name_there t from rows xs i v s in
      let told = here at vs a d in
      let clean = clean_before output (in_output t) from rows xs b (λ ys x. right_of (meaning x.0)) Outputs (λ k v. Asked v None) (λ k v p asked. subst right_of (output_name_there t from rows xs k v p) (asked at vs a d)) i (omega (arith, l)) before in
      let f = found output (in_output t) (λ ys x. right_of (meaning x.0)) Outputs from rows xs i v s clean (λ y. told.0 (subst right_of (sym said) y)) in (
        spot output (in_output t) Outputs from rows xs i v s,
        f.0,
        subst (λ (n : Bytes). StandsAt at vs n q) (said ∙ sym (ap (λ (e : Behind (Tree output)). meaning e.1.0) f.1)) told.1,
      )

pub returns : goal.returns
returns c =
    let r = c.args.self.now in
    let us = c.args.variables.now in
    let rows = c.args.rows.now in
    let h = c.find_map.ensures.runs in
    let items = subst (ItemsMapTo h.0 (λ y. y.now)) (ap iter_rest h.1 ∙ c.iter.ensures.rest) (c.iter.ensures.runs h.0 h.0.seen) in
    told r us rows c.find_map.result
    (first_mapped (Asked r us rows) rows _ _ (λ a o q k. search (rules, tests)) (λ x o k. search (rules, tests)) h.0 items c.find_map.result h.2)
