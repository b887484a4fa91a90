use Rattle.std.proofs.Common.{◌≡◌, ◌+◌, List, sym, refl, subst}
use Rattle.std.proofs.lemmas.Bool.{false≢true}
use Rattle.aterm.specs.Files.{output, variable, in_output, in_variable}
use Rattle.aterm.specs.Reads.{Each}
use Rattle.aterm.specs.Tables.{rows_of}
use Rattle.aterm.specs.declared.file.Derivation.{Derivation}
use Rattle.aterm.specs.declared.file.Output.{Output}
use Rattle.aterm.specs.declared.file.Variable.{Variable}
use Rattle.aterm.specs.declared.rows.Placed.{Placed}
use Rattle.canonical.specs.Files.{derivation_value}
use Rattle.derivation.specs.Questions.{place_7}
use Rattle.hash_modulo.specs.Sets.{Bytes}
use Rattle.verdict.specs.Judged.{wrong_path, wrong_output, wrong_variable, not_canonical, right as All-right}
use Rattle.judge.specs.Judgeable.{Judgeable}
use Rattle.judge.proofs.Judging.{at_tree, own_there, own_back, outputs_right, output_wrong, variables_right, variable_wrong}
use Rattle.judge.proofs.paths.judge_paths.Goals as goal

-- the rows that the file was read with
module _ (path text : Bytes) (file arranged : Derivation) (j : Judgeable path text file arranged) where
  outputs_held : (vs : List (Placed Output)) → vs ≡ rows_of file.outputs → Each output (in_output text) 8 vs j.tree.0
  outputs_held vs e = subst (λ (l : List (Placed Output)). Each output (in_output text) 8 l j.tree.0) (sym e) j.held.0

  variables_held : (us : List (Placed Variable)) → us ≡ rows_of file.environment → Each variable (in_variable text) (place_7 j.tree + 1) us j.tree.1.1.1.1.1.1
  variables_held us e = subst (λ (l : List (Placed Variable)). Each variable (in_variable text) (place_7 j.tree + 1) l j.tree.1.1.1.1.1.1) (sym e) j.held.1.1.1.1.1.1

pub returns-then-not-is_own : goal.returns-then-not-is_own
returns-then-not-is_own c = λ d g x e right.
    let p = c.args.sorted.path.now in
    let t = c.args.sorted.text.now in
    let m = derivation_value t c.args.sorted.file.now in
    at_tree d p t g m _ c.requires.tree x c.requires.written e
    (wrong_path (λ own. false≢true (c.if-not-is_own.ensures.1 (own_back d p g m c.args.own.now.bytes c.args.outputs.now right own))) refl)

pub returns-in-Some : goal.returns-in-Some
returns-in-Some c = λ d g x e right.
    let p = c.args.sorted.path.now in
    let t = c.args.sorted.text.now in
    let f = c.args.file.now in
    let a = c.args.sorted.file.now in
    let m = derivation_value t a in
    let o = c.args.own.now.bytes in
    let ds = c.args.outputs.now in
    let y = c.requires.tree in
    let rows = outputs_held p t f a c.requires c.as_slice-rows.result.now c.as_slice-rows.ensures in
    at_tree d p t g m _ y x c.requires.written e
    (wrong_output (own_there d p g m o ds right (c.if-not-is_own.ensures.0 refl)) c.in-Some.spot (output_wrong d p g m o ds right y c.requires.means c.in-Some.spot (c.in-Some.ensures 8 y.0 rows)) refl)

pub returns-in-Some-first_wrong_variable : goal.returns-in-Some-first_wrong_variable
returns-in-Some-first_wrong_variable c = λ d g x e right.
    let p = c.args.sorted.path.now in
    let t = c.args.sorted.text.now in
    let f = c.args.file.now in
    let a = c.args.sorted.file.now in
    let m = derivation_value t a in
    let o = c.args.own.now.bytes in
    let ds = c.args.outputs.now in
    let y = c.requires.tree in
    let rows = outputs_held p t f a c.requires c.as_slice-rows.result.now c.as_slice-rows.ensures in
    let us = variables_held p t f a c.requires c.as_slice.result.now c.as_slice.ensures in
    let w = c.in-Some-first_wrong_variable.spot in
    let z = c.in-Some-first_wrong_variable.ensures (place_7 y + 1) y.1.1.1.1.1.1 us c.requires.apart.1.1.1.1.1.1.0 8 y.0 rows in
    let first = variable_wrong d p g m o ds right y c.requires.means w z.0 z.1 z.2 in
    at_tree d p t g m _ y x c.requires.written e
    (wrong_variable (own_there d p g m o ds right (c.if-not-is_own.ensures.0 refl)) (outputs_right d p g m o ds right y c.requires.means (c.in_default.ensures 8 y.0 rows)) z.0 first.0 w first.1 refl)

pub returns-in-Some-first_difference : goal.returns-in-Some-first_difference
returns-in-Some-first_difference c = λ d g x e right.
    let p = c.args.sorted.path.now in
    let t = c.args.sorted.text.now in
    let f = c.args.file.now in
    let a = c.args.sorted.file.now in
    let m = derivation_value t a in
    let o = c.args.own.now.bytes in
    let ds = c.args.outputs.now in
    let y = c.requires.tree in
    let rows = outputs_held p t f a c.requires c.as_slice-rows.result.now c.as_slice-rows.ensures in
    let us = variables_held p t f a c.requires c.as_slice.result.now c.as_slice.ensures in
    at_tree d p t g m _ y x c.requires.written e
    (not_canonical (own_there d p g m o ds right (c.if-not-is_own.ensures.0 refl)) (outputs_right d p g m o ds right y c.requires.means (c.in_default.ensures 8 y.0 rows))
    (variables_right d p g m o ds right y c.requires.means (c.in_default-first_wrong_variable.ensures (place_7 y + 1) y.1.1.1.1.1.1 us c.requires.apart.1.1.1.1.1.1.0 8 y.0 rows))
    c.in-Some-first_difference.place (c.in-Some-first_difference.ensures 7 y m c.requires.written c.requires.held c.requires.apart c.requires.means) refl)

pub returns-in-None : goal.returns-in-None
returns-in-None c = λ d g x e right.
    let p = c.args.sorted.path.now in
    let t = c.args.sorted.text.now in
    let f = c.args.file.now in
    let a = c.args.sorted.file.now in
    let m = derivation_value t a in
    let o = c.args.own.now.bytes in
    let ds = c.args.outputs.now in
    let y = c.requires.tree in
    let rows = outputs_held p t f a c.requires c.as_slice-rows.result.now c.as_slice-rows.ensures in
    let us = variables_held p t f a c.requires c.as_slice.result.now c.as_slice.ensures in
    at_tree d p t g m _ y x c.requires.written e
    (All-right (own_there d p g m o ds right (c.if-not-is_own.ensures.0 refl)) (outputs_right d p g m o ds right y c.requires.means (c.in_default.ensures 8 y.0 rows))
    (variables_right d p g m o ds right y c.requires.means (c.in_default-first_wrong_variable.ensures (place_7 y + 1) y.1.1.1.1.1.1 us c.requires.apart.1.1.1.1.1.1.0 8 y.0 rows))
    (c.in-None.ensures 7 y m c.requires.written c.requires.held c.requires.apart c.requires.means) refl)
