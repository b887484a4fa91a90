-- The questions on one file, list by list: what it is for a tree to pass them all.
use Rattle.std.proofs.Common.{◌≡◌, ℕ, ◌≤◌, ◌⊎◌, List, [], ◌∷◌, ◌++◌, length, None, inl, inr}
use Rattle.std.proofs.ByRecursion.{All-append}
use Rattle.std.specs.List.{AllByRecursion}
use Rattle.aterm.specs.Files.{output, input, variable, derivation}
use Rattle.aterm.specs.Grammar.{Tree, string, raw}
use Rattle.derivation.proofs.Files.{outs, ins, srcs, vars}
use Rattle.derivation.proofs.Plain.{all_first, all_second}
use Rattle.derivation.specs.Asked.{Throughout}
use Rattle.derivation.specs.Judgement.{Answer}
use Rattle.derivation.specs.Questions.{Entry, all_outputs, output_row, input_row, source_row, variable_row, entries, named, present, formed_output, formed_input, formed_source, formed, different_output, different_input, different_source, different_variable, different, FixedFile, blank, settled, output_name, short}
use Rattle.derivation.specs.declared.question.Question.{Question}
use Rattle.derivation.specs.declared.question.Question.TheVariants.{Present, Formed, Different, Fixed, Short}
use Rattle.derivation.specs.declared.field.Field.TheVariants.{Outputs, Inputs, Sources, Environment}
use Rattle.derivation.specs.declared.spot.Spot.{Spot}
use Rattle.file_meaning.proofs.Lists.{throughout, tagged_all, each_row, rows_each}

-- a question to every entry of a tree, as questions to its lists
record Split (Y : Entry → Type 0) (x : Tree derivation) : Type 0 where
  whole : Y (all_outputs x.0)
  outputs : Throughout (λ zs o. Y (output_row (zs, o))) [] x.0
  inputs : Throughout (λ zs i. Y (input_row (zs, i))) [] x.1.0
  sources : Throughout (λ zs s. Y (source_row (zs, s))) [] x.1.1.0
  variables : Throughout (λ zs v. Y (variable_row (zs, v))) [] x.1.1.1.1.1.1

module _ (Y : Entry → Type 0) (x : Tree derivation) where
  abbrev P : Spot × Entry → Type 0
  P e = Y e.1

  split : AllByRecursion P (entries x) → Split Y x
  split a =
      let after : AllByRecursion P (ins x ++ (srcs x ++ vars x)) = all_second P (outs x) (ins x ++ (srcs x ++ vars x)) a.1 in
      let rest : AllByRecursion P (srcs x ++ vars x) = all_second P (ins x) (srcs x ++ vars x) after in
      record {
        whole = a.0;
        outputs = throughout output Outputs output_row Y _ [] x.0 (all_first P (outs x) (ins x ++ (srcs x ++ vars x)) a.1);
        inputs = throughout input Inputs input_row Y _ [] x.1.0 (all_first P (ins x) (srcs x ++ vars x) after);
        sources = throughout string Sources source_row Y _ [] x.1.1.0 (all_first P (srcs x) (vars x) rest);
        variables = throughout variable Environment variable_row Y _ [] x.1.1.1.1.1.1 (all_second P (srcs x) (vars x) rest);
      }

  join : Split Y x → AllByRecursion P (entries x)
  join s = (
    s.whole,
    All-append P (outs x) (ins x ++ (srcs x ++ vars x)) (tagged_all output Outputs output_row Y _ [] x.0 s.outputs)
        (All-append P (ins x) (srcs x ++ vars x) (tagged_all input Inputs input_row Y _ [] x.1.0 s.inputs)
        (All-append P (srcs x) (vars x) (tagged_all string Sources source_row Y _ [] x.1.1.0 s.sources) (tagged_all variable Environment variable_row Y _ [] x.1.1.1.1.1.1 s.variables))),
  )

-- every row is fixed by the whole, or is blank: the whole is fixed, or all are blank
either : {X : Type 0} (F : Type 0) (B : X → Type 0) (xs : List X) → AllByRecursion (λ x. F ⊎ B x) xs → F ⊎ AllByRecursion B xs
either F B [] a = inr tt
either F B (x ∷ xs) a = one a.0 (either F B xs a.1)
  where
    one : F ⊎ B x → F ⊎ AllByRecursion B xs → F ⊎ AllByRecursion B (x ∷ xs)
    one (inl f) r = inl f
    one (inr b) (inl f) = inl f
    one (inr b) (inr r) = inr (b, r)

neither : {X : Type 0} (F : Type 0) (B : X → Type 0) (xs : List X) → F ⊎ AllByRecursion B xs → AllByRecursion (λ x. F ⊎ B x) xs
neither F B [] r = tt
neither F B (x ∷ xs) (inl f) = (inl f, neither F B xs (inl f))
neither F B (x ∷ xs) (inr b) = (inr b.0, neither F B xs (inr b.1))

pub record Passes (path : List ℕ) (x : Tree derivation) : Type 0 where
  pub some : x.0 ≡ [] → ⊥
  pub names : AllByRecursion (named []) x.1.0
  pub outputs : AllByRecursion (formed_output []) x.0
  pub inputs : AllByRecursion (formed_input []) x.1.0
  pub sources : AllByRecursion (formed_source []) x.1.1.0
  pub new_outputs : Throughout different_output [] x.0
  pub new_inputs : Throughout different_input [] x.1.0
  pub new_sources : Throughout different_source [] x.1.1.0
  pub new_variables : Throughout different_variable [] x.1.1.1.1.1.1
  pub fixed : FixedFile x.0 ⊎ AllByRecursion blank x.0
  pub brief : AllByRecursion (λ o. length (output_name path (raw o.0)) ≤ 211) x.0

anything : {X : Type 0} (ys xs : List X) → Throughout (λ _ _. Unit {0}) ys xs
anything ys [] = tt
anything ys (x ∷ xs) = (tt, anything (ys ++ x ∷ []) xs)

pub passes : (path : List ℕ) (x : Tree derivation) → ((q : Question) → Answer path x q None) → Passes path x
passes path x a =
    let p = split present x (a Present) in
    let f = split formed x (a Formed) in
    let d = split different x (a Different) in
    let s = split (settled x.0) x (a Fixed) in
    let n = split (short path) x (a Short) in
    record {
      some = p.whole;
      names = each_row (named []) [] x.1.0 p.inputs;
      outputs = each_row (formed_output []) [] x.0 f.outputs;
      inputs = each_row (formed_input []) [] x.1.0 f.inputs;
      sources = each_row (formed_source []) [] x.1.1.0 f.sources;
      new_outputs = d.outputs;
      new_inputs = d.inputs;
      new_sources = d.sources;
      new_variables = d.variables;
      fixed = either (FixedFile x.0) blank x.0 (each_row (λ o. FixedFile x.0 ⊎ blank o) [] x.0 s.outputs);
      brief = each_row (λ o. length (output_name path (raw o.0)) ≤ 211) [] x.0 n.outputs;
    }

pub answers : (path : List ℕ) (x : Tree derivation) → Passes path x → (q : Question) → Answer path x q None
answers path x p Present = join present x (record { whole = p.some; outputs = anything [] x.0; inputs = rows_each (named []) [] x.1.0 p.names; sources = anything [] x.1.1.0; variables = anything [] x.1.1.1.1.1.1 })
answers path x p Formed = join formed x (record { whole = tt; outputs = rows_each (formed_output []) [] x.0 p.outputs; inputs = rows_each (formed_input []) [] x.1.0 p.inputs; sources = rows_each (formed_source []) [] x.1.1.0 p.sources; variables = anything [] x.1.1.1.1.1.1 })
answers path x p Different = join different x (record { whole = tt; outputs = p.new_outputs; inputs = p.new_inputs; sources = p.new_sources; variables = p.new_variables })
answers path x p Fixed = join (settled x.0) x (record { whole = tt; outputs = rows_each (λ o. FixedFile x.0 ⊎ blank o) [] x.0 (neither (FixedFile x.0) blank x.0 p.fixed); inputs = anything [] x.1.0; sources = anything [] x.1.1.0; variables = anything [] x.1.1.1.1.1.1 })
answers path x p Short = join (short path) x (record { whole = tt; outputs = rows_each (λ o. length (output_name path (raw o.0)) ≤ 211) [] x.0 p.brief; inputs = anything [] x.1.0; sources = anything [] x.1.1.0; variables = anything [] x.1.1.1.1.1.1 })
