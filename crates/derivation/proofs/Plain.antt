-- Where question 14 is answered yes, the bytes of fields 1 to 3 are what they mean.
use Rattle.std.proofs.Common.{List, [], ◌∷◌, ◌++◌, None, sym}
use Rattle.std.specs.List.{AllByRecursion}
use Rattle.aterm.specs.Grammar.{Tree, string}
use Rattle.aterm.specs.Files.{output, input, derivation}
use Rattle.derivation.specs.declared.field.Field.TheVariants.{Outputs, Inputs, Sources}
use Rattle.derivation.specs.declared.spot.Spot.{Spot}
use Rattle.derivation.specs.Asked.{First, Throughout}
use Rattle.derivation.specs.Questions.{Entry, output_row, input_row, source_row, tagged, output_rows, input_rows, source_rows, entries, formed, formed_output, formed_name, formed_input, formed_source}
use Rattle.derivation.specs.Plain.{AsItStands, PlainOutput, PlainInput, PlainFields}
use Rattle.derivation.proofs.Files.{outs, ins, srcs, vars}
use Rattle.derivation.proofs.Scan.{to_throughout}
use Rattle.derivation.proofs.Meant.{plain_means}

pub all_first : {X : Type 0} (P : X → Type 0) (a b : List X) → AllByRecursion P (a ++ b) → AllByRecursion P a
all_first P [] b h = tt
all_first P (x ∷ a) b h = (h.0, all_first P a b h.1)

pub all_second : {X : Type 0} (P : X → Type 0) (a b : List X) → AllByRecursion P (a ++ b) → AllByRecursion P b
all_second P [] b h = h
all_second P (x ∷ a) b h = all_second P a b h.1

untagged : {E : Type 0} (Yes : Entry → Type 0) (f : E → Entry) (rows : List (Spot × E)) → AllByRecursion (λ e. Yes e.1) (tagged f rows) → AllByRecursion (λ e. Yes (f e.1)) rows
untagged Yes f [] a = tt
untagged Yes f (e ∷ rows) a = (a.0, untagged Yes f rows a.1)

from_each : {X : Type 0} (Yes : List X → X → Type 0) (P : X → Type 0) → ((ys : List X) (x : X) → Yes ys x → P x) → (ys xs : List X) → Throughout Yes ys xs → AllByRecursion P xs
from_each Yes P h ys [] a = tt
from_each Yes P h ys (x ∷ xs) a = (h ys x a.0, from_each Yes P h (ys ++ x ∷ []) xs a.1)

plain_output : (ys : List (Tree output)) (x : Tree output) → formed_output ys x → PlainOutput x
plain_output ys x f = record {
  name = sym (plain_means x.0 f.0.0.0);
  path = sym (plain_means x.1.0 f.0.1.0);
  algorithm = sym (plain_means x.1.1.0 f.1.0);
  hash = sym (plain_means x.1.1.1 f.1.1);
}

plain_input : (ys : List (Tree input)) (x : Tree input) → formed_input ys x → PlainInput x
plain_input ys x f = record {
  path = sym (plain_means x.0 f.0.0.0);
  names = from_each formed_name AsItStands (λ ns n g. sym (plain_means n g.0)) [] x.1 f.1;
}

plain_source : (ys : List (Tree string)) (x : Tree string) → formed_source ys x → AsItStands x
plain_source ys x f = sym (plain_means x f.0)

module _ (x : Tree derivation) (a : First formed (entries x) None) where
  abbrev P : Spot × Entry → Type 0
  P e = formed e.1

  pub plain_fields : PlainFields x
  plain_fields =
      let os : AllByRecursion P (outs x) = all_first P (outs x) (ins x ++ (srcs x ++ vars x)) a.1 in
      let after : AllByRecursion P (ins x ++ (srcs x ++ vars x)) = all_second P (outs x) (ins x ++ (srcs x ++ vars x)) a.1 in
      let is : AllByRecursion P (ins x) = all_first P (ins x) (srcs x ++ vars x) after in
      let ss : AllByRecursion P (srcs x) = all_first P (srcs x) (vars x) (all_second P (ins x) (srcs x ++ vars x) after) in
      record {
        outputs = from_each formed_output PlainOutput plain_output [] x.0 (to_throughout output formed_output Outputs 8 [] x.0 (untagged formed output_row (output_rows x) os));
        inputs = from_each formed_input PlainInput plain_input [] x.1.0 (to_throughout input formed_input Inputs _ [] x.1.0 (untagged formed input_row (input_rows x) is));
        sources = from_each formed_source AsItStands plain_source [] x.1.1.0 (to_throughout string formed_source Sources _ [] x.1.1.0 (untagged formed source_row (source_rows x) ss));
      }
