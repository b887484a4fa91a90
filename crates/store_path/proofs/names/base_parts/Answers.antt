use Rattle.std.proofs.Common.{◌≡◌, ◌++◌, [], ◌∷◌, drop, sym, ap, ◌∙◌, subst, Some, None, take-append-drop}
use Rattle.std.specs.List.{ContainsAt as Has, AllByRecursion}
use Rattle.std.proofs.lemmas.Bool.Decides.{Decides-eqb, not_from_Decides}
use Rattle.std.proofs.lemmas.Slice.Eq.{strip_prefix_is}
use Rattle.store_path.specs.Names.{Name, digits_32}
use Rattle.store_path.proofs.Paths.{based_digits, based_name, based_tail}
use Rattle.store_path.proofs.names.base_parts.Goals as goal
use Rattle.store_path.proofs.names.base_parts.Goals.{else-all_in-via-then-all_in+else-is_name, else-all_in-via-else-all_in}

pub returns-in_err-name : goal.returns-in_err-name
returns-in_err-name c =
    let s = c.args.s.now in
    let tail = c.in_ok-digits.tail.now in
    let none = strip_prefix_is Decides-eqb tail (45 ∷ []) None c.in_err-name.ensures.cases in
    rw c.from_residual-in_err-name.ensures (λ b. none (drop 33 s) (c.in_ok-digits.ensures.cases.2 ∙ based_tail s b))

pub returns-then-is_name : goal.returns-then-is_name
returns-then-is_name c =
    let s = c.args.s.now in
    let cut = c.in_ok-digits.ensures.cases in
    let digits = c.in_ok-digits.digits.now in
    let tail = c.in_ok-digits.tail.now in
    let name = c.in_ok-name.name.now in
    let hyphen : tail ≡ 45 ∷ name = strip_prefix_is Decides-eqb tail (45 ∷ []) (Some c.in_ok-name.name) c.in_ok-name.ensures.cases in
    record {
      whole = sym (take-append-drop 32 s) ∙ (λ i. sym cut.1 i ++ sym cut.2 i) ∙ ap (λ l. digits ++ l) hyphen;
      long = cut.3;
      each = c.all_in.ensures.0 c.if-all_in.true;
      named = c.is_name.ensures.0 c.if-is_name.true;
    }

pub returns-else-all_in : goal.returns-else-all_in
returns-else-all_in c b =
    let s = c.args.s.now in
    let cut = c.in_ok-digits.ensures.cases in
    let tail = c.in_ok-digits.tail.now in
    let name = c.in_ok-name.name.now in
    let hyphen : tail ≡ 45 ∷ name = strip_prefix_is Decides-eqb tail (45 ∷ []) (Some c.in_ok-name.name) c.in_ok-name.ensures.cases in
    let same : drop 33 s ≡ name = sym (ap (drop 1) (cut.2 ∙ based_tail s b)) ∙ ap (drop 1) hyphen in
    elim c.else-all_in.branch [
      | else-all_in-via-then-all_in+else-is_name w ↦ not_from_Decides _ w.is_name.ensures w.if-is_name.false (subst Name same (based_name s b))
      | else-all_in-via-else-all_in w ↦ not_from_Decides _ c.all_in.ensures w.if-all_in.false (subst (AllByRecursion (Has digits_32)) (sym cut.1) (based_digits s b))
    ]
