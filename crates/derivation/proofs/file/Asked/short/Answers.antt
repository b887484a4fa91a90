use Rattle.std.proofs.Common.{◌≡◌, ℕ, ◌≤◌, List, length, sym, ap, ◌∙◌, subst}
use Rattle.aterm.specs.Grammar.{raw}
use Rattle.aterm.specs.Files.{output, in_output}
use Rattle.derivation.specs.Questions.{short, name_length, output_name, output_rows}
use Rattle.derivation.proofs.Scan.{each_as}
use Rattle.derivation.proofs.Held.{name_lengths}
use Rattle.derivation.proofs.Files.{first_like, outputs_only}
use Rattle.derivation.proofs.file.Asked.short.Goals as goal

pub returns : goal.returns
returns c = λ x h.
    let o = each_as output (in_output c.args.self.now.text.now) 8 x.0 c.as_slice.ensures h.0 in
    let path = c.args.self.now.path.now in
    let n = c.saturating_sub-stem.result in
    let same : (out : List ℕ) → length (output_name path out) ≡ name_length n out = λ out. name_lengths path out ∙ ap (λ k. name_length k out) (sym c.saturating_sub-stem.ensures) in
    outputs_only x (short path) tt (λ e. tt) (λ e. tt) (λ e. tt) c.spot_of_no.result
    (first_like (λ e. name_length n (raw e.1.0) ≤ 211) (λ e. length (output_name path (raw e.1.0)) ≤ 211)
    (λ e. subst (λ k. k ≤ 211) (sym (same (raw e.1.0))))
    (λ e. subst (λ k. k ≤ 211) (same (raw e.1.0)))
    (output_rows x) c.spot_of_no.result (c.spot_of_no.ensures 8 x.0 o))
