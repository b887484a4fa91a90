use Rattle.std.proofs.Common.{T, ◌⊎◌, inl, inr, ⊎_elim}
use Rattle.aterm.specs.Files.{output, in_output}
use Rattle.derivation.specs.Questions.{FixedFile, settled, blank, output_rows}
use Rattle.derivation.proofs.Scan.{each_as}
use Rattle.derivation.proofs.Held.{decides_is}
use Rattle.derivation.proofs.Files.{first_like, outputs_only}
use Rattle.derivation.proofs.file.Asked.fixed.Goals as goal

pub returns : goal.returns
returns c = λ x h.
    let o = each_as output (in_output c.args.self.now.text.now) 8 x.0 c.as_slice-outputs.ensures h.0 in
    let fixed = c.is_fixed-fixed.result in
    let d = c.is_fixed-fixed.ensures 8 x.0 o in
    outputs_only x (settled x.0) tt (λ e. tt) (λ e. tt) (λ e. tt) c.spot_of_no.result
    (first_like (λ e. T fixed ⊎ blank e.1) (λ e. FixedFile x.0 ⊎ blank e.1)
    (λ e. ⊎_elim (λ t. inl (d.0 ((decides_is fixed).1 t))) inr)
    (λ e. ⊎_elim (λ f. inl ((decides_is fixed).0 (d.1 f))) inr)
    (output_rows x) c.spot_of_no.result (c.spot_of_no.ensures 8 x.0 o))
