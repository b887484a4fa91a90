use Rattle.std.proofs.Common.{ℕ, false, List, ◌∷◌, ◌++◌, refl, ap, ◌∙◌}
use Rattle.std.proofs.lemmas.Bool.Decides.{not_from_Decides}
use Rattle.sink.proofs.Writing.{then, stop, as_text}
use Rattle.right_paths.specs.Views.{said_by}
use Rattle.right_paths.proofs.Naming.{name_other}
use Rattle.right_paths.proofs.names.OutputNameToSink.write_to.Goals as goal

pub returns-in_err-write-2 : goal.returns-in_err-write-2
returns-in_err-write-2 g c =
    let s = c.args.self.now in
    let out = said_by s.out in
    as_text (ap (λ (v : List ℕ). v ++ (45 ∷ out)) c.stem.ensures ∙ name_other s.path.now out (not_from_Decides false c.if-says.ensures refl))
    (then c.in_ok-write.ensures.writes (stop _ c.in_err-write-2.ensures.writes c.from_residual-in_err-write-2.ensures.0))

pub returns : goal.returns
returns g c =
    let s = c.args.self.now in
    let out = said_by s.out in
    as_text (ap (λ (v : List ℕ). v ++ (45 ∷ out)) c.stem.ensures ∙ name_other s.path.now out (not_from_Decides false c.if-says.ensures refl))
    (then c.in_ok-write.ensures.writes (then c.in_ok-write-2.ensures.writes c.write_to.ensures))
