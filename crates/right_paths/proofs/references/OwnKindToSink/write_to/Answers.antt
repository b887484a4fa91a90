use Rattle.std.proofs.Common.{◌≡◌, ℕ, List, ◌∷◌, ap, ◌∙◌}
use Rattle.std.specs.List.{flat_map}
use Rattle.aterm.specs.Tables.{rows_of}
use Rattle.aterm.specs.declared.file.Derivation.{Derivation}
use Rattle.aterm.specs.declared.file.Input.{Input}
use Rattle.aterm.specs.declared.part.Span.{Span}
use Rattle.aterm.specs.declared.rows.Placed.{Placed}
use Rattle.canonical.specs.Files.{derivation_value}
use Rattle.canonical.proofs.Leading.{lead_more, lead_stop, lead_end}
use Rattle.sink.proofs.Writing.{then, as_text, done}
use Rattle.hash_modulo.specs.Sets.{Bytes}
use Rattle.right_paths.specs.References.{references_of, references_in, references_left}
use Rattle.right_paths.proofs.references.OwnKindToSink.write_to.Goals as goal

abbrev listed : List Bytes → Bytes
listed rs = flat_map (λ p. 58 ∷ p) rs

-- the references of a file are those in its rows
of_rows : (t : List ℕ) (v : Derivation) {inputs : List (Placed Input)} {sources : List (Placed Span)} → inputs ≡ rows_of v.inputs
    → sources ≡ rows_of v.sources → listed (references_in t inputs sources) ≡ listed (references_of (derivation_value t v))
of_rows t v {inputs} {sources} p q =
    ap (λ (is : List (Placed Input)). listed (references_in t is sources)) p
    ∙ ap (λ (ss : List (Placed Span)). listed (references_in t (rows_of v.inputs) ss)) q

pub loop-path-preserved : goal.loop-path-preserved
loop-path-preserved g c = lead_more c.loop-path.invariant (ap listed c.in-Some.ensures.steps) c.in_ok-write_to.ensures

pub returns-in_err-write_to : goal.returns-in_err-write_to
returns-in_err-write_to g c =
    let s = c.args.self.now.of in
    then c.in_ok-write.ensures.writes
    (as_text (ap (λ r. listed (references_left r)) c.into_iter-path-iterator.ensures.into_iter_gives ∙ of_rows s.text.now s.file.now c.as_slice.ensures c.as_slice-2.ensures)
    (lead_stop c.loop-path.invariant (listed (references_left c.next.new.self)) (ap listed c.in-Some.ensures.steps) c.in_err-write_to.ensures c.from_residual-in_err-write_to.ensures.0))

pub returns : goal.returns
returns g c =
    let s = c.args.self.now.of in
    then c.in_ok-write.ensures.writes
    (as_text (ap (λ r. listed (references_left r)) c.into_iter-path-iterator.ensures.into_iter_gives ∙ of_rows s.text.now s.file.now c.as_slice.ensures c.as_slice-2.ensures)
    (lead_end c.loop-path.invariant (ap listed c.in-None.ensures.steps.0) (done _ (g.S.Sink.wraps c.loop-path.sink))))
