use Rattle.std.proofs.Common.{not, Option, [], is_some, ◌∙◌, ap, ◌+◌}
use Rattle.std.specs.Option.{option_map}
use Rattle.std.proofs.lemmas.Bool.Decides.{Decides-like, Decides-at}
use Rattle.derivation.specs.declared.field.Field.TheVariants.{Outputs}
use Rattle.derivation.specs.declared.spot.Spot.{Spot}
use Rattle.derivation.specs.Asked.{field_number, rows_at}
use Rattle.derivation.proofs.Scan.{first_decides, to_throughout, from_throughout}
use Rattle.derivation.proofs.Held.{flip, is_some_map}
use Rattle.derivation.proofs.ask.all_yes.Goals as goal

pub returns : goal.returns
returns g c = λ from xs a.
    let s = g.Q.Ask.rows.shape in
    let yes = g.Q.Ask.yes c.args.ask.now in
    let r = c.is_none.result in
    let o : Option Spot = option_map (λ p. record { field = field_number Outputs; row = p.0 + 1; place = p.1.now.place }) c.first_no.result in
    Decides-like r (to_throughout s yes Outputs from [] xs) (from_throughout s yes Outputs from [] xs)
    (Decides-at r (not (is_some o)) (flip (is_some c.first_no.result) r c.is_none.ensures ∙ ap not (is_some_map _ c.first_no.result)) (first_decides (λ e. yes e.0 e.1) (rows_at s Outputs from [] xs) o (c.first_no.ensures.first Outputs from xs a)))
