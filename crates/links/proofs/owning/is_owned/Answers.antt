use Rattle.std.proofs.Common.{◌≡◌, ℕ, map, Some, Option, option_copied, sym, refl, ◌∙◌, subst, Bor}
use Rattle.std.proofs.lemmas.Bool.Decides.{Decides-like}
use Rattle.aterm.specs.Grammar.{meaning}
use Rattle.derivation.specs.Judgement.{IsFileFault}
use Rattle.hash_modulo.specs.Sets.{Bytes}
use Rattle.links.specs.Owners.{NamesKept, OutputsNamed, Stands}
use Rattle.links.specs.Sets.{set_of, Found}
use Rattle.links.specs.declared.output_names.OutputNames.{OutputNames}
use Rattle.links.proofs.Ownership.{owned_unread, owned_from, owned_to}
use Rattle.links.proofs.owning.is_owned.Goals as goal

module _ (img : Bytes) (n number : ℕ) (path text : Bytes) (s : Stands img n number path text) (p : Bytes) where
  same : Found img n p (Some number) → path ≡ p
  same found = sym s.named ∙ found.2

  there : path ≡ p → set_of img n p ≡ Some text
  there e = subst (λ (q : Bytes). set_of img n q ≡ Some text) e s.there

pub returns-in-Some : goal.returns-in-Some
returns-in-Some c = λ img path n number s kept ns names plain p asked.
    let text = c.args.owner.now in
    let v = c.in-Some.outputs.now in
    let e = same img n number path text s p asked in
    let at = there img n number path text s p e in
    let here : OutputsNamed path text v = subst (λ (o : Option (Bor OutputNames)). NamesKept path text (option_copied o)) c.in-Some.is kept in
    let k : OutputsNamed p text v = subst (λ (q : Bytes). OutputsNamed q text v) e here in
    Decides-like c.has_outputs.result (owned_from (set_of img n) p text at k.file k.accepted ns plain) (owned_to (set_of img n) p text at k.file k.accepted ns plain) (c.has_outputs.ensures k.accepted.reading.tree.0 ns k.outputs names)

pub returns-in-None : goal.returns-in-None
returns-in-None c = λ img path n number s kept ns names plain p asked.
    let text = c.args.owner.now in
    let e = same img n number path text s p asked in
    let f = subst (λ (o : Option (Bor OutputNames)). NamesKept path text (option_copied o)) c.in-None.is kept in
    let fault = subst (λ (q : Bytes). IsFileFault q text f.0) e f.1 in
    (λ _. owned_unread (set_of img n) p text (there img n number path text s p e) f.0 fault (map meaning ns), λ _. refl)
