use Rattle.std.proofs.Common.{◌≡◌, Decides, ap, ◌∙◌, subst, map, rules, tests}
use Rattle.std.proofs.lemmas.Iterator.{cases_from_any, YieldsList-from_slice}
use Rattle.aterm.specs.Meaning.{cut}
use Rattle.aterm.specs.declared.part.Span.{Span}
use Rattle.hash_modulo.specs.Sets.{Bytes}
use Rattle.links.specs.Owners.{OwnsOutput}
use Rattle.links.proofs.Names.{decides_named}
use Rattle.links.proofs.owning.has_output.Goals as goal

pub returns : goal.returns
returns c = record {
  right = λ os o.
      let text = c.args.owner.now in
      let name = c.bytes-name.result.now in
      let spans = c.as_slice.result.now in
      let at = λ (s : Span). cut text s.start s.«end» in
      let r = cases_from_any c.any.new.self _ c.any.result (λ (s : Span). at s ≡ name) (λ (s : Span). at s ≡ name → ⊥) c.any.ensures.ran (YieldsList-from_slice spans c.iter.ensures.rest)
      (λ x q k. search (rules, tests)) (λ x q k. (search (rules, tests), search (rules, tests))) in
      subst (λ (n : Bytes). Decides c.any.result (OwnsOutput os n)) c.bytes-name.ensures (decides_named at spans os name (ap (map at) c.as_slice.ensures ∙ o) c.any.result r);
}
