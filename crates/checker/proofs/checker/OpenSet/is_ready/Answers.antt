use Rattle.std.proofs.Common.{refl, sym, ◌∙◌, subst, Option, arith}
use Rattle.image.specs.Files.{bytes_of, files_of}
use Rattle.links.specs.Linked.{Linked}
use Rattle.links.specs.declared.link.Links.{Links}
use Rattle.checker.specs.Seen.{view_in}
use Rattle.checker.proofs.Readiness.{unread_ready, decides_ready}
use Rattle.checker.proofs.Reopened.{image_opens, all_linked}
use Rattle.checker.proofs.checker.OpenSet.is_ready.Goals as goal

pub returns-in-Some : goal.returns-in-Some
returns-in-Some c = λ there.
    let s = c.args.self.now in
    let k = c.args.file in
    let is = c.get.ensures.within there.0 (omega (arith, there.1, s.files.image.chain.few)) in
    decides_ready (view_in s) k (image_opens s.files.image) there c.in-Some.links
    (subst (λ (l : Option Links). Linked (bytes_of s.files.image) (files_of s.files.image) k l) (sym is ∙ c.in-Some.is) (all_linked s.files k there.0 there.1))
    c.are_ready.result c.are_ready.ensures

pub returns-in-None : goal.returns-in-None
returns-in-None c = λ there.
    let s = c.args.self.now in
    let k = c.args.file in
    let is = c.get.ensures.within there.0 (omega (arith, there.1, s.files.image.chain.few)) in
    let linked = subst (λ (l : Option Links). Linked (bytes_of s.files.image) (files_of s.files.image) k l) (sym is ∙ c.in-None.is) (all_linked s.files k there.0 there.1) in
    (λ e. unread_ready (view_in s) k (image_opens s.files.image) there linked, λ r. refl)
