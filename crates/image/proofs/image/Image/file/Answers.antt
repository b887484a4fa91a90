use Rattle.std.proofs.Common.{◌≡◌, ℕ, ◌-◌, List, Bor, sym, ap, ◌∙◌, subst, arith}
use Rattle.image.specs.Layout.{link, path_in, text_in}
use Rattle.image.specs.Opening.{Inside}
use Rattle.image.proofs.Opened.{slot_inside, text_short}
use Rattle.image.proofs.image.Image.file.Goals as goal
use Rattle.image.proofs.image.Image.file.Goals.{In_ok-slot}

-- the slot's parts are inside, since the image has opened
inside : (c : In_ok-slot) → Inside c.in_ok-slot.slot.bytes.now c.in_ok-slot.slot.index
inside c =
    let s = c.args.self.now in
    let e = c.in_ok-slot.ensures in
    subst (λ (b : Bor (List ℕ)). Inside b.now c.in_ok-slot.slot.index) (sym e.1) (slot_inside s.chain.bytes.now s.chain.count s.opens _ _ e.0 e.2)

pub returns : goal.returns
returns c =
    let img = c.args.self.now.chain.bytes.now in
    let slot = c.in_ok-slot.slot in
    let e = c.in_ok-slot.ensures in
    let is : slot.index ≡ link img (c.args.number - 1) = e.2 ∙ ap (link img) (omega (arith, c.in_ok-checked_sub.ensures)) in (
      omega (arith, c.in_ok-checked_sub.ensures),
      omega (arith, c.in_ok-checked_sub.ensures, e.0),
      c.named_path.ensures ∙ ap (λ (b : Bor (List ℕ)). path_in b.now slot.index) e.1 ∙ ap (path_in img) is,
      c.named_text.ensures ∙ ap (λ (b : Bor (List ℕ)). text_in b.now slot.index) e.1 ∙ ap (text_in img) is,
      text_short slot.bytes.now slot.index c.named_text.result.now c.named_text.ensures (inside (goal.at.returns c).In_ok-slot),
    )
