use Rattle.std.proofs.Common.{ℕ, List, Bor, sym, subst, rules}
use Rattle.image.specs.Chain.{Sized, Slotted, Chained}
use Rattle.image.specs.Opening.{Refused}
use Rattle.image.proofs.image.Image.open.Goals as goal
use Rattle.image.proofs.image.Image.open.Goals.{In_ok-chain}

-- what was found of the bytes holds of the chain's
record Found (img : List ℕ) (n : ℕ) : Type 0 where
  sized : Sized img
  slotted : Slotted img
  chained : Chained img n

found : (c : In_ok-chain) → Found c.in_ok-chain.chain.bytes.now c.in_ok-chain.chain.count
found c =
    let e = c.in_ok-chain.ensures in
    let w = c.in_ok-ask_whole.ensures in
    subst (λ (b : Bor (List ℕ)). Found b.now c.in_ok-chain.chain.count) (sym e.0) (record { sized = w.0; slotted = w.1; chained = e.1 })

pub returns-in_err-ask_files : goal.returns-in_err-ask_files
returns-in_err-ask_files c =
    let f = found (goal.at.returns-in_err-ask_files c).In_ok-chain in
    let r : Refused c.args.bytes.now c.in_err-ask_files.field-0.0 =
    subst (λ (b : Bor (List ℕ)). Refused b.now c.in_err-ask_files.field-0.0) c.in_ok-chain.ensures.0 (c.in_err-ask_files.ensures f.sized f.slotted f.chained) in
    search rules

pub invariant_of-result : goal.invariant_of-result
invariant_of-result c =
    let f = found (goal.at.invariant_of-result c).In_ok-chain in
    let q = c.in_ok-ask_files.ensures in
    record { opens = ∣ record { sized = f.sized; slotted = f.slotted; chained = f.chained; inside = q.0; named = q.1; different = q.2 } ∣₁ }
