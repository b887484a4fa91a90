-- What an image that has opened holds.
use Rattle.std.proofs.Common.{◌≡◌, ℕ, ◌+◌, ◌*◌, ◌<◌, ◌≤◌, List, [], ◌∷◌, length, drop, sym, refl, ap, subst, arith}
use mathlib.Core.Logic.{∥∥₁_elim}
use native.Mathlib.Bridge.{le_prop}
use Rattle.std.proofs.lemmas.List.{length-take}
use Rattle.image.specs.Layout.{link, text_in, text_length, text_offset}
use Rattle.image.specs.Opening.{Inside, Opens}
use Rattle.image.proofs.Chains.{chain_few}

four_zeros : Opens (0 ∷ 0 ∷ 0 ∷ 0 ∷ []) 0
unfolding link
four_zeros = record {
  sized = record { least = omega arith; most = omega arith };
  slotted = record { few = omega arith; inside = omega arith };
  chained = record { ends = refl; good = λ m h. absurd (omega arith) };
  inside = λ m h. absurd (omega arith);
  named = λ m h. absurd (omega arith);
  different = λ m h. absurd (omega arith);
}

pub opens_empty : (img : List ℕ) (n : ℕ) → img ≡ 0 ∷ 0 ∷ 0 ∷ 0 ∷ [] → n ≡ 0 → Opens img n
opens_empty img n is none = subst (λ (k : ℕ). Opens img k) (sym none) (subst (λ (i : List ℕ). Opens i 0) (sym is) four_zeros)

module _ (img : List ℕ) (n : ℕ) (opens : ∥ Opens img n ∥₁) where
  -- an order that follows from the image's opening
  known : (a b : ℕ) → (Opens img n → a ≤ b) → a ≤ b
  known a b f = ∥∥₁_elim opens (le_prop {n = a} {m = b}) f

  pub files_few : n ≤ 256
  files_few = known n 256 (λ o. omega (arith, chain_few img n o.chained, o.slotted.few))

  module _ (m slot : ℕ) (h : m < n) (is : slot ≡ link img m) where
    pub slot_some : 0 < slot
    slot_some = known 1 slot (λ o. omega (arith, (o.chained.good m h).some))

    pub slot_within : 4 + 16 * slot ≤ length img
    slot_within = known (4 + 16 * slot) (length img) (λ o. omega (arith, (o.chained.good m h).within, o.slotted.inside))

    pub slot_inside : Inside img slot
    slot_inside = subst (Inside img) (sym is) (record {
      path = known _ _ (λ o. (o.inside m h).path);
      text = known _ _ (λ o. (o.inside m h).text);
      short = known _ _ (λ o. (o.inside m h).short);
    })

pub text_short : (img : List ℕ) (i : ℕ) (text : List ℕ) → text ≡ text_in img i → Inside img i → length text ≤ 262144
unfolding text_in
text_short img i text is inside =
    omega (arith, ap length is, length-take (text_length img i) (drop (text_offset img i) img), inside.short)
