-- The walk along the chain.
use Rattle.std.proofs.Common.{◌≡◌, ℕ, zero, suc, ◌+◌, ◌<◌, ◌≤◌, Bool, true, false, ◌≢◌, List, length, get_or, take, set, Decides, sym, refl, ap, ◌∙◌, subst, inl, inr, add-one, arith, length-set, below_more}
use Rattle.std.proofs.lemmas.List.{get_or_default, get_or-take, get_or-set_same, get_or-set_other, length-take-le}
use Rattle.std.proofs.lemmas.Bool.{cases_lt}
use Rattle.std.proofs.lemmas.Bool.Decides.{not_from_Decides}
use Rattle.std.specs.List.{ContainsAt as Has}
use Rattle.image.specs.Layout.{slot_count, first_index, next_index, link, holder}
use Rattle.image.specs.Chain.{Slotted, Good, Chained, BadLink}
use Rattle.image.proofs.Pigeons.{pigeons}

pub link_none : (img : List ℕ) → first_index img ≡ link img 0
unfolding link
link_none img = refl

pub link_more : (img : List ℕ) (n : ℕ) → link img (n + 1) ≡ next_index img (link img n)
unfolding link
link_more img n = rw add-one refl

pub holder_none : (img : List ℕ) → ◌≡◌ {A = ℕ} 0 (holder img 0)
unfolding holder
holder_none img = refl

pub holder_more : (img : List ℕ) (n : ℕ) → holder img (n + 1) ≡ link img n
unfolding holder
holder_more img n = rw add-one refl

-- as many good links as there are slots, and one more, cannot be
pub room : (img : List ℕ) (n : ℕ) → ((m : ℕ) → m < n → Good img m) → Good img n → n < slot_count img
room img n good here =
    elim (cases_lt n (slot_count img)) [
      | inl h ↦ h
      | inr past ↦
          let all : (m : ℕ) → m < n + 1 → Good img m = below_more (Good img) n good here in
          absurd (pigeons (slot_count img) (link img)
          (λ m h. let g = all m (omega arith) in (g.some, g.within))
          (λ l m h k e. (all m (omega arith)).fresh l h e))
    ]

-- n links have been followed, the table holds their slots, and the next index is held by `slot`
pub record Walk (img slots : List ℕ) (n slot index : ℕ) : Type 0 where
  pub wide : length slots ≡ 256
  pub good : (m : ℕ) → m < n → Good img m
  pub here : index ≡ link img n
  pub holds : slot ≡ holder img n
  pub are : (m : ℕ) → m < n → get_or slots m 0 ≡ link img m

module _ (img slots : List ℕ) (n slot index : ℕ) (few : Slotted img) (w : Walk img slots n slot index) (some : 0 < index) where
  -- the table's first n places are the slots before
  stood : n ≤ 256 → Has (take n slots) index → (m : ℕ) × (m < n) × (link img m ≡ index)
  stood small (k, h, at) =
      let long : length (take n slots) ≡ n = length-take-le n slots (omega (arith, w.wide)) in
      let below : k < n = omega arith in
      (k, below, sym (w.are k below) ∙ sym (get_or-take n slots k 0 below) ∙ at 0)

  pub next_good : n ≤ 256 → index ≤ slot_count img → (Has (take n slots) index → ⊥) → Good img n
  next_good small within new = record {
    some = subst (λ i. 0 < i) w.here some;
    within = subst (λ i. i ≤ slot_count img) w.here within;
    fresh = λ m h e.
        let long : length (take n slots) ≡ n = length-take-le n slots (omega (arith, w.wide)) in
        new (m, omega arith, λ d. get_or-take n slots m d h ∙ get_or_default slots m d 0 (omega (arith, w.wide)) ∙ w.are m h ∙ e ∙ sym w.here);
  }

  pub next_bad : n ≤ 256 → ((index ≤ slot_count img) × (Has (take n slots) index → ⊥) → ⊥) → BadLink img slot
  next_bad small not = record {
    after = n;
    good = w.good;
    goes_on = subst (λ i. 0 < i) w.here some;
    bad = λ g. not (subst (λ i. i ≤ slot_count img) (sym w.here) g.within, λ has. let s = stood small has in g.fresh s.0 s.1 (s.2 ∙ w.here));
    holds = w.holds;
  }

pub walk_none : (img slots : List ℕ) (first : ℕ) → length slots ≡ 256 → first ≡ first_index img → Walk img slots 0 0 first
walk_none img slots first wide is = record {
  wide = wide;
  good = λ m h. absurd (omega arith);
  here = is ∙ link_none img;
  holds = holder_none img;
  are = λ m h. absurd (omega arith);
}

pub walk_more : (img slots : List ℕ) (n slot index next : ℕ) → n < 256 → Walk img slots n slot index → Good img n → next ≡ next_index img index → Walk img (set slots n index) (n + 1) index next
walk_more img slots n slot index next fits w g is = record {
  wide = length-set slots n index ∙ w.wide;
  good = below_more (Good img) n w.good g;
  here = is ∙ ap (next_index img) w.here ∙ sym (link_more img n);
  holds = w.here ∙ sym (holder_more img n);
  are =
      below_more (λ m. get_or (set slots n index) m 0 ≡ link img m) n
      (λ m h. let other : m ≢ n = omega arith in get_or-set_other slots n m index 0 other ∙ w.are m h)
      (get_or-set_same slots n index 0 (omega (arith, w.wide)) ∙ w.here);
}

-- the test that the loop makes at an index, told by its answer
module _ (img slots : List ℕ) (n slot index count : ℕ) (r : Bool) (few : Slotted img) (w : Walk img slots n slot index) (some : 0 < index) (small : n ≤ 256) (all : count ≡ slot_count img) (d : Decides r ((index ≤ count) × (Has (take n slots) index → ⊥))) where
  pub test_good : r ≡ true → Good img n
  test_good t =
      let yes = d.0 t in
      next_good img slots n slot index few w some small (omega (arith, yes.0)) yes.1

  pub test_bad : r ≡ false → BadLink img slot
  test_bad f = next_bad img slots n slot index few w some small (λ p. not_from_Decides r d f (omega (arith, p.0), p.1))

-- a chain has no more files than the image has slots
pub chain_few : (img : List ℕ) (n : ℕ) → Chained img n → n ≤ slot_count img
chain_few img zero c = omega arith
chain_few img (suc n) c = room img n (λ m h. c.good m (omega arith)) (c.good n (omega arith))
