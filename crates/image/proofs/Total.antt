-- Every image has an answer.
use Rattle.std.proofs.Common.{◌≡◌, ℕ, zero, suc, ◌+◌, ◌<◌, ◌⊎◌, List, length, Ok, Err, Result, refl, subst, inl, inr, add-one, arith, below_more}
use Rattle.std.proofs.lemmas.Bool.{cases_eq}
use Rattle.store_path.proofs.Deciding.{Known, both, like, no_longer, at_most, same_text, full_store_path, drv}
use Rattle.image.specs.Chain.{Sized, Slotted, Good, Chained, BadLink}
use Rattle.image.specs.Layout.{slot_count, link, holder, path_in, path_length, path_offset, text_length, text_offset}
use Rattle.image.specs.Opening.{New, InsideAt, NamedAt, Every, FirstNo, Answer, SomeAnswer}
use Rattle.image.specs.declared.refusal.Refusal.{Refusal}
use Rattle.image.specs.declared.refusal.Refusal.TheVariants.{Size, Slots, Link, Part, Path, Repeated}
use Rattle.image.proofs.Chains.{room}

-- of the first n numbers P holds of all, or there is a first of which it does not
record First (P : ℕ → Type 0) (n : ℕ) : Type 0 where
  at : ℕ
  below : at < n
  before : Every P at
  not : P at → ⊥

first : (P : ℕ → Type 0) → ((m : ℕ) → Known (P m)) → (n : ℕ) → Every P n ⊎ First P n
first P known zero = inl (λ m h. absurd (omega arith))
first P known (suc n) =
    elim (first P known n) [
      | inl all ↦ elim (known n) [
        | inl p ↦ inl (subst (Every P) (add-one n) (below_more P n all p))
        | inr x ↦ inr (record { at = n; below = omega arith; before = all; not = x })
      ]
      | inr f ↦ inr (record { at = f.at; below = omega (arith, f.below); before = f.before; not = f.not })
    ]

every : (P : ℕ → Type 0) → ((m : ℕ) → Known (P m)) → (n : ℕ) → Known (Every P n)
every P known n =
    elim (first P known n) [ inl all ↦ inl all | inr f ↦ inr (λ all. f.not (all f.at f.below)) ]

module _ (img : List ℕ) where
  sized : Known (Sized img)
  sized = like (λ p. record { least = p.0; most = p.1 }) (λ s. (s.least, s.most)) (both (at_most 4 (length img)) (at_most (length img) 4194304))

  slotted : Known (Slotted img)
  slotted = like (λ p. record { few = p.0; inside = p.1 }) (λ s. (s.few, s.inside)) (both (at_most (slot_count img) 256) (at_most _ (length img)))

  good : (n : ℕ) → Known (Good img n)
  good n =
      like (λ p. record { some = p.0; within = p.1.0; fresh = p.1.1 }) (λ g. (g.some, (g.within, g.fresh)))
      (both (at_most 1 (link img n)) (both (at_most (link img n) (slot_count img)) (every (λ m. link img m ≡ link img n → ⊥) (λ m. no_longer (cases_eq (link img m) (link img n))) n)))

  inside : (n : ℕ) → Known (InsideAt img n)
  inside n =
      like (λ p. record { path = p.0; text = p.1.0; short = p.1.1 }) (λ i. (i.path, (i.text, i.short)))
      (both (at_most (path_offset img (link img n) + path_length img (link img n)) (length img)) (both (at_most (text_offset img (link img n) + text_length img (link img n)) (length img)) (at_most (text_length img (link img n)) 262144)))

  named : (n : ℕ) → Known (NamedAt img n)
  named n = like (λ p. record { store = p.0; drv = p.1 }) (λ x. (x.store, x.drv)) (both (full_store_path (path_in img (link img n))) (drv (path_in img (link img n))))

  new : (n : ℕ) → Known (New img n)
  new n = every (λ m. path_in img (link img m) ≡ path_in img (link img n) → ⊥) (λ m. no_longer (same_text (path_in img (link img m)) (path_in img (link img n)))) n

  told : (P : ℕ → Type 0) (n : ℕ) (f : First P n) → FirstNo img P n (link img f.at)
  told P n f = record { after = f.at; below = f.below; before = f.before; refused = f.not; tells = refl }

  -- the first link that is not good ends the chain or is bad
  chain : Slotted img → ((n : ℕ) × Chained img n) ⊎ ((slot : ℕ) × BadLink img slot)
  chain few =
      elim (first (Good img) good (slot_count img + 1)) [
        | inl all ↦ absurd (omega (arith, room img (slot_count img) (λ m h. all m (omega arith)) (all (slot_count img) (omega arith))))
        | inr f ↦ elim (cases_eq (link img f.at) 0) [
          | inl e ↦ inl (f.at, record { ends = e; good = f.before })
          | inr n ↦ inr (holder img f.at, record { after = f.at; good = f.before; goes_on = omega arith; bad = f.not; holds = refl })
        ]
      ]

  files : (n : ℕ) → Sized img → Slotted img → Chained img n → (a : Result ℕ Refusal) × Answer img a
  files n s t c =
      elim (first (InsideAt img) inside n) [
        | inr f ↦ (Err (Part (link img f.at)), (s, t, (n, c, told (InsideAt img) n f)))
        | inl i ↦ elim (first (NamedAt img) named n) [
          | inr f ↦ (Err (Path (link img f.at)), (s, t, (n, c, i, told (NamedAt img) n f)))
          | inl j ↦ elim (first (New img) new n) [
            | inr f ↦ (Err (Repeated (link img f.at)), (s, t, (n, c, i, j, told (New img) n f)))
            | inl k ↦ (Ok n, record { sized = s; slotted = t; chained = c; inside = i; named = j; different = k })
          ]
        ]
      ]

pub some_answer : SomeAnswer
some_answer img =
    elim (sized img) [
      | inr x ↦ (Err Size, x)
      | inl s ↦ elim (slotted img) [
        | inr x ↦ (Err Slots, (s, x))
        | inl t ↦ elim (chain img t) [
          | inl c ↦ files img c.0 s t c.1
          | inr b ↦ (Err (Link b.0), (s, t, b.1))
        ]
      ]
    ]
