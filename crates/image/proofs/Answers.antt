-- Every image has one answer only.
use Rattle.std.proofs.Common.{◌≡◌, ℕ, zero, suc, ◌<◌, ◌≤◌, List, Ok, Err, Result, sym, refl, ap, ◌∙◌, subst, inl, inr, arith, below_none, below_more}
use Rattle.std.proofs.lemmas.Bool.{cases_order}
use Rattle.image.specs.Chain.{Sized, Slotted, Good, Chained, BadLink}
use Rattle.image.specs.Layout.{link, holder}
use Rattle.image.specs.Opening.{InsideAt, NamedAt, New, Every, FirstNo, Answer, OneAnswer}
use Rattle.image.specs.declared.refusal.Refusal.{Refusal}
use Rattle.image.specs.declared.refusal.Refusal.TheVariants.{Size, Slots, Link, Part, Path, Repeated}

-- the first place at which P does not hold is one place
first_once : (P : ℕ → Type 0) (m n : ℕ) → Every P m → (P m → ⊥) → Every P n → (P n → ⊥) → m ≡ n
first_once P m n a x b y =
    elim (cases_order m n) [
      | inl e ↦ e
      | inr s ↦ elim s [ inl h ↦ absurd (x (b m h)) | inr h ↦ absurd (y (a n h)) ]
    ]

-- index zero is no slot, so that no link is good where the chain ends
end_bad : (img : List ℕ) (n : ℕ) → link img n ≡ 0 → Good img n → ⊥
end_bad img n e g = omega (arith, g.some)

chained_once : (img : List ℕ) (m n : ℕ) → Chained img m → Chained img n → m ≡ n
chained_once img m n a b = first_once (Good img) m n a.good (end_bad img m a.ends) b.good (end_bad img n b.ends)

chained_bad : (img : List ℕ) (n slot : ℕ) → Chained img n → BadLink img slot → ⊥
chained_bad img n slot a b =
    let e : n ≡ b.after = first_once (Good img) n b.after a.good (end_bad img n a.ends) b.good b.bad in
    omega (arith, a.ends, b.goes_on, ap (link img) e)

bad_once : (img : List ℕ) (s t : ℕ) → BadLink img s → BadLink img t → s ≡ t
bad_once img s t a b =
    a.holds ∙ ap (holder img) (first_once (Good img) a.after b.after a.good a.bad b.good b.bad) ∙ sym b.holds

module _ (img : List ℕ) (P : ℕ → Type 0) (m n : ℕ) (e : m ≡ n) where
  no_once : (s t : ℕ) → FirstNo img P m s → FirstNo img P n t → s ≡ t
  no_once s t a b = a.tells ∙ ap (link img) (first_once P a.after b.after a.before a.refused b.before b.refused) ∙ sym b.tells

  no_every : (s : ℕ) → FirstNo img P m s → Every P n → ⊥
  no_every s a b = a.refused (b a.after (omega (arith, a.below)))

-- the questions from the first, 0, to the last, 5
Passes : List ℕ → ℕ → Type 0
Passes img zero = Sized img
Passes img (suc zero) = Slotted img
Passes img (suc (suc zero)) = (n : ℕ) × Chained img n
Passes img (suc (suc (suc zero))) = (n : ℕ) × Chained img n × Every (InsideAt img) n
Passes img (suc (suc (suc (suc zero)))) = (n : ℕ) × Chained img n × Every (NamedAt img) n
Passes img (suc (suc (suc (suc (suc zero))))) = (n : ℕ) × Chained img n × Every (New img) n
Passes img (suc (suc (suc (suc (suc (suc n)))))) = Unit {0}

-- what an answer tells besides the question that decides it: a slot, or the number of files
Tells : List ℕ → ℕ → ℕ → Type 0
Tells img zero p = p ≡ 0
Tells img (suc zero) p = p ≡ 0
Tells img (suc (suc zero)) p = BadLink img p
Tells img (suc (suc (suc zero))) p = (n : ℕ) × Chained img n × FirstNo img (InsideAt img) n p
Tells img (suc (suc (suc (suc zero)))) p = (n : ℕ) × Chained img n × FirstNo img (NamedAt img) n p
Tells img (suc (suc (suc (suc (suc zero))))) p = (n : ℕ) × Chained img n × FirstNo img (New img) n p
Tells img (suc (suc (suc (suc (suc (suc k)))))) p = Chained img p

made : ℕ → ℕ → Result ℕ Refusal
made zero p = Err Size
made (suc zero) p = Err Slots
made (suc (suc zero)) p = Err (Link p)
made (suc (suc (suc zero))) p = Err (Part p)
made (suc (suc (suc (suc zero)))) p = Err (Path p)
made (suc (suc (suc (suc (suc zero))))) p = Err (Repeated p)
made (suc (suc (suc (suc (suc (suc k)))))) p = Ok p

-- an answer, by the question that decides it
record Parts (img : List ℕ) (a : Result ℕ Refusal) : Type 0 where
  stage : ℕ
  told : ℕ
  is : a ≡ made stage told
  passed : (q : ℕ) → q < stage → Passes img q
  failed : stage < 6 → Passes img stage → ⊥
  tells : Tells img stage told
  few : stage ≤ 6

-- what each question before the second, the third .. answered
upto_1 : (P : ℕ → Type 0) → P 0 → (q : ℕ) → q < 1 → P q
upto_1 P a = below_more P 0 (below_none P) a

upto_2 : (P : ℕ → Type 0) → P 0 → P 1 → (q : ℕ) → q < 2 → P q
upto_2 P a b = below_more P 1 (upto_1 P a) b

upto_3 : (P : ℕ → Type 0) → P 0 → P 1 → P 2 → (q : ℕ) → q < 3 → P q
upto_3 P a b c = below_more P 2 (upto_2 P a b) c

upto_4 : (P : ℕ → Type 0) → P 0 → P 1 → P 2 → P 3 → (q : ℕ) → q < 4 → P q
upto_4 P a b c d = below_more P 3 (upto_3 P a b c) d

upto_5 : (P : ℕ → Type 0) → P 0 → P 1 → P 2 → P 3 → P 4 → (q : ℕ) → q < 5 → P q
upto_5 P a b c d e = below_more P 4 (upto_4 P a b c d) e

upto_6 : (P : ℕ → Type 0) → P 0 → P 1 → P 2 → P 3 → P 4 → P 5 → (q : ℕ) → q < 6 → P q
upto_6 P a b c d e f = below_more P 5 (upto_5 P a b c d e) f

parts : (img : List ℕ) (a : Result ℕ Refusal) → Answer img a → Parts img a
unfolding Passes Tells made
parts img (Ok n) o = record {
  stage = 6;
  told = n;
  is = refl;
  few = omega arith;
  failed = λ h. absurd (omega arith);
  tells = o.chained;
  passed = upto_6 (Passes img) o.sized o.slotted (n, o.chained) (n, o.chained, o.inside) (n, o.chained, o.named) (n, o.chained, o.different);
}
parts img (Err Size) x = record {
  stage = 0;
  told = 0;
  is = refl;
  few = omega arith;
  failed = λ _ y. x y;
  tells = refl;
  passed = below_none (Passes img);
}
parts img (Err Slots) (s, x) = record {
  stage = 1;
  told = 0;
  is = refl;
  few = omega arith;
  failed = λ _ y. x y;
  tells = refl;
  passed = upto_1 (Passes img) s;
}
parts img (Err (Link slot)) (s, t, x) = record {
  stage = 2;
  told = slot;
  is = refl;
  few = omega arith;
  failed = λ _ y. chained_bad img y.0 slot y.1 x;
  tells = x;
  passed = upto_2 (Passes img) s t;
}
parts img (Err (Part slot)) (s, t, (n, c, x)) = record {
  stage = 3;
  told = slot;
  is = refl;
  few = omega arith;
  tells = (n, c, x);
  failed = λ _ y. no_every img (InsideAt img) n y.0 (chained_once img n y.0 c y.1) slot x y.2;
  passed = upto_3 (Passes img) s t (n, c);
}
parts img (Err (Path slot)) (s, t, (n, c, i, x)) = record {
  stage = 4;
  told = slot;
  is = refl;
  few = omega arith;
  tells = (n, c, x);
  failed = λ _ y. no_every img (NamedAt img) n y.0 (chained_once img n y.0 c y.1) slot x y.2;
  passed = upto_4 (Passes img) s t (n, c) (n, c, i);
}
parts img (Err (Repeated slot)) (s, t, (n, c, i, j, x)) = record {
  stage = 5;
  told = slot;
  is = refl;
  few = omega arith;
  tells = (n, c, x);
  failed = λ _ y. no_every img (New img) n y.0 (chained_once img n y.0 c y.1) slot x y.2;
  passed = upto_5 (Passes img) s t (n, c) (n, c, i) (n, c, j);
}

tells_once : (img : List ℕ) (l p q : ℕ) → Tells img l p → Tells img l q → p ≡ q
unfolding Tells
tells_once img zero p q x y = x ∙ sym y
tells_once img (suc zero) p q x y = x ∙ sym y
tells_once img (suc (suc zero)) p q x y = bad_once img p q x y
tells_once img (suc (suc (suc zero))) p q (m, c, x) (n, d, y) = no_once img (InsideAt img) m n (chained_once img m n c d) p q x y
tells_once img (suc (suc (suc (suc zero)))) p q (m, c, x) (n, d, y) = no_once img (NamedAt img) m n (chained_once img m n c d) p q x y
tells_once img (suc (suc (suc (suc (suc zero))))) p q (m, c, x) (n, d, y) = no_once img (New img) m n (chained_once img m n c d) p q x y
tells_once img (suc (suc (suc (suc (suc (suc k)))))) p q x y = chained_once img p q x y

pub one_answer : OneAnswer
one_answer img a b x y =
    let s = parts img a x in
    let t = parts img b y in
    let level : s.stage ≡ t.stage =
    elim (cases_order s.stage t.stage) [
      | inl e ↦ e
      | inr o ↦ elim o [
        | inl h ↦ absurd (s.failed (omega (arith, t.few)) (t.passed s.stage h))
        | inr h ↦ absurd (t.failed (omega (arith, s.few)) (s.passed t.stage h))
      ]
    ] in
    let same : s.told ≡ t.told = tells_once img t.stage s.told t.told (subst (λ l. Tells img l s.told) level s.tells) t.tells in
    s.is ∙ (λ i. made (level i) (same i)) ∙ sym t.is
