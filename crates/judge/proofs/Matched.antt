-- What a string that is held against bytes has to come after them.
use Rattle.std.proofs.Common.{◌≡◌, ℕ, ◌-◌, ◌<◌, ◌≤◌, Bool, true, false, cond, eqb, List, [], ◌∷◌, length, take, drop, Decides, sym, refl, ap, ◌∙◌, inl, inr, arith, eq-eqb, ne_eqb}
use Rattle.std.specs.Bool.{then_some}
use Rattle.std.proofs.lemmas.List.{length-take, length-drop}
use Rattle.std.proofs.lemmas.Bool.{cond-true, cond-false, cond_both, cases_eq}
use Rattle.aterm.specs.Meaning.{meant, meant_left}
use Rattle.aterm.specs.declared.meant.Meant.{Meant}
use Rattle.canonical.specs.Decode.{said}
use Rattle.sink.specs.Write.{steps}
use Rattle.judge.specs.Matching.{matching, expected}

-- ---- one byte

-- the next byte of the string and the one written
pub next_matched : (xs : List ℕ) (x b : ℕ) (rest : Meant) → xs ≡ x ∷ meant_left rest → expected (then_some (eqb x b) rest) ≡ matching (0 ∷ xs) b
next_matched xs x b rest e = either (eqb x b) ∙ sym (ap (λ (l : List ℕ). matching (0 ∷ l) b) e)
  where
    either : (t : Bool) → expected (then_some t rest) ≡ cond t (0 ∷ meant_left rest) []
    either true = refl
    either false = refl

-- ---- all bytes

pub stays : (ys : List ℕ) → steps matching [] ys ≡ []
stays [] = refl
stays (y ∷ ys) = stays ys

pub all_same : (xs ys : List ℕ) → xs ≡ ys → steps matching (0 ∷ xs) ys ≡ 0 ∷ []
all_same xs ys e = ap (λ (l : List ℕ). steps matching (0 ∷ l) ys) e ∙ whole ys
  where
    whole : (l : List ℕ) → steps matching (0 ∷ l) l ≡ 0 ∷ []
    whole [] = refl
    whole (x ∷ l) = ap (λ (s : List ℕ). steps matching s l) (cond-true (eqb x x) (0 ∷ l) [] (eq-eqb x x refl)) ∙ whole l

pub only_same : (xs ys : List ℕ) → steps matching (0 ∷ xs) ys ≡ 0 ∷ [] → xs ≡ ys
only_same [] [] e = refl
only_same (x ∷ xs) [] e = let z : ◌≡◌ {A = ℕ} 0 1 = cc in absurd (omega arith)
only_same [] (y ∷ ys) e = let f : ◌≡◌ {A = List ℕ} [] (0 ∷ []) = sym (stays ys) ∙ e in let z : ◌≡◌ {A = ℕ} 0 1 = cc in absurd (omega arith)
only_same (x ∷ xs) (y ∷ ys) e = elim (cases_eq x y) [
  | inl q ↦ (let f = only_same xs ys (ap (λ (s : List ℕ). steps matching s ys) (sym (cond-true (eqb x y) (0 ∷ xs) [] (eq-eqb x y q))) ∙ e) in λ i. q i ∷ f i)
  | inr n ↦ (
      let f : ◌≡◌ {A = List ℕ} [] (0 ∷ []) = sym (stays ys) ∙ ap (λ (s : List ℕ). steps matching s ys) (sym (cond-false (eqb x y) (0 ∷ xs) [] (ne_eqb x y n))) ∙ e in
      let z : ◌≡◌ {A = ℕ} 0 1 = cc in
      absurd (omega arith)
      )
]

-- the string xs was what was written, if all of it was and nothing else
pub is_through : (r : Bool) (xs left : List ℕ) → left ≡ xs → (s ys : List ℕ) → s ≡ steps matching (0 ∷ left) ys → Decides r (s ≡ 0 ∷ []) → Decides r (xs ≡ ys)
is_through r xs left same s ys after d = (λ t. sym same ∙ only_same left ys (sym after ∙ d.0 t), λ q. d.1 (after ∙ all_same left ys (same ∙ q)))

-- ---- a string is not longer than its text

meant_short : (b : Bool) (bs : List ℕ) → length (meant b bs) ≤ length bs
meant_short true [] = omega arith
meant_short false [] = omega arith
meant_short true (c ∷ bs) = let h = meant_short false bs in omega arith
meant_short false (c ∷ bs) =
    let h = meant_short true bs in
    let k = meant_short false bs in
    cond_both (eqb c 92) (meant true bs) (c ∷ meant false bs) (λ l. length l ≤ length (c ∷ bs)) (λ _. omega arith) (λ _. omega arith)

pub said_short : (t : List ℕ) (at stop : ℕ) → length (said t at stop) ≤ length t
said_short t at stop =
    let h = meant_short false (take (stop - at) (drop at t)) in
    let k = length-take (stop - at) (drop at t) in
    let l = length-drop at t in
    omega arith

pub too_long : (t ys : List ℕ) (at stop : ℕ) → length t < length ys → Decides false (said t at stop ≡ ys)
too_long t ys at stop h = (
  λ e. let z : ◌≡◌ {A = ℕ} 0 1 = cc in absurd (omega arith),
  λ e. absurd (let a = said_short t at stop in let b = ap length e in omega arith),
)
