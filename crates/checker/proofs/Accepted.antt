-- How many of the first n files are accepted, by a filter of their numbers.
use Rattle.std.proofs.Common.{◌≡◌, ℕ, zero, suc, ◌+◌, ◌-◌, ◌==◌, Bool, true, false, cond, List, [], ◌∷◌, length, map, Some, None, Ok, Err, Option, refl, sym, ap, ◌∙◌, subst, arith, length-append}
use Rattle.std.specs.List.{filter, range_with_len}
use Rattle.std.specs.Range.{range_inclusive_start, range_inclusive_end, range_inclusive_len, range_inclusive_left, range_inclusive_exhausted, range_inclusive_steps}
use Rattle.std.specs.declared.ops.RangeInclusive.{RangeInclusive}
use Rattle.std.proofs.lemmas.List.{map-id}
use Rattle.std.proofs.lemmas.Iterator.{YieldsList}
use Rattle.std.proofs.lemmas.Iterator.Consumers.{YieldsList-from_shown}
use Rattle.std.proofs.lemmas.List.FromFn.{filter_of_map_range_with_len_more, length-range_with_len}
use Rattle.verdict.specs.Verdicts.{Verdict}
use Rattle.checker.specs.Calls.{one_accepted, accepted}
use Rattle.checker.specs.declared.state.State.{State}
use Rattle.checker.specs.declared.state.State.TheVariants.{Pending, Taken, Settled}

-- ---- the numbers of `a..=b`

abbrev gap : ℕ → ℕ → ℕ
gap x y = y - x

abbrev follows : ℕ → ℕ → Type 0
follows x y = y ≡ x + 1

abbrev steps : RangeInclusive ℕ → Option ℕ → RangeInclusive ℕ → Type 0
steps = range_inclusive_steps gap follows

abbrev shown : RangeInclusive ℕ → List ℕ
shown s = range_with_len (range_inclusive_start s) (range_inclusive_left gap s)

none : (s t : RangeInclusive ℕ) → steps s None t → length (shown s) ≡ 0
none s t h = length-range_with_len (range_inclusive_start s) (range_inclusive_left gap s) ∙ h.1.0

some : (s : RangeInclusive ℕ) (x : ℕ) (t : RangeInclusive ℕ) → steps s (Some x) t → shown s ≡ x ∷ shown t
some s x t h =
    let more : range_inclusive_left gap s ≡ suc (range_inclusive_left gap t) = omega (arith, h.1.1) in
    ap (range_with_len (range_inclusive_start s)) more ∙ ap (λ (a : ℕ). a ∷ range_with_len (range_inclusive_start s + 1) (range_inclusive_left gap t)) (sym h.1.0)
    ∙ ap (λ (xs : List ℕ). x ∷ xs) (rest (range_inclusive_exhausted t) refl)
  where
    rest : (b : Bool) → range_inclusive_exhausted t ≡ b → range_with_len (range_inclusive_start s + 1) (range_inclusive_left gap t) ≡ shown t
    rest true e = ap (range_with_len (range_inclusive_start s + 1)) (over e) ∙ ap (range_with_len (range_inclusive_start t)) (sym (over e))
      where
        over : range_inclusive_exhausted t ≡ true → range_inclusive_left gap t ≡ 0
        over z = ap (range_inclusive_len gap (range_inclusive_start t) (range_inclusive_end t)) z
    rest false e = ap (λ (a : ℕ). range_with_len a (range_inclusive_left gap t)) (sym (h.1.2 e))

pub from_range_inclusive : (s : RangeInclusive ℕ) (n : ℕ) → range_inclusive_start s ≡ 1 → range_inclusive_end s ≡ n → range_inclusive_exhausted s ≡ false
    → YieldsList (range_inclusive_steps gap follows) (λ x. x) s (range_with_len 1 n)
from_range_inclusive s n from to fresh =
    subst (YieldsList steps (λ x. x) s) (λ i. range_with_len (from i) (all i)) (YieldsList-from_shown steps (λ x. x) shown none some s)
  where
    all : range_inclusive_left gap s ≡ n
    all = omega (arith, from, to, ap (range_inclusive_len gap (range_inclusive_start s) (range_inclusive_end s)) fresh)

-- ---- those that are accepted

abbrev pub is_accepted : State → Bool
is_accepted s = one_accepted s == 1

one : (s : State) (k : ℕ) → length (cond (is_accepted s) (k ∷ []) []) ≡ one_accepted s
one Pending k = refl
one Taken k = refl
one (Settled s) k = by s.verdict
  where
    by : (v : Verdict) → length (cond ((elim v [ Ok u ↦ 1 | Err f ↦ 0 ]) == 1) (k ∷ []) []) ≡ elim v [ Ok u ↦ 1 | Err f ↦ 0 ]
    by (Ok u) = refl
    by (Err f) = refl

counted : (row : ℕ → State) (n : ℕ) → length (filter (λ k. is_accepted (row k)) (map (λ (k : ℕ). k) (range_with_len 1 n))) ≡ accepted row n
counted row zero = refl
counted row (suc n) =
    ap (λ (m : ℕ). length (filter (λ k. is_accepted (row k)) (map (λ (k : ℕ). k) (range_with_len 1 m)))) more
    ∙ ap length (filter_of_map_range_with_len_more (λ k. is_accepted (row k)) (λ (k : ℕ). k) 1 n (suc n) (omega arith))
    ∙ length-append (filter (λ k. is_accepted (row k)) (map (λ (k : ℕ). k) (range_with_len 1 n))) (cond (is_accepted (row (suc n))) (suc n ∷ []) [])
    ∙ (λ i. counted row n i + one (row (suc n)) (suc n) i)
  where
    more : suc n ≡ n + 1
    more = omega arith

pub accepted_counted : (row : ℕ → State) (n : ℕ) → length (filter (λ k. is_accepted (row k)) (range_with_len 1 n)) ≡ accepted row n
accepted_counted row n = ap (λ (xs : List ℕ). length (filter (λ k. is_accepted (row k)) xs)) (sym (map-id (range_with_len 1 n))) ∙ counted row n
