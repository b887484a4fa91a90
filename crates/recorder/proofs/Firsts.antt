-- The recorder's count and table in closed form: the number of the bytes, and the first 4,096 of them before zeros.
use Rattle.std.proofs.Common.{◌≡◌, ℕ, ◌+◌, ◌-◌, ◌≤◌, min, List, [], ◌∷◌, ◌++◌, length, get_or, take, drop, Ok, Err, Result, sym, refl, ap, ◌∙◌, subst, append_assoc, ⊎_elim, arith}
use Rattle.std.proofs.lemmas.Bool.{cases_lt}
use Rattle.std.proofs.lemmas.List.{set_past, set_at, length_push, length-take, length-take-le, length-drop, take_at, take_all, drop_all, take-append-drop, append-nil}
use borrow.Rule.Slice.PartMut.{put_mid}
use Rattle.recorder.specs.Record.{counted, counts, laid, zeros, Copied, Kept, First, TakenKept}
use Rattle.sink.specs.Write.{Step, steps}
use Rattle.recorder.proofs.Records.{length_zeros, length_laid, steps_recording}

pub counts_is : (c : ℕ) (bs : List ℕ) → c ≤ 4294967295 → counts c bs ≡ min (c + length bs) 4294967295
counts_is c [] le = omega arith
counts_is c (b ∷ bs) le = counts_is (counted c) bs (omega arith) ∙ omega arith

-- bytes laid over a table, as far as it reaches
over : List ℕ → List ℕ → List ℕ
over q [] = q
over [] (b ∷ bs) = []
over (x ∷ q) (b ∷ bs) = b ∷ over q bs

over_none : (bs : List ℕ) → over [] bs ≡ []
unfolding over
over_none [] = refl
over_none (b ∷ bs) = refl

over_is : (q bs : List ℕ) → over q bs ≡ take (length q) bs ++ drop (length bs) q
unfolding over
over_is [] [] = refl
over_is (x ∷ q) [] = refl
over_is [] (b ∷ bs) = refl
over_is (x ∷ q) (b ∷ bs) = ap (λ (v : List ℕ). b ∷ v) (over_is q bs)

laid_full : (t : List ℕ) (c : ℕ) (bs : List ℕ) → length t ≤ c → length t ≤ 4294967295 → laid t c bs ≡ t
laid_full t c [] past small = refl
laid_full t c (b ∷ bs) past small =
    ap (λ (v : List ℕ). laid v (counted c) bs) (set_past t c b past) ∙ laid_full t (counted c) bs (omega arith) small

laid_over : (p q bs : List ℕ) (c : ℕ) → length p ≡ c → length p + length q ≤ 4294967295 → laid (p ++ q) c bs ≡ p ++ over q bs
unfolding over
laid_over p q [] c at small = refl
laid_over p [] (b ∷ bs) c at small =
    let long : length (p ++ []) ≡ length p = ap length (append-nil p) in
    laid_full (p ++ []) c (b ∷ bs) (omega arith) (omega arith)
laid_over p (x ∷ q) (b ∷ bs) c at small =
    let next : length (p ++ (b ∷ [])) ≡ counted c = length_push p b ∙ omega arith in
    let fits : length (p ++ (b ∷ [])) + length q ≤ 4294967295 = omega (arith, length_push p b) in
    ap (λ (v : List ℕ). laid v (counted c) bs) (set_at p x q b c at ∙ sym (append_assoc p (b ∷ []) q))
    ∙ laid_over (p ++ (b ∷ [])) q bs (counted c) next fits
    ∙ append_assoc p (b ∷ []) (over q bs)

-- the bytes that fit, before what is left of the table
over_fits : (q bs : List ℕ) (n : ℕ) → n ≡ min (length bs) (length q) → take n bs ++ drop n q ≡ over q bs
over_fits q bs n e = ⊎_elim
    (λ l.
    let same : n ≡ length q = omega arith in
    ap (λ (k : ℕ). take k bs ++ drop k q) same
    ∙ ap (λ (v : List ℕ). take (length q) bs ++ v) (drop_all (length q) q (omega arith) ∙ sym (drop_all (length bs) q (omega arith)))
    ∙ sym (over_is q bs))
    (λ l.
    let same : n ≡ length bs = omega arith in
    ap (λ (k : ℕ). take k bs ++ drop k q) same
    ∙ ap (λ (v : List ℕ). v ++ drop (length bs) q) (take_all (length bs) bs (omega arith) ∙ sym (take_all (length q) bs (omega arith)))
    ∙ sym (over_is q bs))
    (cases_lt (length q) (length bs))

-- a copy of as many bytes as fit, at the place of the count
pub laid_mid : (t bs xs : List ℕ) (c at n : ℕ) → length t ≡ 4096 → c ≤ 4294967295 → at ≡ min c 4096 → n ≡ min (length bs) (4096 - at) → xs ≡ take n bs → put_mid at (at + n - at) t xs ≡ laid t c bs
laid_mid t bs xs c at n long small place many front =
    let q : List ℕ = drop at t in
    let rest : length q ≡ 4096 - at = length-drop at t ∙ omega arith in
    let count : at + n - at ≡ n = omega arith in
    (λ i. take at t ++ (front i ++ drop (count i) q))
    ∙ ap (λ (v : List ℕ). take at t ++ v) (over_fits q bs n (omega arith))
    ∙ ⊎_elim
    (λ l.
    let here : at ≡ c = omega arith in
    sym (laid_over (take at t) q bs c (length-take-le at t (omega arith) ∙ here) (omega (arith, length-take-le at t (omega arith))))
    ∙ ap (λ (v : List ℕ). laid v c bs) (take-append-drop at t))
    (λ l.
    ap (λ (v : List ℕ). take at t ++ over v bs) (drop_all at t (omega arith))
    ∙ ap (λ (v : List ℕ). take at t ++ v) (over_none bs)
    ∙ append-nil (take at t)
    ∙ take_all at t (omega arith)
    ∙ sym (laid_full t c bs (omega arith) (omega arith)))
    (cases_lt c 4096)

first_count : (bs : List ℕ) → counts 0 bs ≡ min (length bs) 4294967295
first_count bs = counts_is 0 bs (omega arith) ∙ omega arith

first_table : (bs : List ℕ) → laid (zeros 4096) 0 bs ≡ take 4096 bs ++ drop (length bs) (zeros 4096)
first_table bs =
    let long : length (zeros 4096) ≡ 4096 = length_zeros 4096 in
    laid_over [] (zeros 4096) bs 0 refl (omega arith)
    ∙ over_is (zeros 4096) bs
    ∙ ap (λ (n : ℕ). take n bs ++ drop (length bs) (zeros 4096)) long

-- the table's first bytes, as many as were counted
front : (bs : List ℕ) (n : ℕ) → n ≡ min (length bs) 4096 → take n (take 4096 bs ++ drop (length bs) (zeros 4096)) ≡ take 4096 bs
front bs n e = take_at (take 4096 bs) (drop (length bs) (zeros 4096)) n (length-take 4096 bs ∙ omega arith)

-- what is told of a table is told of a recorder's state that begins with its count and the table
pub copied_kept : {E : Type 0} (c : ℕ) (t s out : List ℕ) (r : Result ℕ E) (after : List ℕ) → length t ≡ 4096 → Copied c t out r after → Kept (c ∷ (t ++ s)) out r after
copied_kept c t s out r after long told = subst (λ (v : List ℕ). Copied c v out r after) (sym (take_at t s 4096 long)) told

copied_first : {E : Type 0} (bs out : List ℕ) (r : Result ℕ E) (after : List ℕ) → Copied (min (length bs) 4294967295) (take 4096 bs ++ drop (length bs) (zeros 4096)) out r after → First bs out r after
copied_first bs out (Ok n) after (fits, count, is) =
    let few : n ≡ min (length bs) 4096 = omega arith in
    (omega arith, few, is ∙ ap (λ (v : List ℕ). v ++ drop n out) (front bs n few))
copied_first bs out (Err e) after (short, is) = (omega arith, is)

pub kept_taken : {E : Type 0} (f : Step) (state out : List ℕ) (r : Result ℕ E) (after : List ℕ) → Kept state out r after → TakenKept f state out r after
kept_taken f state out r after told below bs is =
    let t : List ℕ = laid (zeros 4096) 0 bs in
    let s : List ℕ = steps f below bs in
    let whole : state ≡ counts 0 bs ∷ (t ++ s) = is ∙ steps_recording 4096 f 0 (zeros 4096) below bs (length_zeros 4096) in
    let long : length t ≡ 4096 = length_laid (zeros 4096) 0 bs ∙ length_zeros 4096 in
    let count : get_or state 0 0 ≡ min (length bs) 4294967295 = ap (λ (v : List ℕ). get_or v 0 0) whole ∙ first_count bs in
    let table : take 4096 (drop 1 state) ≡ take 4096 bs ++ drop (length bs) (zeros 4096) =
    ap (λ (v : List ℕ). take 4096 (drop 1 v)) whole ∙ take_at t s 4096 long ∙ first_table bs in
    let counted_so = subst (λ (v : ℕ). Copied v (take 4096 (drop 1 state)) out r after) count told in
    copied_first bs out r after (subst (λ (v : List ℕ). Copied (min (length bs) 4294967295) v out r after) table counted_so)
