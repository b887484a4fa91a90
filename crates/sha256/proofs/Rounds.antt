-- The steps of the loops over a block.
use Rattle.std.proofs.Common.{◌≡◌, ℕ, zero, suc, ◌+◌, ◌-◌, ◌*◌, ◌<◌, ◌≤◌, cond, List, [], ◌∷◌, ◌++◌, map, length, get_or, take, drop, set, sym, refl, ap, ◌∙◌, subst, add-one, arith, le-ltb, lt-ltb}
use Rattle.std.specs.List.{fold, zip, range_with_len}
use Rattle.std.specs.Simd.{first_chunks}
use Rattle.std.proofs.lemmas.List.{take_more_set, get_or-take, get_or-drop, drop-drop, take_all, nil_from_length, length-drop}
use Rattle.std.proofs.lemmas.List.Sums.{fold_more, fold-append}
use Rattle.std.proofs.lemmas.List.FromFn.{fill_by_all}
use Rattle.std.proofs.lemmas.Slice.Zip.{get_or-zip}
use Rattle.sha256.specs.Fips.{add32, σ0, σ1, word_at, mixed, next_word, schedule, round, rounds, rounded, K}

pub schedule_at : (b w : List ℕ) (m n : ℕ) → m ≡ n → take m w ≡ schedule m b → take n w ≡ schedule n b
schedule_at b w m n same e = subst (λ k. take k w ≡ schedule k b) same e

pub schedule_none : (b w : List ℕ) → take 0 w ≡ schedule 0 b
unfolding schedule
schedule_none b w = refl

schedule_suc : (t : ℕ) (b : List ℕ) → schedule (t + 1) b ≡ schedule t b ++ next_word b (schedule t b) t ∷ []
unfolding schedule
schedule_suc t b = rw add-one refl

-- one more word stored
pub schedule_more : (b w : List ℕ) (t v : ℕ) → t < length w → take t w ≡ schedule t b → v ≡ next_word b (take t w) t → take (t + 1) (set w t v) ≡ schedule (t + 1) b
schedule_more b w t v h e n =
    take_more_set w t v h ∙ (λ i. e i ++ (n ∙ ap (λ l. next_word b l t) e) i ∷ []) ∙ sym (schedule_suc t b)

-- the four bytes of a word, among the block's
chunk : (k t : ℕ) (xs : List ℕ) → t < k → get_or (first_chunks 4 k xs) t [] ≡ take 4 (drop (4 * t) xs)
chunk zero t xs h = absurd (omega arith)
chunk (suc k) zero xs h = refl
chunk (suc k) (suc t) xs h =
    chunk k t (drop 4 xs) (omega arith) ∙ ap (take 4) (drop-drop (4 * t) 4 xs ∙ ap (λ m. drop m xs) (let e : 4 + 4 * t ≡ 4 * suc t = omega arith in e))

word_of : (b : List ℕ) (k t : ℕ) → t < k → word_at (get_or (first_chunks 4 k b) t []) 0 ≡ word_at b t
word_of b k t h =
    let byte : (j : ℕ) → j < 4 → get_or (get_or (first_chunks 4 k b) t []) j 0 ≡ get_or b (4 * t + j) 0 =
    λ j l. ap (λ (w : List ℕ). get_or w j 0) (chunk k t b h) ∙ get_or-take 4 (drop (4 * t) b) j 0 l ∙ get_or-drop (4 * t) b j 0 in
    let first : 4 * t + 0 ≡ 4 * t = omega arith in
    λ i. (byte 0 (omega arith) ∙ ap (λ m. get_or b m 0) first) i * 16777216 + byte 1 (omega arith) i * 65536 + byte 2 (omega arith) i * 256 + byte 3 (omega arith) i

pub early : (b ws : List ℕ) (chunks : List (List ℕ)) (k t v : ℕ) → k ≡ 16 → t < k → chunks ≡ first_chunks 4 k b → v ≡ word_at (get_or chunks t []) 0 → v ≡ next_word b ws t
unfolding next_word
early b ws chunks k t v many h c e = e ∙ ap (λ (l : List (List ℕ)). word_at (get_or l t []) 0) c ∙ word_of b k t h ∙ sym (ap (λ q. cond q (word_at b t) (mixed ws t)) (lt-ltb t 16 (omega arith)))

-- `mixed` looks only at words before t
mixed_front : (w : List ℕ) (t : ℕ) → 16 ≤ t → mixed w t ≡ mixed (take t w) t
mixed_front w t h =
    let back : (k : ℕ) → 0 < k → k ≤ 16 → get_or w (t - k) 0 ≡ get_or (take t w) (t - k) 0 = λ k p q. sym (get_or-take t w (t - k) 0 (omega arith)) in
    λ i. add32 (add32 (add32 (σ1 (back 2 (omega arith) (omega arith) i)) (back 7 (omega arith) (omega arith) i)) (σ0 (back 15 (omega arith) (omega arith) i))) (back 16 (omega arith) (omega arith) i)

pub late : (b w : List ℕ) (t v : ℕ) → 16 ≤ t → v ≡ mixed w t → v ≡ next_word b (take t w) t
unfolding next_word
late b w t v h e = e ∙ mixed_front w t h ∙ sym (ap (λ q. cond q (word_at b t) (mixed (take t w) t)) (le-ltb t 16 h))

pub schedule_all : (b w : List ℕ) (t : ℕ) → t ≡ 64 → length w ≡ 64 → take t w ≡ schedule t b → w ≡ schedule 64 b
schedule_all b w t n l e = sym (take_all t w (omega arith)) ∙ e ∙ ap (λ k. schedule k b) n

length_K : length K ≡ 64
unfolding K
length_K = refl

length_pairs : (ws ks : List ℕ) → length ws ≡ length ks → length (zip ws ks) ≡ length ws
length_pairs [] ks e = refl
length_pairs (w ∷ ws) [] e = absurd (omega arith)
length_pairs (w ∷ ws) (k ∷ ks) e = let rest = length_pairs ws ks (omega arith) in omega arith

rounds_first : (ws s : List ℕ) (t : ℕ) → t ≤ 64 → length ws ≡ 64 → rounds t ws s ≡ rounded s (take t (zip ws K))
unfolding rounds rounded
rounds_first ws s zero h l = refl
rounds_first ws s (suc t) h l =
    let pairs = zip ws K in
    let long : length pairs ≡ 64 = length_pairs ws K (l ∙ sym length_K) ∙ l in
    let here : get_or pairs t (0, 0) ≡ (get_or ws t 0, get_or K t 0) = get_or-zip ws K t (0, 0) (omega arith) (omega (arith, length_K)) in
    let more = fold_more (λ (u : List ℕ) (p : ℕ × ℕ). round u p.1 p.0) s pairs t (0, 0) (omega arith) in
    let one : suc t ≡ t + 1 = omega arith in
    (λ i. round (rounds_first ws s t (omega arith) l i) ((ap (λ (p : ℕ × ℕ). p.1) (sym here)) i) ((ap (λ (p : ℕ × ℕ). p.0) (sym here)) i))
    ∙ sym more ∙ ap (λ n. rounded s (take n pairs)) (sym one)

pub rounds_all : (ws s : List ℕ) → length ws ≡ 64 → rounded s (zip ws K) ≡ rounds 64 ws s
rounds_all ws s l = sym (rounds_first ws s 64 (omega arith) l ∙ ap (rounded s) (take_all 64 (zip ws K) (omega (arith, length_pairs ws K (l ∙ sym length_K)))))

-- eight rounds by eight words
pub eight_rounds : (s ws ks : List ℕ) → length ws ≡ 8 → length ks ≡ 8
    → round (round (round (round (round (round (round (round s (get_or ks 0 0) (get_or ws 0 0)) (get_or ks 1 0) (get_or ws 1 0)) (get_or ks 2 0) (get_or ws 2 0)) (get_or ks 3 0) (get_or ws 3 0)) (get_or ks 4 0) (get_or ws 4 0)) (get_or ks 5 0) (get_or ws 5 0)) (get_or ks 6 0) (get_or ws 6 0)) (get_or ks 7 0) (get_or ws 7 0)
    ≡ rounded s (zip ws ks)
unfolding rounded
eight_rounds s ws ks l m =
    let pair : ℕ → ℕ × ℕ = λ i. (get_or ws i 0, get_or ks i 0) in
    let long : length (zip ws ks) ≡ 8 = length_pairs ws ks (l ∙ sym m) ∙ l in
    let whole : zip ws ks ≡ map pair (range_with_len 0 8) = fill_by_all pair (zip ws ks) 8 (0, 0) long (λ k h. get_or-zip ws ks k (0, 0) (omega arith) (omega arith)) in
    ap (λ (ps : List (ℕ × ℕ)). fold (λ t p. round t p.1 p.0) s ps) (sym whole)

zip_none : (ws : List ℕ) → ◌≡◌ {A = List (ℕ × ℕ)} (zip ws []) []
zip_none [] = refl
zip_none (w ∷ ws) = refl

zip_split : (n : ℕ) (ws ks : List ℕ) → zip (take n ws) (take n ks) ++ zip (drop n ws) (drop n ks) ≡ zip ws ks
zip_split zero ws ks = refl
zip_split (suc n) [] ks = refl
zip_split (suc n) (w ∷ ws) [] = zip_none (drop n ws)
zip_split (suc n) (w ∷ ws) (k ∷ ks) = ap (λ l. (w, k) ∷ l) (zip_split n ws ks)

-- the same by chunks of eight
pub chunks_rounds : (k : ℕ) (s ws ks : List ℕ) → length ws ≡ 8 * k → length ks ≡ 8 * k → fold (λ t p. rounded t (zip p.0 p.1)) s (zip (first_chunks 8 k ws) (first_chunks 8 k ks)) ≡ rounded s (zip ws ks)
unfolding rounded
chunks_rounds zero s ws ks l m = ap (λ (v : List ℕ). rounded s (zip v ks)) (sym (nil_from_length ws l))
chunks_rounds (suc k) s ws ks l m =
    let dw = length-drop 8 ws in
    let dk = length-drop 8 ks in
    chunks_rounds k (rounded s (zip (take 8 ws) (take 8 ks))) (drop 8 ws) (drop 8 ks) (omega arith) (omega arith)
    ∙ sym (fold-append (λ (t : List ℕ) (p : ℕ × ℕ). round t p.1 p.0) s (zip (take 8 ws) (take 8 ks)) (zip (drop 8 ws) (drop 8 ks)))
    ∙ ap (rounded s) (zip_split 8 ws ks)
