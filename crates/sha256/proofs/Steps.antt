-- Steps byte by byte, and the blocks that they come to.
use Rattle.std.proofs.Common.{◌≡◌, ℕ, zero, suc, ◌+◌, ◌*◌, ◌/◌, ◌%◌, ◌<◌, ◌≤◌, cond, List, [], ◌∷◌, ◌++◌, length, get_or, take, drop, sym, refl, ap, ◌∙◌, append_assoc, append-nil, add-zero, suc-add, zero-add, arith, eq-eqb, ne_eqb}
use Rattle.std.proofs.lemmas.List.{take_at, drop_at, get_or_at, drop-drop, take-append-le, drop-append-le, length-drop, length-take-le, length-append, take-append-drop, length_push, nil_from_length}
use Rattle.sha256.specs.Fips.{H0, block, blocks, tail, spelled, digest}
use Rattle.sink.specs.Write.{steps}
use Rattle.sha256.specs.Bytes.{wrote}
use Rattle.sha256.specs.Taking.{laid, stepped, step, unfinished, Takes}
use Rattle.sha256.specs.Hashing.{start, finished, answer}
use Rattle.sha256.specs.declared.blocks.Blocks.{Blocks}
use Rattle.std.specs.List.{fold}
use Rattle.std.specs.Simd.{first_chunks}
use Rattle.sha256.proofs.Ends.{wrote_front, wrote_all}

-- ---- runs of blocks

blocks_add : (n m : ℕ) (h bs : List ℕ) → blocks (n + m) h bs ≡ blocks m (blocks n h bs) (drop (64 * n) bs)
unfolding blocks
blocks_add zero m h bs = ap (λ k. blocks k h bs) (zero-add m)
blocks_add (suc n) m h bs =
    ap (λ k. blocks k h bs) (suc-add n m) ∙ blocks_add n m (block h (take 64 bs)) (drop 64 bs)
    ∙ ap (λ l. blocks m (blocks n (block h (take 64 bs)) (drop 64 bs)) l)
    (drop-drop (64 * n) 64 bs ∙ ap (λ k. drop k bs) (let e : 64 + 64 * n ≡ 64 * suc n = omega arith in e))

-- the hash of some blocks, one after another
pub blocks_fold : (n : ℕ) (h bs : List ℕ) → fold block h (first_chunks 64 n bs) ≡ blocks n h bs
unfolding blocks
blocks_fold zero h bs = refl
blocks_fold (suc n) h bs = blocks_fold n (block h (take 64 bs)) (drop 64 bs)

blocks_front : (n : ℕ) (h xs ys : List ℕ) → 64 * n ≤ length xs → blocks n h (xs ++ ys) ≡ blocks n h xs
unfolding blocks
blocks_front zero h xs ys l = refl
blocks_front (suc n) h xs ys l =
    let le : 64 ≤ length xs = omega arith in
    let d = length-drop 64 xs in
    (λ i. blocks n (block h (take-append-le 64 xs ys le i)) (drop-append-le 64 xs ys le i))
    ∙ blocks_front n (block h (take 64 xs)) (drop 64 xs) ys (omega arith)

length_block : (h b : List ℕ) → length (block h b) ≡ 8
unfolding block
length_block h b = refl

length_blocks : (n : ℕ) (h bs : List ℕ) → length h ≡ 8 → length (blocks n h bs) ≡ 8
unfolding blocks
length_blocks zero h bs l = l
length_blocks (suc n) h bs l = length_blocks n (block h (take 64 bs)) (drop 64 bs) (length_block h (take 64 bs))

-- ---- steps

pub steps_append : (s xs ys : List ℕ) → steps step s (xs ++ ys) ≡ steps step (steps step s xs) ys
steps_append s [] ys = refl
steps_append s (x ∷ xs) ys = steps_append (step s x) xs ys

module _ (w : List ℕ) (n : ℕ) (p : List ℕ) (l : length w ≡ 8) where
  words_of : take 8 (laid w n p) ≡ w
  words_of = take_at w (n ∷ p) 8 l

  count_of : get_or (laid w n p) 8 0 ≡ n
  count_of = get_or_at w n p 0 8 l

  bytes_of : drop 9 (laid w n p) ≡ p
  bytes_of = sym (drop-drop 1 8 (laid w n p)) ∙ ap (drop 1) (drop_at w (n ∷ p) 8 l)

  step_is : (b : ℕ) → step (laid w n p) b ≡ stepped w n (p ++ b ∷ [])
  unfolding step
  step_is b = λ i. stepped (words_of i) (count_of i) (bytes_of i ++ b ∷ [])

  pub answer_is : answer (laid w n p) ≡ finished w n p
  unfolding answer
  answer_is = λ i. finished (words_of i) (count_of i) (bytes_of i)

  step_in : (b : ℕ) → length p < 63 → step (laid w n p) b ≡ laid w (n + 1) (p ++ b ∷ [])
  step_in b h =
      step_is b
      ∙ ap (λ q. cond q (laid (block w (p ++ b ∷ [])) (n + 1) []) (laid w (n + 1) (p ++ b ∷ []))) (ne_eqb (length (p ++ b ∷ [])) 64 (λ e. omega (arith, length_push p b)))

  step_end : (b : ℕ) → length p ≡ 63 → step (laid w n p) b ≡ laid (block w (p ++ b ∷ [])) (n + 1) []
  step_end b h =
      step_is b
      ∙ ap (λ q. cond q (laid (block w (p ++ b ∷ [])) (n + 1) []) (laid w (n + 1) (p ++ b ∷ []))) (eq-eqb (length (p ++ b ∷ [])) 64 (omega (arith, length_push p b)))

-- bytes that do not finish a block
pub steps_part : (w : List ℕ) (n : ℕ) (p xs : List ℕ) → length w ≡ 8 → length p + length xs < 64 → steps step (laid w n p) xs ≡ laid w (n + length xs) (p ++ xs)
steps_part w n p [] l h = λ i. laid w (sym (add-zero n) i) (sym (append-nil p) i)
steps_part w n p (x ∷ xs) l h =
    ap (λ s. steps step s xs) (step_in w n p l x (omega arith))
    ∙ steps_part w (n + 1) (p ++ x ∷ []) xs l (omega (arith, length_push p x))
    ∙ (λ i. laid w ((let e : n + 1 + length xs ≡ n + length (x ∷ xs) = omega arith in e) i) (append_assoc p (x ∷ []) xs i))

-- bytes that just finish a block
pub steps_block : (w : List ℕ) (n : ℕ) (p xs : List ℕ) → length w ≡ 8 → 0 < length xs → length p + length xs ≡ 64 → steps step (laid w n p) xs ≡ laid (block w (p ++ xs)) (n + length xs) []
steps_block w n p [] l h e = absurd (omega arith)
steps_block w n p (x ∷ []) l h e = step_end w n p l x (omega arith)
steps_block w n p (x ∷ y ∷ xs) l h e =
    ap (λ s. steps step s (y ∷ xs)) (step_in w n p l x (omega arith))
    ∙ steps_block w (n + 1) (p ++ x ∷ []) (y ∷ xs) l (omega arith) (omega (arith, length_push p x))
    ∙ (λ i. laid (block w (append_assoc p (x ∷ []) (y ∷ xs) i)) ((let e : n + 1 + length (y ∷ xs) ≡ n + length (x ∷ y ∷ xs) = omega arith in e) i) [])

-- whole blocks
steps_blocks : (k : ℕ) (w : List ℕ) (n : ℕ) (xs : List ℕ) → length w ≡ 8 → length xs ≡ 64 * k → steps step (laid w n []) xs ≡ laid (blocks k w xs) (n + length xs) []
unfolding blocks
steps_blocks zero w n xs l h =
    let none = nil_from_length xs h in
    ap (λ ys. steps step (laid w n []) ys) none ∙ (λ i. laid w (sym (add-zero n) i) []) ∙ ap (λ ys. laid w (n + length ys) []) (sym none)
steps_blocks (suc k) w n xs l h =
    let t : length (take 64 xs) ≡ 64 = length-take-le 64 xs (omega arith) in
    let d = length-drop 64 xs in
    ap (λ ys. steps step (laid w n []) ys) (sym (take-append-drop 64 xs)) ∙ steps_append (laid w n []) (take 64 xs) (drop 64 xs)
    ∙ ap (λ s. steps step s (drop 64 xs)) (steps_block w n [] (take 64 xs) l (omega arith) (omega arith))
    ∙ steps_blocks k (block w (take 64 xs)) (n + length (take 64 xs)) (drop 64 xs) (length_block w (take 64 xs)) (omega arith)
    ∙ ap (λ m. laid (blocks k (block w (take 64 xs)) (drop 64 xs)) m []) (omega arith)

-- any bytes, between blocks
pub steps_bulk : (k : ℕ) (w : List ℕ) (n : ℕ) (xs : List ℕ) → length w ≡ 8 → k ≡ length xs / 64 → steps step (laid w n []) xs ≡ laid (blocks k w xs) (n + length xs) (drop (64 * k) xs)
steps_bulk k w n xs l e =
    let t : length (take (64 * k) xs) ≡ 64 * k = length-take-le (64 * k) xs (omega arith) in
    let d = length-drop (64 * k) xs in
    let whole : blocks k w (take (64 * k) xs) ≡ blocks k w xs = sym (blocks_front k w (take (64 * k) xs) (drop (64 * k) xs) (omega arith)) ∙ ap (λ ys. blocks k w ys) (take-append-drop (64 * k) xs) in
    ap (λ ys. steps step (laid w n []) ys) (sym (take-append-drop (64 * k) xs)) ∙ steps_append (laid w n []) (take (64 * k) xs) (drop (64 * k) xs)
    ∙ ap (λ s. steps step s (drop (64 * k) xs)) (steps_blocks k w n (take (64 * k) xs) l t)
    ∙ steps_part (blocks k w (take (64 * k) xs)) (n + length (take (64 * k) xs)) [] (drop (64 * k) xs) (length_blocks k w (take (64 * k) xs) l) (omega arith)
    ∙ (λ i. laid (whole i) ((let q : n + length (take (64 * k) xs) + length (drop (64 * k) xs) ≡ n + length xs = omega arith in q) i) (drop (64 * k) xs))

-- ---- what the hasher's methods leave, where w, d, n and f are its words, its block, the length so far and how many bytes of the block count

module _ (w d e : List ℕ) (n f : ℕ) (src : List ℕ) (lw : length w ≡ 8) (ld : length d ≡ 64) where
  pub keep_is : f + length src < 64 → e ≡ wrote d f src → laid w (n + length src) (take (f + length src) e) ≡ steps step (laid w n (take f d)) src
  keep_is h is =
      ap (λ p. laid w (n + length src) p) (ap (take (f + length src)) is ∙ wrote_front d src f (f + length src) (omega arith) refl)
      ∙ sym (steps_part w n (take f d) src lw (omega (arith, length-take-le f d (omega arith))))

  pub close_is : (v : List ℕ) → f < 64 → f + length src ≡ 64 → e ≡ wrote d f src → v ≡ block w e → laid v (n + length src) [] ≡ steps step (laid w n (take f d)) src
  close_is v h whole is hashed =
      ap (λ u. laid u (n + length src) []) (hashed ∙ ap (block w) (is ∙ wrote_all d src f (omega arith)))
      ∙ sym (steps_block w n (take f d) src lw (omega arith) (omega (arith, length-take-le f d (omega arith))))

  pub bulk_is : (v rest : List ℕ) → f ≡ 0 → v ≡ blocks (length src / 64) w src → rest ≡ drop (64 * (length src / 64)) src → e ≡ wrote d 0 rest
      → laid v (n + length src) (take (length src % 64) e) ≡ steps step (laid w n (take f d)) src
  bulk_is v rest none hashed left is =
      let len = length-drop (64 * (length src / 64)) src in
      let long = ap length left in
      (λ i. laid (hashed i) (n + length src) ((ap (take (length src % 64)) is ∙ wrote_front d rest 0 (length src % 64) (omega arith) (omega arith) ∙ left) i))
      ∙ sym (ap (λ k. steps step (laid w n (take k d)) src) none ∙ steps_bulk (length src / 64) w n src lw refl)

-- one string taken, and then another
pub takes_then : {a b c : Blocks} {xs p q : List ℕ} → p ++ q ≡ xs → Takes a p b → Takes b q c → Takes a xs c
takes_then {a} {b} {c} {xs} {p} {q} e t u = record {
  state = λ n.
      let long : n + length xs ≡ n + length p + length q = omega (arith, ap length e, length-append p q) in
      ap (unfinished c) long ∙ u.state (n + length p) ∙ ap (λ s. steps step s q) (t.state n) ∙ sym (steps_append (unfinished a n) p q) ∙ ap (steps step (unfinished a n)) e;
  filled = omega (arith, ap length e, length-append p q, t.filled, u.filled);
}

-- the words after a string: those after all whole blocks of the unfinished one and the string
pub words_after : (w p xs v q : List ℕ) (m : ℕ) → length w ≡ 8 → length v ≡ 8 → length p < 64 → laid v m q ≡ steps step (laid w (0 + length p) p) xs → v ≡ blocks (length (p ++ xs) / 64) w (p ++ xs)
words_after w p xs v q m lw lv h e =
    let k : ℕ = length (p ++ xs) / 64 in
    let whole : laid v m q ≡ laid (blocks k w (p ++ xs)) (0 + length (p ++ xs)) (drop (64 * k) (p ++ xs)) =
    e ∙ ap (λ s. steps step s xs) (sym (steps_part w 0 [] p lw (omega arith))) ∙ sym (steps_append (laid w 0 []) p xs) ∙ steps_bulk k w 0 (p ++ xs) lw refl in
    sym (words_of v m q lv) ∙ ap (take 8) whole ∙ words_of (blocks k w (p ++ xs)) _ _ (length_blocks k w (p ++ xs) lw)

pub answer_from : (w p v q r : List ℕ) (m n : ℕ) → length w ≡ 8 → length v ≡ 8 → length p < 64 → laid v m q ≡ steps step (laid w (0 + length p) p) (tail n) → r ≡ spelled v → r ≡ answer (laid w n p)
answer_from w p v q r m n lw lv h e said = said ∙ ap spelled (words_after w p (tail n) v q m lw lv h e) ∙ sym (answer_is w n p lw)

-- ---- the law

length_H0 : length H0 ≡ 8
unfolding H0
length_H0 = refl

pub standard : (b : List ℕ) → answer (steps step start b) ≡ digest b
unfolding digest
standard b =
    let k : ℕ = length b / 64 in
    let t = tail (length b) in
    let cut : 64 * k ≤ length b = omega arith in
    let rest = drop (64 * k) b in
    let joined : drop (64 * k) (b ++ t) ≡ rest ++ t = drop-append-le (64 * k) b t cut in
    let count : length (b ++ t) / 64 ≡ k + length (rest ++ t) / 64 = omega (arith, length-append b t, length-append rest t, length-drop (64 * k) b) in
    ap answer (steps_bulk k H0 0 b length_H0 refl ∙ ap (λ m. laid (blocks k H0 b) m rest) (zero-add (length b)))
    ∙ answer_is (blocks k H0 b) (length b) rest (length_blocks k H0 b length_H0)
    ∙ sym (ap spelled (ap (λ m. blocks m H0 (b ++ t)) count ∙ blocks_add k (length (rest ++ t) / 64) H0 (b ++ t)
    ∙ (λ i. blocks (length (rest ++ t) / 64) (blocks_front k H0 b t cut i) (joined i))))
