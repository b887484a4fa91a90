-- Every answer has 32 bytes, whatever the state that it is worked out from.
-- Source: FIPS 180-4, section 6.2: a digest is eight words of 32 bits.
use Rattle.std.proofs.Common.{◌≡◌, ℕ, zero, suc, ◌+◌, ◌*◌, ◌/◌, ◌≤◌, ◌⊎◌, List, [], ◌∷◌, ◌++◌, length, get_or, ltb, take, drop, replicate, refl, ap, ◌∙◌, inl, inr, arith}
use Rattle.std.proofs.lemmas.List.{length-append, length-take-le, length-replicate, get_or_past}
use Rattle.std.proofs.lemmas.Bool.{cases_Bool, ltb-true, ltb-false}
use Rattle.sink.specs.Digest.{AllWide}
use Rattle.sha256.specs.Fips.{zeros, be64, tail, block, blocks, spelled}
use Rattle.sha256.specs.Hashing.{answer, finished}

spelled_long : (h : List ℕ) → length (spelled h) ≡ 4 * length h
unfolding spelled
spelled_long [] = refl
spelled_long (x ∷ h) = let rest = spelled_long h in omega arith

blocks_long : (n : ℕ) (h bs : List ℕ) → length h ≡ 8 → length (blocks n h bs) ≡ 8
unfolding blocks block
blocks_long zero h bs e = e
blocks_long (suc n) h bs e = blocks_long n (block h (take 64 bs)) (drop 64 bs) refl

-- with one block at least the words from which the hash goes on do not matter
some_blocks_long : (n : ℕ) (h bs : List ℕ) → 1 ≤ n → length (blocks n h bs) ≡ 8
unfolding blocks block
some_blocks_long zero h bs few = absurd (omega arith)
some_blocks_long (suc n) h bs few = blocks_long n (block h (take 64 bs)) (drop 64 bs) refl

tail_long : (n : ℕ) → length (tail n) ≡ 9 + zeros n
unfolding tail
tail_long n =
    let long : length (replicate (zeros n) 0) ≡ zeros n = length-replicate (zeros n) 0 in
    let a : length (replicate (zeros n) 0 ++ be64 (8 * n)) ≡ zeros n + 8 = length-append (replicate (zeros n) 0) (be64 (8 * n)) ∙ ap (λ (k : ℕ). k + 8) long in
    omega arith

words_long : (w p : List ℕ) (n : ℕ) → (length w ≡ 8) ⊎ (n ≡ 0) → length (blocks (length (p ++ tail n) / 64) w (p ++ tail n)) ≡ 8
words_long w p n (inl e) = blocks_long (length (p ++ tail n) / 64) w (p ++ tail n) e
words_long w p n (inr z) =
    let a = length-append p (tail n) in
    let b = tail_long n in
    let c : zeros n ≡ 55 = ap zeros z in
    some_blocks_long (length (p ++ tail n) / 64) w (p ++ tail n) (omega arith)

finished_long : (w p : List ℕ) (n : ℕ) → (length w ≡ 8) ⊎ (n ≡ 0) → length (finished w n p) ≡ 32
finished_long w p n x = let a = spelled_long (blocks (length (p ++ tail n) / 64) w (p ++ tail n)) in let b = words_long w p n x in omega arith

-- a state of nine numbers has eight words; of a shorter one no byte is counted
eight : (s : List ℕ) → (length (take 8 s) ≡ 8) ⊎ (get_or s 8 0 ≡ 0)
eight s = elim (cases_Bool (ltb (length s) 9)) [
  | inl h ↦ let p = ltb-true (length s) 9 h in inr (get_or_past s 8 0 (omega arith))
  | inr h ↦ let p = ltb-false (length s) 9 h in inl (length-take-le 8 s (omega arith))
]

pub answers_wide : AllWide answer
unfolding answer
answers_wide s = finished_long (take 8 s) (drop 9 s) (get_or s 8 0) (eight s)
