-- Pairs of digits, written one after another.
use Rattle.std.proofs.Common.{◌≡◌, ℕ, ◌+◌, ◌*◌, ◌/◌, ◌<◌, ◌≤◌, List, [], ◌∷◌, ◌++◌, length, get_or, take, drop, sym, refl, ap, ◌∙◌, subst, arith}
use Rattle.std.proofs.lemmas.List.{take_more, take-append-drop, take_at, length-take-le, flat_map_more}
use Rattle.sink.specs.Numerals.{pair, hex}
use Rattle.sink.specs.Write.{Step, Held, Taken}
use Rattle.sink.proofs.Writing.{taken_then}

pub length_hex : (bs : List ℕ) → length (hex bs) ≡ 2 * length bs
length_hex [] = refl
length_hex (b ∷ bs) = omega (arith, length_hex bs)

hex_more : (bs : List ℕ) (i : ℕ) → i < length bs → hex (take (i + 1) bs) ≡ hex (take i bs) ++ pair (get_or bs i 0)
hex_more bs i within = ap hex (take_more bs i 0 within) ∙ sym (flat_map_more pair [] (take i bs) (get_or bs i 0))

hex_append : (a b : List ℕ) → hex (a ++ b) ≡ hex a ++ hex b
hex_append [] b = refl
hex_append (x ∷ a) b = ap (λ (v : List ℕ). pair x ++ v) (hex_append a b)

hex_front : (bs : List ℕ) (i n : ℕ) → i ≤ length bs → n ≡ 2 * i → take n (hex bs) ≡ hex (take i bs)
hex_front bs i n within e =
    ap (take n) (ap hex (sym (take-append-drop i bs)) ∙ hex_append (take i bs) (drop i bs))
    ∙ take_at (hex (take i bs)) (hex (drop i bs)) n (length_hex (take i bs) ∙ omega (arith, length-take-le i bs within))

-- one more pair
pub taken_pairs : (f : Step) (h k l : Held) (bs : List ℕ) (i : ℕ) → i < length bs → Taken f h (hex (take i bs)) k → Taken f k (pair (get_or bs i 0)) l → Taken f h (hex (take (i + 1) bs)) l
taken_pairs f h k l bs i within a b =
    subst (λ (v : List ℕ). Taken f h v l) (sym (hex_more bs i within)) (taken_then f h k l (hex (take i bs)) (pair (get_or bs i 0)) a b)

-- the next pair does not fit: what went in are the pairs that do
pub pairs_kept : (f : Step) (h k l : Held) (bs : List ℕ) (i : ℕ) → i < length bs → Taken f h (hex (take i bs)) k → k.meaning.remaining < 2 → l ≡ k
    → Taken f h (take (2 * (h.meaning.remaining / 2)) (hex bs)) l
pairs_kept f h k l bs i within a past same =
    let many : length (hex (take i bs)) ≡ 2 * i = length_hex (take i bs) ∙ omega (arith, length-take-le i bs (omega arith)) in
    let half : 2 * (h.meaning.remaining / 2) ≡ 2 * i = omega (arith, a.0) in
    let front : hex (take i bs) ≡ take (2 * (h.meaning.remaining / 2)) (hex bs) = sym (hex_front bs i (2 * (h.meaning.remaining / 2)) (omega arith) half) in
    subst (λ (v : List ℕ). Taken f h v l) front (subst (λ (x : Held). Taken f h (hex (take i bs)) x) (sym same) a)
