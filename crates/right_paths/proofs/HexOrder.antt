-- Hex keeps the byte order of strings, and none of its digits is escaped.
use Rattle.std.proofs.Common.{◌≡◌, ℕ, ◌+◌, ◌/◌, ◌%◌, ◌<◌, ◌≤◌, ltb, List, [], ◌∷◌, ◌++◌, Ordering, Less, Equal, Greater, sym, refl, ap, ◌∙◌, subst, inl, inr, append_assoc, arith}
use Rattle.std.proofs.lemmas.Bool.{cases_lt, cases_order, lt-ltb, le-ltb, ne_eqb, cond-true, cond-false}
use Rattle.std.specs.List.{flat_map}
use Rattle.sink.specs.Numerals.{digit, pair, hex}
use Rattle.canonical.specs.Order.{Under, Compared}
use Rattle.canonical.specs.Strings.{escaped}
use Rattle.canonical.proofs.Orders.{under_not_self, trichotomy}

digit_low : (n : ℕ) → n < 10 → digit n ≡ 48 + n
digit_low n l = cond-true (ltb n 10) (48 + n) (87 + n) (lt-ltb n 10 l)

digit_high : (n : ℕ) → 10 ≤ n → digit n ≡ 87 + n
digit_high n l = cond-false (ltb n 10) (48 + n) (87 + n) (le-ltb n 10 l)

digit_rises : (x y : ℕ) → x < y → digit x < digit y
digit_rises x y l = elim (cases_lt x 10) [
  | inl a ↦ elim (cases_lt y 10) [
    | inl b ↦ omega (arith, digit_low x a, digit_low y b)
    | inr b ↦ omega (arith, digit_low x a, digit_high y b)
  ]
  | inr a ↦ omega (arith, digit_high x a, digit_high y (omega arith))
]

-- a greater byte has a greater high digit, or the same one and a greater low digit
pair_rises : (x y : ℕ) (a b : List ℕ) → x < y → Under (pair x ++ a) (pair y ++ b)
pair_rises x y a b l = elim (cases_order (x / 16) (y / 16)) [
  | inl e ↦ inr (ap digit e, inl (digit_rises (x % 16) (y % 16) (omega arith)))
  | inr r ↦ elim r [
    | inl h ↦ inl (digit_rises (x / 16) (y / 16) h)
    | inr h ↦ absurd (omega arith)
  ]
]

pub hex_under : (a b : List ℕ) → Under a b → Under (hex a) (hex b)
hex_under [] [] h = absurd h
hex_under [] (y ∷ b) h = tt
hex_under (x ∷ a) [] h = absurd h
hex_under (x ∷ a) (y ∷ b) (inl h) = pair_rises x y (hex a) (hex b) h
hex_under (x ∷ a) (y ∷ b) (inr h) = inr (ap (λ (n : ℕ). digit (n / 16)) h.0, inr (ap (λ (n : ℕ). digit (n % 16)) h.0, hex_under a b h.1))

pub hex_apart : (a b : List ℕ) → hex a ≡ hex b → a ≡ b
hex_apart a b e = elim (trichotomy a b) [
  | inl u ↦ absurd (under_not_self (hex b) (subst (λ (v : List ℕ). Under v (hex b)) e (hex_under a b u)))
  | inr r ↦ elim r [
    | inl s ↦ s
    | inr u ↦ absurd (under_not_self (hex b) (subst (Under (hex b)) e (hex_under b a u)))
  ]
]

pub hex_compared : (a b : List ℕ) (o : Ordering) → Compared a b o → Compared (hex a) (hex b) o
hex_compared a b Less h = hex_under a b h
hex_compared a b Equal h = ap hex h
hex_compared a b Greater h = hex_under b a h

-- the bytes that are escaped are no digits
plain : (n : ℕ) → (n ≡ 34 → ⊥) → (n ≡ 92 → ⊥) → (n ≡ 10 → ⊥) → (n ≡ 13 → ⊥) → (n ≡ 9 → ⊥) → escaped n ≡ n ∷ []
plain n p q r s t =
    let a = ne_eqb n 34 p in
    let b = ne_eqb n 92 q in
    let c = ne_eqb n 10 r in
    let d = ne_eqb n 13 s in
    let e = ne_eqb n 9 t in
    cc

digit_plain : (n : ℕ) → escaped (digit n) ≡ digit n ∷ []
digit_plain n = elim (cases_lt n 10) [
  | inl l ↦ (let e = digit_low n l in plain (digit n) (λ f. omega arith) (λ f. omega arith) (λ f. omega arith) (λ f. omega arith) (λ f. omega arith))
  | inr l ↦ (let e = digit_high n l in plain (digit n) (λ f. omega arith) (λ f. omega arith) (λ f. omega arith) (λ f. omega arith) (λ f. omega arith))
]

hex_plain : (bs : List ℕ) → flat_map escaped (hex bs) ≡ hex bs
hex_plain [] = refl
hex_plain (b ∷ bs) =
    let h = digit_plain (b / 16) in
    let l = digit_plain (b % 16) in
    let r = hex_plain bs in
    cc

-- the canonical text of a hash is its digits between quotes
pub quoted_hex : (bs rest : List ℕ) → hex bs ++ (34 ∷ rest) ≡ (flat_map escaped (hex bs) ++ (34 ∷ [])) ++ rest
quoted_hex bs rest = sym (append_assoc (flat_map escaped (hex bs)) (34 ∷ []) rest ∙ ap (λ (v : List ℕ). v ++ (34 ∷ rest)) (hex_plain bs))
