-- The digits of a number past 64 bits: the front, and then the last two.
use Rattle.std.proofs.Common.{◌≡◌, ℕ, zero, suc, ◌+◌, ◌/◌, ◌%◌, ◌^◌, ◌<◌, ◌≤◌, false, cond, List, [], ◌∷◌, ◌++◌, decimal, sym, refl, ap, ◌∙◌, ⊎_elim, append_assoc, arith}
use Rattle.std.proofs.lemmas.Bool.{eq-eqb, ne_eqb, lt-ltb, cases_lt}
use Rattle.std.specs.Fmt.{digit_glyph, digits_onto, digits}

abbrev spell : ℕ → ℕ → List ℕ → List ℕ
spell k n acc = digits_onto k 10 false n acc

abbrev low : ℕ → ℕ
low n = digit_glyph false (n % 10)

last : (k n : ℕ) (acc : List ℕ) → n < 10 → spell (suc k) n acc ≡ low n ∷ acc
last k n acc h = ap (λ t. cond t (low n ∷ acc) (spell k (n / 10) (low n ∷ acc))) (eq-eqb (n / 10) 0 (omega arith))

next : (k n : ℕ) (acc : List ℕ) → 10 ≤ n → spell (suc k) n acc ≡ spell k (n / 10) (low n ∷ acc)
next k n acc h = ap (λ t. cond t (low n ∷ acc) (spell k (n / 10) (low n ∷ acc))) (ne_eqb (n / 10) 0 (λ e. omega arith))

-- what stands behind the digits stays there
onto : (k n : ℕ) (acc : List ℕ) → spell k n acc ≡ spell k n [] ++ acc
onto zero n acc = refl
onto (suc k) n acc = ⊎_elim
    (λ l. last k n acc l ∙ ap (λ (x : List ℕ). x ++ acc) (sym (last k n [] l)))
    (λ l.
    next k n acc l
    ∙ onto k (n / 10) (low n ∷ acc)
    ∙ sym (append_assoc (spell k (n / 10) []) (low n ∷ []) acc)
    ∙ ap (λ (x : List ℕ). x ++ acc) (sym (next k n [] l ∙ onto k (n / 10) (low n ∷ [])))
    )
    (cases_lt n 10)

-- as many turns as there are digits are enough
turns : (j k n : ℕ) (acc : List ℕ) → n < 10 ^ j → n < 10 ^ k → spell (suc j) n acc ≡ spell (suc k) n acc
turns zero k n acc p q = last zero n acc (omega arith) ∙ sym (last k n acc (omega arith))
turns (suc j) zero n acc p q = last (suc j) n acc (omega arith) ∙ sym (last zero n acc (omega arith))
turns (suc j) (suc k) n acc p q = ⊎_elim
    (λ l. last (suc j) n acc l ∙ sym (last (suc k) n acc l))
    (λ l. next (suc j) n acc l ∙ turns j k (n / 10) (low n ∷ acc) (omega arith) (omega arith) ∙ sym (next (suc k) n acc l))
    (cases_lt n 10)

low_digit : (n : ℕ) → low n ≡ 48 + n % 10
low_digit n = ap (λ t. cond t (48 + n % 10) (87 + n % 10)) (lt-ltb (n % 10) 10 (omega arith))

decimal_push : (n : ℕ) → 10 ≤ n → n < 2 ^ 128 → decimal n ≡ decimal (n / 10) ++ ((48 + n % 10) ∷ [])
unfolding digits
decimal_push n many small =
    next 63 n [] many
    ∙ turns 62 63 (n / 10) (low n ∷ []) (omega arith) (omega arith)
    ∙ onto 64 (n / 10) (low n ∷ [])
    ∙ ap (λ (d : ℕ). decimal (n / 10) ++ (d ∷ [])) (low_digit n)

pub decimal_hundreds : (n : ℕ) → 100 ≤ n → n < 2 ^ 128 → decimal (n / 100) ++ ((48 + n % 100 / 10) ∷ (48 + n % 100 % 10) ∷ []) ≡ decimal n
decimal_hundreds n many small =
    let front : n / 10 / 10 ≡ n / 100 = omega arith in
    let tens : 48 + n / 10 % 10 ≡ 48 + n % 100 / 10 = omega arith in
    let ones : 48 + n % 10 ≡ 48 + n % 100 % 10 = omega arith in
    sym (decimal_push n (omega arith) small
    ∙ ap (λ (v : List ℕ). v ++ ((48 + n % 10) ∷ [])) (decimal_push (n / 10) (omega arith) (omega arith))
    ∙ append_assoc (decimal (n / 10 / 10)) ((48 + n / 10 % 10) ∷ []) ((48 + n % 10) ∷ [])
    ∙ (λ i. decimal (front i) ++ (tens i ∷ ones i ∷ [])))
