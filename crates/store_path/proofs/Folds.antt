-- The fold of a digest, one byte after another.
use Rattle.std.proofs.Common.{◌≡◌, ℕ, ◌+◌, ◌%◌, ◌<◌, Bool, true, false, cond, eqb, List, [], ◌∷◌, ◌++◌, map, length, get_or, set, filter, sym, ap, ◌∙◌, inl, inr, map-id, arith}
use lib.Bits.{bit_xor, xor_zero_l, xor_zero_r, xor_assoc}
use Rattle.std.proofs.lemmas.List.FromFn.{filter_of_map_range_with_len_more}
use Rattle.std.proofs.lemmas.List.{map-append, append-nil, get_or-set_same, get_or-set_other}
use Rattle.std.proofs.lemmas.Bool.Decides.{eqb_tells}
use Rattle.std.specs.List.{range_with_len}
use Rattle.store_path.specs.Base32.{xor_all, indices, folded}

xor_push : (xs : List ℕ) (x : ℕ) → xor_all (xs ++ (x ∷ [])) ≡ bit_xor (xor_all xs) x
xor_push [] x = xor_zero_r x ∙ sym (xor_zero_l x)
xor_push (y ∷ xs) x = ap (bit_xor y) (xor_push xs x) ∙ sym (xor_assoc y (xor_all xs) x)

indices_more : (n i : ℕ) → indices (n + 1) i ≡ indices n i ++ cond (eqb (n % 20) i) (n ∷ []) []
indices_more n i =
    let p : ℕ → Bool = λ k. eqb (k % 20) i in
    ap (filter p) (sym (map-id (range_with_len 0 (n + 1))))
    ∙ filter_of_map_range_with_len_more p (λ k. k) 0 n n (omega arith)
    ∙ ap (λ (l : List ℕ). filter p l ++ cond (eqb (n % 20) i) (n ∷ []) []) (map-id (range_with_len 0 n))

module _ (bs : List ℕ) (n i : ℕ) where
  joined : (b : Bool) → eqb (n % 20) i ≡ b → folded bs (n + 1) i ≡ xor_all (map (λ k. get_or bs k 0) (indices n i) ++ map (λ k. get_or bs k 0) (cond b (n ∷ []) []))
  joined b e =
      ap (λ (l : List ℕ). xor_all (map (λ k. get_or bs k 0) l)) (indices_more n i ∙ ap (λ (c : Bool). indices n i ++ cond c (n ∷ []) []) e)
      ∙ ap xor_all (map-append (λ k. get_or bs k 0) (indices n i) (cond b (n ∷ []) []))

  -- the next byte belongs to place i, or it does not
  pub folded_here : eqb (n % 20) i ≡ true → folded bs (n + 1) i ≡ bit_xor (folded bs n i) (get_or bs n 0)
  folded_here e = joined true e ∙ xor_push (map (λ k. get_or bs k 0) (indices n i)) (get_or bs n 0)

  pub folded_there : eqb (n % 20) i ≡ false → folded bs (n + 1) i ≡ folded bs n i
  folded_there e = joined false e ∙ ap xor_all (append-nil (map (λ k. get_or bs k 0) (indices n i)))

-- a turn: one byte is put to its place, and each place is the fold so far
pub folded_more : (bs out : List ℕ) (n : ℕ) → length out ≡ 20 → ((i : ℕ) → i < 20 → get_or out i 0 ≡ folded bs n i)
    → (i : ℕ) → i < 20 → get_or (set out (n % 20) (bit_xor (get_or out (n % 20) 0) (get_or bs n 0))) i 0 ≡ folded bs (n + 1) i
folded_more bs out n long before i within = elim (eqb_tells (n % 20) i) [ inl h ↦ here h.0 h.1 | inr h ↦ there h.0 h.1 ]
  where
    here : eqb (n % 20) i ≡ true → n % 20 ≡ i → get_or (set out (n % 20) (bit_xor (get_or out (n % 20) 0) (get_or bs n 0))) i 0 ≡ folded bs (n + 1) i
    here t e =
        ap (λ (k : ℕ). get_or (set out k (bit_xor (get_or out k 0) (get_or bs n 0))) i 0) e
        ∙ get_or-set_same out i (bit_xor (get_or out i 0) (get_or bs n 0)) 0 (omega arith)
        ∙ ap (λ (v : ℕ). bit_xor v (get_or bs n 0)) (before i within)
        ∙ sym (folded_here bs n i t)

    there : eqb (n % 20) i ≡ false → (n % 20 ≡ i → ⊥) → get_or (set out (n % 20) (bit_xor (get_or out (n % 20) 0) (get_or bs n 0))) i 0 ≡ folded bs (n + 1) i
    there t ne =
        get_or-set_other out (n % 20) i (bit_xor (get_or out (n % 20) 0) (get_or bs n 0)) 0 (λ e. ne (sym e))
        ∙ before i within
        ∙ sym (folded_there bs n i t)
