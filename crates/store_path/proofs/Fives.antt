-- The number in five bits, one bit after another.
use Rattle.std.proofs.Common.{◌≡◌, ℕ, ◌+◌, ◌*◌, ◌%◌, ◌^◌, ◌<◌, ap, ◌∙◌, arith}
use lib.Bits.{bit_or}
use Rattle.std.specs.Int.Bits.{or_shifted_r}
use Rattle.std.specs.List.{fold, range_with_len}
use Rattle.std.proofs.lemmas.Nat.{shl_whole}

module _ (x : ℕ → ℕ) (bits : (i : ℕ) → x i < 2) where
  higher : (n i : ℕ) → n < 2 ^ i → i < 8 → bit_or n ((x i * 2 ^ i) % 256) ≡ x i * 2 ^ i + n
  higher n i low within = ap (bit_or n) (shl_whole (x i) 1 i 8 (bits i) (omega arith)) ∙ or_shifted_r (x i) i n low

  pub five_bits : fold (λ n i. bit_or n ((x i * 2 ^ i) % 256)) 0 (range_with_len 0 5) ≡ x 0 + 2 * x 1 + 4 * x 2 + 8 * x 3 + 16 * x 4
  five_bits =
      let n0 = bit_or 0 ((x 0 * 2 ^ 0) % 256) in
      let n1 = bit_or n0 ((x 1 * 2 ^ 1) % 256) in
      let n2 = bit_or n1 ((x 2 * 2 ^ 2) % 256) in
      let n3 = bit_or n2 ((x 3 * 2 ^ 3) % 256) in
      let e0 : n0 ≡ x 0 * 1 + 0 = higher 0 0 (omega arith) (omega arith) in
      let e1 : n1 ≡ x 1 * 2 + n0 = higher n0 1 (omega (arith, e0, bits 0)) (omega arith) in
      let e2 : n2 ≡ x 2 * 4 + n1 = higher n1 2 (omega (arith, e0, e1, bits 0, bits 1)) (omega arith) in
      let e3 : n3 ≡ x 3 * 8 + n2 = higher n2 3 (omega (arith, e0, e1, e2, bits 0, bits 1, bits 2)) (omega arith) in
      let e4 : bit_or n3 ((x 4 * 2 ^ 4) % 256) ≡ x 4 * 16 + n3 = higher n3 4 (omega (arith, e0, e1, e2, e3, bits 0, bits 1, bits 2, bits 3)) (omega arith) in
      omega (arith, e0, e1, e2, e3, e4)
