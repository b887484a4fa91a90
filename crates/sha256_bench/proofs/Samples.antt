-- The bytes of the sample, as a chain makes them.
use Rattle.std.proofs.Common.{◌≡◌, ℕ, zero, suc, ◌+◌, ◌%◌, List, [], ◌∷◌, ◌++◌, map, refl, ap, ◌∙◌, arith}
use Rattle.std.proofs.lemmas.List.FromFn.{map-range_with_len_more}
use Rattle.std.specs.List.{range_with_len}
use Rattle.sha256_bench.specs.Sample.{sample}

pub chain_is_sample : (n : ℕ) → map (λ i. i % 251) (range_with_len 0 n) ≡ sample n
unfolding sample
chain_is_sample zero = refl
chain_is_sample (suc n) =
    let one_more : suc n ≡ n + 1 = omega arith in
    ap (λ k. map (λ i. i % 251) (range_with_len 0 k)) one_more
    ∙ map-range_with_len_more (λ i. i % 251) 0 n n (omega arith)
    ∙ ap (λ (v : List ℕ). v ++ n % 251 ∷ []) (chain_is_sample n)
