use Rattle.std.proofs.Common.{◌≡◌, ℕ, ◌+◌, ◌*◌, ◌%◌, ◌^◌, refl, sym, ap, ◌∙◌, arith, rules}
use lib.Bits.{bit_or}
use Rattle.std.specs.List.{fold, range_with_len}
use Rattle.std.proofs.lemmas.Fn.{fold_over}
use Rattle.std.proofs.lemmas.Iterator.{YieldsList-from_range}
use Rattle.std.proofs.iter.Yields.{nat_range_steps}
use Rattle.std.proofs.lemmas.List.Sums.{fold_push}
use Rattle.store_path.specs.Base32.{bit}
use Rattle.store_path.proofs.Fives.{five_bits}
use Rattle.store_path.proofs.encoding.five_at.Goals as goal

pub returns : goal.returns
returns c =
    let bs = c.args.bytes.now in
    let b = c.args.b in
    let x : ℕ → ℕ = λ i. bit bs (b + i) in
    let h : ℕ → ℕ → ℕ = λ n i. bit_or n ((x i * 2 ^ i) % 256) in
    fold_over nat_range_steps (λ i. i) _ (λ is n. n ≡ fold h 0 is) _
    (λ is n i n' f' e k. ((let turn : n' ≡ bit_or n ((bit bs (b + i) * 2 ^ i) % 256) = search rules in turn ∙ ap (λ (m : ℕ). bit_or m ((bit bs (b + i) * 2 ^ i) % 256)) e ∙ sym (fold_push h 0 is i)), search rules))
    (record { start = 0; end = 5 }) (range_with_len 0 5) 0 c.fold.result (YieldsList-from_range 0 5 5 refl refl).runs refl c.fold.ensures.ran
    ∙ five_bits x (λ i. omega arith)
    ∙ ap (λ (n : ℕ). n + 2 * x 1 + 4 * x 2 + 8 * x 3 + 16 * x 4) (ap (bit bs) {x = b + 0} {y = b} (omega arith))
