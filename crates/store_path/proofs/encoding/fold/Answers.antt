use Rattle.std.proofs.Common.{◌≡◌, ℕ, length, ap, ◌∙◌, arith, length-set}
use Rattle.std.proofs.lemmas.List.FromFn.{fill_by_all}
use Rattle.store_path.specs.Base32.{folded, fold}
use Rattle.store_path.proofs.Folds.{folded_more}
use Rattle.store_path.proofs.encoding.fold.Goals as goal

pub loop-k-preserved : goal.loop-k-preserved
loop-k-preserved c =
    (length-set c.loop-k.out _ _ ∙ c.loop-k.invariant.0, folded_more c.args.bytes.now c.loop-k.out c.loop-k.k c.loop-k.invariant.0 c.loop-k.invariant.1)

pub returns : goal.returns
unfolding fold
returns c =
    let bs = c.args.bytes.now in
    let all : c.loop-k.k ≡ length bs = omega arith in
    fill_by_all (folded bs (length bs)) c.loop-k.out 20 0 c.loop-k.invariant.0 (λ i h. c.loop-k.invariant.1 i h ∙ ap (λ (n : ℕ). folded bs n i) all)
