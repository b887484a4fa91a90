use Rattle.std.proofs.Common.{◌≡◌, ◌+◌, ◌-◌, ◌++◌, length, take, drop, ap, ◌∙◌, arith}
use Rattle.std.proofs.lemmas.List.{drop-drop}
use Rattle.sha256.proofs.padding.put.Goals as goal

pub returns : goal.returns
returns c =
    let d = c.args.dst.now in
    let at = c.args.at in
    let n = length c.args.src.now in
    let past : at + (at + n - at) ≡ at + n = omega arith in
    λ i. take at d ++ (c.copy_from_slice.ensures.after i ++ (drop-drop (at + n - at) at d ∙ ap (λ k. drop k d) past) i)
