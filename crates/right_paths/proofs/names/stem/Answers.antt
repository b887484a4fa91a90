use Rattle.std.proofs.Common.{ℕ, length, take, drop, ap, ◌∙◌, arith, length-drop}
use Rattle.right_paths.proofs.names.stem.Goals as goal

pub returns : goal.returns
returns c =
    let path = c.args.path.now in
    ap (take c.saturating_sub-end.result) c.name_of-name.ensures
    ∙ ap (λ (n : ℕ). take n (drop 44 path)) (omega (arith, c.saturating_sub-end.ensures, ap length c.name_of-name.ensures, length-drop 44 path))
