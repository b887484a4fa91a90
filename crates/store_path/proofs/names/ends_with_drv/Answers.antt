use Rattle.std.proofs.Common.{◌-◌, length, take, codes}
use Rattle.std.proofs.lemmas.Slice.Eq.{ends_is}
use Rattle.store_path.proofs.names.ends_with_drv.Goals as goal
use Rattle.std.proofs.lemmas.Bool.Decides.{Decides-eqb}

pub returns : goal.returns
returns c =
    let s = c.args.s.now in
    let e = ends_is Decides-eqb s (codes ".drv") c.ends_with.result c.ends_with.ensures.value in
    (λ t. record { stem = take (length s - 4) s; whole = e.0 t }, λ d. e.1 d.stem d.whole)
