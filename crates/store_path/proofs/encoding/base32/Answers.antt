use Rattle.std.proofs.Common.{◌≡◌, rules}
use Rattle.std.proofs.lemmas.List.FromFn.{fill_by_all}
use Rattle.store_path.specs.Base32.{character, base32}
use Rattle.store_path.proofs.Made.{made}
use Rattle.store_path.proofs.encoding.base32.Goals as goal

pub returns : goal.returns
unfolding base32
returns c =
    let h = character c.args.bytes.now in
    fill_by_all h c.from_fn.result 32 0 c.from_fn.ensures.items.long (made c.from_fn.result (λ p y. y ≡ h p) 32 0 (λ i y q low called. search rules) c.from_fn.ensures.items)
