use Rattle.std.proofs.Common.{◌≡◌, ℕ, Bool, false, get_or, ◌||◌, ◌&&◌, rules}
use Rattle.store_path.proofs.Made.{made}
use Rattle.checker.proofs.checker.cycles.joined.Goals as goal

pub returns : goal.returns
returns c =
    record {
      says = made c.from_fn.result (λ (i : ℕ) (y : Bool). y ≡ (get_or c.args.row.now i false || (c.args.on && get_or c.args.other.now i false))) 256 false
          (λ i y q low called. (search rules, search rules)) c.from_fn.ensures.items;
    }
