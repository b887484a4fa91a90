-- Work that is done again, until it fails.
-- Source: this project's own choice.
use Rattle.std.specs.Prelude.{◌≡◌, ℕ, zero, suc, ◌⊎◌, Ok, Err}
use Rattle.std.specs.declared.result.Result.{Result}

-- from f on, n steps succeed and one more answers r; or the first that fails does
unfoldable pub Turns : {F T E : Type 0} → (F → Result T E → F → Type 0) → F → ℕ → Result T E → F → Type 0
Turns step f zero r last = step f r last
Turns {F} {T} {E} step f (suc n) r last =
    ((x : T) × (mid : F) × step f (Ok x) mid × Turns step mid n r last)
    ⊎ ((e : E) × (r ≡ Err e) × step f r last)
