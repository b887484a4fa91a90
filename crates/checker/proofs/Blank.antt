-- A table of states that are all pending.
use Rattle.std.proofs.Common.{◌≡◌, ℕ, zero, suc, inl, inr, ltb, replicate, refl, arith}
use Rattle.std.proofs.lemmas.List.{get_or-replicate, get_or_past, length-replicate}
use Rattle.std.proofs.lemmas.Bool.{cases_Bool, ltb-true, ltb-false}
use Rattle.checker.specs.Rows.{row_in}
use Rattle.checker.specs.declared.state.State.TheVariants.{Pending}

pub blank_row : (k : ℕ) → row_in (replicate 256 Pending) k ≡ Pending
blank_row zero = refl
blank_row (suc k) = elim (cases_Bool (ltb k 256)) [
  | inl h ↦ get_or-replicate 256 k Pending Pending (ltb-true k 256 h)
  | inr h ↦ get_or_past (replicate 256 Pending) k Pending (let n = length-replicate 256 Pending in let p = ltb-false k 256 h in omega arith)
]
