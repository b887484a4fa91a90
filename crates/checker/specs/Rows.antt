-- The rows of the table of states, by the numbers of their files.
-- Source: this project's own rule (docs/CALLS.md, "Calls").
use Rattle.std.specs.Prelude.{◌≡◌, ℕ, zero, suc, List, ◌≢◌, slice_index_or}
use Rattle.checker.specs.declared.state.State.{State}
use Rattle.checker.specs.declared.state.State.TheVariants.{Pending}
use Rattle.checker.specs.declared.states.States.{States}

-- numbers are counted from 1
abbrev pub row_in : List State → ℕ → State
row_in rows zero = Pending
row_in rows (suc k) = slice_index_or rows k Pending

abbrev pub row_at : States → ℕ → State
row_at t k = row_in t.rows k

-- the row of the file k is s, the others are what they were
pub record RowChanged (t : States) (k : ℕ) (s : State) (u : States) : Type 0 where
  pub here : row_at u k ≡ s
  pub others : (j : ℕ) → (j ≢ k) → row_at u j ≡ row_at t j
