-- What a reader's place and its answers say.
use Rattle.std.proofs.Common.{◌≡◌, ℕ, ◌≤◌, List, length, Ok, Err, IfOk, OnOk, Result, subst}
use Rattle.aterm.specs.declared.fault.Fault.{Fault}
use Rattle.aterm.specs.Reads.{came}

pub within_text : (a b : List ℕ) (n : ℕ) → a ≡ b → n ≤ length a → n ≤ length b
within_text a b n e h = subst (λ l. n ≤ length l) e h

pub came_ok : {V : Type 0} (r : Result V Fault) (at : ℕ) (P : ℕ → Type 0) → IfOk (came r at) (λ v. P v.1) → OnOk r (P at)
came_ok (Ok v) at P h = h
came_ok (Err f) at P h = tt
