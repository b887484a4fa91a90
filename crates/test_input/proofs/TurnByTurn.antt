-- How the turns that are left go on.
use Rattle.std.proofs.Common.{◌≡◌, ℕ, zero, suc, ◌+◌, ◌-◌, ◌<◌, ◌≤◌, Ok, Err, Result, sym, ap, subst, inl, inr, arith}
use Rattle.std.specs.Result.{IsErrAnd}
use Rattle.test_input.specs.Turns.{Turns}

pub turn_goes : {F T E : Type 0} (step : F → Result T E → F → Type 0) (f mid last : F) (n m : ℕ) (x : T) (r : Result T E)
    → m < n → step f (Ok x) mid → Turns step mid (n - (m + 1)) r last → Turns step f (n - m) r last
unfolding Turns
turn_goes step f mid last n m x r lt s t =
    let e : suc (n - (m + 1)) ≡ n - m = omega arith in
    subst (λ k. Turns step f k r last) e (inl (x, mid, s, t))

error_is : {T E : Type 0} (r : Result T E) (e : E) → IsErrAnd r (λ x. x ≡ e) → r ≡ Err e
error_is (Ok x) e h = absurd h
error_is (Err x) e h = ap Err h

pub turn_fails : {F T E : Type 0} (step : F → Result T E → F → Type 0) (f last : F) (n m : ℕ) (e : E) (r : Result T E)
    → m < n → IsErrAnd r (λ x. x ≡ e) → step f (Err e) last → Turns step f (n - m) r last
unfolding Turns
turn_fails step f last n m e r lt is s =
    let more : suc (n - (m + 1)) ≡ n - m = omega arith in
    subst (λ k. Turns step f k r last) more (inr (e, error_is r e is, subst (λ q. step f q last) (sym (error_is r e is)) s))

pub turn_ends : {F T E : Type 0} (step : F → Result T E → F → Type 0) (f last : F) (n m : ℕ) (r : Result T E)
    → n ≤ m → step f r last → Turns step f (n - m) r last
unfolding Turns
turn_ends step f last n m r le s =
    let e : 0 ≡ n - m = omega arith in
    subst (λ k. Turns step f k r last) e s

-- where a turn keeps what holds of f, and its answer has P, the answer of all has P
pub turns_keep : {F T E : Type 0} (step : F → Result T E → F → Type 0) (Holds : F → Type 0) (P : Result T E → Type 0)
    (f : F) (n : ℕ) (r : Result T E) (last : F) → Turns step f n r last → Holds f
    → ((f : F) (r : Result T E) (next : F) → Holds f → step f r next → P r × Holds next) → P r
unfolding Turns
turns_keep step Holds P f zero r last s h each = (each f r last h s).0
turns_keep step Holds P f (suc n) r last (inl (x, mid, s, t)) h each = turns_keep step Holds P mid n r last t (each f (Ok x) mid h s).1 each
turns_keep step Holds P f (suc n) r last (inr (e, is, s)) h each = (each f r last h s).0
