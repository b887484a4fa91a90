-- What a sink knows in which a value watches what is written.
use Rattle.std.proofs.Common.{◌≡◌, ℕ, ◌+◌, ◌-◌, ◌^◌, ◌<◌, true, false, List, [], length, Ok, Err, Result, is_ok, sym, refl, ap, arith}
use Rattle.std.proofs.lemmas.Bool.{true≢false, false≢true}
use Rattle.std.proofs.lemmas.List.{drop_all}
use Rattle.sink.specs.Write.{Step, Held, steps, filled, Taken, Stopped, Writes}
use Rattle.sink.proofs.Writing.{parts, kept}
use Rattle.canonical.specs.Watching.{watched}

pub watched_taken : (f : Step) (s s' : List ℕ) (count count' : ℕ) (bs : List ℕ) → s' ≡ steps f s bs → count' ≡ count + length bs → count' < 2 ^ 128
    → Taken f (watched s count) bs (watched s' count')
unfolding filled
watched_taken f s s' count count' bs e more fits =
    (omega arith, parts _ _ _ _ _ _ _ _ _ _ e (omega arith) (omega arith) (sym (drop_all (length bs) [] (omega arith))) refl)

pub watched_kept : (f : Step) (s : List ℕ) (count : ℕ) (bs : List ℕ) → 2 ^ 128 - 1 - count < length bs → Stopped f (watched s count) bs (watched s count)
watched_kept f s count bs past = kept f (watched s count) (watched s count) bs (omega arith) past refl

-- the value's state after a text was written
pub state_after : (f : Step) (s u ys : List ℕ) (count count' : ℕ) → watched u count' ≡ filled f (watched s count) ys → u ≡ steps f s ys
unfolding filled
state_after f s u ys count count' e = ap (λ (x : Held). x.meaning.state) e

-- what was taken where writing answers Ok, and what is over where it does not
module _ {T E : Type 0} {f : Step} {h k : Held} {bs : List ℕ} where
  pub all_taken : (r : Result T E) → Writes f h bs r k → is_ok r ≡ true → Taken f h bs k
  all_taken (Ok x) w e = w.told
  all_taken (Err x) w e = absurd (false≢true e)

  pub some_over : (r : Result T E) → Writes f h bs r k → is_ok r ≡ false → Stopped f h bs k
  some_over (Ok x) w e = absurd (true≢false e)
  some_over (Err x) w e = w.told
