-- A sink that keeps nothing but numbers.
use Rattle.std.proofs.Common.{◌≡◌, ℕ, ◌+◌, ◌-◌, ◌%◌, ◌^◌, ◌<◌, ◌≤◌, List, [], ◌∷◌, length, sym, refl, arith}
use Rattle.std.proofs.lemmas.List.{drop_all}
use Rattle.sink.specs.Write.{steps, filled, Taken, Stopped}
use Rattle.sink.specs.Counter.{forgetting, numbered}
use Rattle.sink.proofs.Writing.{parts, kept}

steps_forgetting : (bs : List ℕ) → steps forgetting [] bs ≡ []
steps_forgetting [] = refl
steps_forgetting (b ∷ bs) = steps_forgetting bs

pub numbered_taken : (left total left' total' : ℕ) (bs : List ℕ) → length bs ≤ left → left' ≡ left - length bs → total' % (2 ^ 64) ≡ (total + length bs) % (2 ^ 64)
    → Taken forgetting (numbered left total) bs (numbered left' total')
unfolding filled
numbered_taken left total left' total' bs fits less more =
    (omega arith, parts _ _ _ _ _ _ _ _ _ _ (sym (steps_forgetting bs)) less (omega arith) (sym (drop_all (length bs) [] (omega arith))) refl)

pub numbered_kept : (left total : ℕ) (bs : List ℕ) → left < length bs → Stopped forgetting (numbered left total) bs (numbered left total)
numbered_kept left total bs past = kept forgetting (numbered left total) (numbered left total) bs (omega arith) past refl
