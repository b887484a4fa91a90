-- A search by `find_map` over the elements of a list.
use Rattle.std.proofs.Common.{◌≡◌, ℕ, ◌+◌, ◌<◌, List, length, get_or, Some, None, MatchOption, Option, option_map, is_some, unwrap_or, ap, subst, arith}
use Rattle.std.specs.List.{HoldsAt}
use denote.Param.Members.{Mut, Called}
use Rattle.std.specs.Bool.{IsTrue}
use Rattle.std.specs.Borrow.{Bor}
use Rattle.std.specs.Iterator.Runs.{Run, ItemsMapTo, CallKeepsClosure, AllItemsGive, IsFirstToGive}
use Rattle.std.specs.Option.{IfSome, IsSomeAnd}
use Rattle.std.proofs.lemmas.Bool.{false≢true}

module _ {V Y : Type 0} (P : V → Option Y → Type 0) (xs : List V) where
  -- no element gives one, or what the first that does gives, with that element and its number
  abbrev pub FirstMapped : Option Y → Type 0
  FirstMapped r = MatchOption r ((k : ℕ) → k < length xs → HoldsAt (λ v. P v None) xs k) (λ y. (i : ℕ) × (v : V) × (i < length xs) × HoldsAt (λ w. v ≡ w) xs i × P v (Some y) × ((k : ℕ) → k < i → HoldsAt (λ v. P v None) xs k))

  if_there : (Q : V → Type 0) (o : Option (Bor V)) (z : V) → option_map (λ y. y.now) o ≡ Some z → IfSome o (λ x. Q x.now) → Q z
  if_there Q None z e h = absurd (false≢true (ap is_some e))
  if_there Q (Some x) z e h = subst Q (ap (λ o. unwrap_or o z) e) h

  and_there : (Q : V → Type 0) (o : Option (Bor V)) (z : V) → option_map (λ y. y.now) o ≡ Some z → IsSomeAnd o (λ x. Q x.now) → Q z
  and_there Q None z e h = absurd h
  and_there Q (Some x) z e h = subst Q (ap (λ o. unwrap_or o z) e) h

  -- the element there, which is the same whatever stands for one that is not there
  one_there : (Q : V → Type 0) (i : ℕ) (o : Option (Bor V)) → ((d : V) → option_map (λ y. y.now) o ≡ Some (get_or xs i d)) → IsSomeAnd o (λ x. Q x.now) → (v : V) × HoldsAt (λ w. v ≡ w) xs i × Q v
  one_there Q i None e h = absurd h
  one_there Q i (Some x) e h = (x.now, λ d. ap (λ o. unwrap_or o d) (e d), h)

  module _ {F : Type 0} (g : Mut F (Bor V × Unit {0}) (Option Y)) (f : F) (stays : CallKeepsClosure g f) (says : (x : Bor V) (o : Option Y) → Called g f (x, tt) o f → P x.now o) where
    if_says : (q : Option (Bor V)) (o : Option Y) → IfSome q (λ x. Called g f (x, tt) o f) → IfSome q (λ x. P x.now o)
    if_says None o h = h
    if_says (Some x) o h = says x o h

    and_says : (q : Option (Bor V)) (o : Option Y) → IsSomeAnd q (λ x. Called g f (x, tt) o f) → IsSomeAnd q (λ x. P x.now o)
    and_says None o h = h
    and_says (Some x) o h = says x o h

    pub first_mapped : {S : Type 0} {steps : S → Option (Bor V) → S → Type 0} (p : Run steps) → ItemsMapTo p (λ y. y.now) xs → (r : Option Y)
        → MatchOption r (IsTrue p.whole × AllItemsGive p g f None) (λ y. (i : ℕ) × (i < p.len) × (p.len ≡ i + 1) × IsFirstToGive p g f (Some y) None i)
        → FirstMapped r
    first_mapped p m None (w, a) = λ k l d. if_there (λ z. P z None) (p.at k) (get_or xs k d) (m.2 k d (omega (arith, m.1 w))) (if_says (p.at k) None (a stays k))
    first_mapped p m (Some y) (i, l, n, a) =
        let v = one_there (λ z. P z (Some y)) i (p.at i) (λ d. m.2 i d l) (and_says (p.at i) (Some y) (a stays).0) in
        (i, v.0, omega (arith, m.0), v.1, v.2, λ k h d. and_there (λ z. P z None) (p.at k) (get_or xs k d) (m.2 k d (omega arith)) (and_says (p.at k) None ((a stays).1 k h)))
