-- What a question put to each file of the chain says, by what each of its answers means.
use Rattle.std.proofs.Common.{ℕ, ◌<◌, Bool, true, false, List, Ok, Err, Result, MatchResult, Decides, refl, arith}
use Rattle.std.proofs.lemmas.Bool.Decides.{not_from_Decides}
use Rattle.image.specs.Opening.{Every, FirstSaid, FirstNo, Asked}

by_cases : (img : List ℕ) (n : ℕ) (Says : ℕ → Bool → Type 0) (Yes : ℕ → Type 0) → ((m : ℕ) (b : Bool) → m < n → Says m b → Decides b (Yes m))
    → (r : Result (Unit {0}) ℕ) → MatchResult r (λ _. Every (λ m. Says m true) n) (FirstSaid img Says n) → MatchResult r (λ _. Every Yes n) (FirstNo img Yes n)
by_cases img n Says Yes means (Ok _) all = λ m h. (means m true h (all m h)).0 refl
by_cases img n Says Yes means (Err slot) f = record {
  after = f.after;
  below = f.below;
  before = λ m h. (means m true (omega (arith, f.below)) (f.before m h)).0 refl;
  refused = not_from_Decides false (means f.after false f.below f.refused) refl;
  tells = f.tells;
}

pub asked : {img : List ℕ} {Says : ℕ → Bool → Type 0} {n : ℕ} {r : Result (Unit {0}) ℕ} (Yes : ℕ → Type 0) → Asked img Says n r
    → ((m : ℕ) (b : Bool) → m < n → Says m b → Decides b (Yes m)) → MatchResult r (λ _. Every Yes n) (FirstNo img Yes n)
asked {img} {Says} {n} {r} Yes a means = by_cases img n Says Yes means r a.told
