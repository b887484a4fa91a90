-- A result, and the one that `map_err` makes of it.
use Rattle.std.proofs.Common.{◌≡◌, Ok, Err, Result, MatchResult, is_ok, sym, ap, ◌∙◌, subst}
use Rattle.std.specs.Result.{IsErrAnd}
use Rattle.std.proofs.lemmas.Bool.{false≢true}

module _ {T E X : Type 0} (J : Result T E → Type 0) (r : Result T E) (s : Result T X) where
  ok_or : T → Result T X → T
  ok_or x (Ok y) = y
  ok_or x (Err _) = x

  -- what is known of the first, where the other is Ok
  pub passed : (Q : E → Type 0) (x : T) → J r → MatchResult r (λ y. s ≡ Ok y) Q → is_ok s ≡ is_ok r → s ≡ Ok x → J (Ok x)
  unfolding ok_or
  passed Q x j cases variant is = way r j cases variant
    where
      way : (q : Result T E) → J q → MatchResult q (λ y. s ≡ Ok y) Q → is_ok s ≡ is_ok q → J (Ok x)
      way (Ok y) k same v = subst (λ (z : T). J (Ok z)) (ap (ok_or x) (sym same ∙ is)) k
      way (Err e) k other v = absurd (false≢true (sym v ∙ ap is_ok is))

  -- the same where it is an Err
  pub failed : (Post : E → X → Type 0) (f : X) → J r → MatchResult r (λ y. s ≡ Ok y) (λ e. IsErrAnd s (Post e)) → is_ok s ≡ is_ok r → s ≡ Err f → (e : E) × J (Err e) × Post e f
  failed Post f j cases variant is = way r j cases variant
    where
      way : (q : Result T E) → J q → MatchResult q (λ y. s ≡ Ok y) (λ e. IsErrAnd s (Post e)) → is_ok s ≡ is_ok q → (e : E) × J (Err e) × Post e f
      way (Ok y) k same v = absurd (false≢true (ap is_ok (sym is) ∙ v))
      way (Err e) k other v = (e, k, subst (λ (t : Result T X). IsErrAnd t (Post e)) is other)

-- what is known of the other
pub mapped : {T E X : Type 0} (J : Result T E → Type 0) (K : Result T X → Type 0) (r : Result T E) (s : Result T X) (Post : E → X → Type 0)
    → ((y : T) → J (Ok y) → K (Ok y)) → ((e : E) (f : X) → J (Err e) → Post e f → K (Err f)) → J r → MatchResult r (λ y. s ≡ Ok y) (λ e. IsErrAnd s (Post e)) → K s
mapped J K (Ok y) s Post f g j same = subst K (sym same) (f y j)
mapped J K (Err e) (Ok y) Post f g j other = absurd other
mapped J K (Err e) (Err x) Post f g j other = g e x j other
