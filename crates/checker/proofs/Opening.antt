-- Open has one answer: the first question with the answer no decides it, and the image's questions have one answer.
use Rattle.std.proofs.Common.{◌≡◌, ℕ, Ok, Err, Result, sym, refl, ap, ◌∙◌, inl, inr}
use Rattle.hash_modulo.specs.Sets.{Bytes}
use Rattle.image.specs.Opening.{Opens, Answer}
use Rattle.image.specs.declared.refusal.Refusal.{Refusal}
use Rattle.image.proofs.Answers.{one_answer}
use Rattle.image.proofs.Total.{some_answer}
use Rattle.checker.specs.Opened.{OpensSet, SomeOpening, OneOpening}
use Rattle.checker.specs.Views.{View, fresh, Open}
use Rattle.checker.specs.declared.refused.OpenRefusal.{OpenRefusal}
use Rattle.checker.specs.declared.refused.OpenRefusal.TheVariants.{AlreadyOpen, Image}
use Rattle.checker.proofs.Deciding.{open?}

pub some_opening : SomeOpening
some_opening v img = elim (open? v) [
  | inl o ↦ (Err AlreadyOpen, v, (o, refl))
  | inr n ↦ (let a = some_answer img in by n a.0 a.1)
]
  where
    by : (Open v → ⊥) → (a : Result ℕ Refusal) → Answer img a → (r : Result (Unit {0}) OpenRefusal) × (w : View) × OpensSet v img r w
    by n (Ok m) opens = (Ok tt, fresh img m, (n, (m, opens, refl)))
    by n (Err e) refused = (Err (Image e), v, ((n, refused), refl))

-- an image does not open with two numbers of files, nor is it refused where it opens, nor refused in two ways
module _ (img : Bytes) where
  one_number : (m n : ℕ) → Opens img m → Opens img n → m ≡ n
  one_number m n a b = let same : ◌≡◌ {A = Result ℕ Refusal} (Ok m) (Ok n) = one_answer img (Ok m) (Ok n) a b in cc

  not_both : (m : ℕ) (e : Refusal) → Opens img m → Answer img (Err e) → ⊥
  not_both m e a b = let same : ◌≡◌ {A = Result ℕ Refusal} (Ok m) (Err e) = one_answer img (Ok m) (Err e) a b in cc

  one_refusal : (e f : Refusal) → Answer img (Err e) → Answer img (Err f) → e ≡ f
  one_refusal e f a b = let same : ◌≡◌ {A = Result ℕ Refusal} (Err e) (Err f) = one_answer img (Err e) (Err f) a b in cc

pub one_opening : OneOpening
one_opening v img (Ok t) (Ok u) w x (n, (m, a, is)) (o, (k, b, has)) = (refl, is ∙ ap (fresh img) (one_number img m k a b) ∙ sym has)
one_opening v img (Ok t) (Err AlreadyOpen) w x (n, h) (o, same) = absurd (n o)
one_opening v img (Ok t) (Err (Image e)) w x (n, (m, a, is)) ((o, b), same) = absurd (not_both img m e a b)
one_opening v img (Err AlreadyOpen) (Ok t) w x (o, same) (n, h) = absurd (n o)
one_opening v img (Err (Image e)) (Ok t) w x ((o, b), same) (n, (m, a, is)) = absurd (not_both img m e a b)
one_opening v img (Err AlreadyOpen) (Err AlreadyOpen) w x (o, same) (p, equal) = (refl, same ∙ sym equal)
one_opening v img (Err AlreadyOpen) (Err (Image e)) w x (o, same) ((n, b), equal) = absurd (n o)
one_opening v img (Err (Image e)) (Err AlreadyOpen) w x ((n, b), same) (o, equal) = absurd (n o)
one_opening v img (Err (Image e)) (Err (Image f)) w x ((n, a), same) ((o, b), equal) =
    (ap (λ (y : Refusal). Err (Image y)) (one_refusal img e f a b), same ∙ sym equal)
