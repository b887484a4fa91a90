-- What is asked of each row of a list, and of its rows together.
use Rattle.std.proofs.Common.{◌≡◌, ℕ, List, [], ◌∷◌, ◌++◌, sym, subst}
use Rattle.std.proofs.ByRecursion.{All-append}
use Rattle.std.specs.List.{AllByRecursion}
use Rattle.aterm.specs.Grammar.{Shape, Tree, string, meaning}
use Rattle.aterm.specs.Reads.{past}
use Rattle.derivation.proofs.Plain.{all_first, all_second}
use Rattle.derivation.specs.Asked.{rows_at, Throughout}
use Rattle.derivation.specs.Questions.{Entry, tagged, fresh}
use Rattle.derivation.specs.declared.field.Field.{Field}
use Rattle.derivation.specs.declared.spot.Spot.{Spot}
use Rattle.canonical.specs.Order.{Under, Along, Rising, Different}
use Rattle.canonical.proofs.Orders.{under_not_self}

-- a question to the rows of one field
module _ (s : Shape) (field : Field) (f : List (Tree s) × Tree s → Entry) (Y : Entry → Type 0) where
  pub throughout : (at : ℕ) (ys xs : List (Tree s)) → AllByRecursion (λ (e : Spot × Entry). Y e.1) (tagged f (rows_at s field at ys xs)) → Throughout (λ zs x. Y (f (zs, x))) ys xs
  throughout at ys [] a = tt
  throughout at ys (x ∷ xs) a = (a.0, throughout (past s at x) (ys ++ x ∷ []) xs a.1)

  pub tagged_all : (at : ℕ) (ys xs : List (Tree s)) → Throughout (λ zs x. Y (f (zs, x))) ys xs → AllByRecursion (λ (e : Spot × Entry). Y e.1) (tagged f (rows_at s field at ys xs))
  tagged_all at ys [] a = tt
  tagged_all at ys (x ∷ xs) a = (a.0, tagged_all (past s at x) (ys ++ x ∷ []) xs a.1)

-- a question that looks at the row alone
pub each_row : {X : Type 0} (P : X → Type 0) (ys xs : List X) → Throughout (λ _ x. P x) ys xs → AllByRecursion P xs
each_row P ys [] a = tt
each_row P ys (x ∷ xs) a = (a.0, each_row P (ys ++ x ∷ []) xs a.1)

pub rows_each : {X : Type 0} (P : X → Type 0) (ys xs : List X) → AllByRecursion P xs → Throughout (λ _ x. P x) ys xs
rows_each P ys [] a = tt
rows_each P ys (x ∷ xs) a = (a.0, rows_each P (ys ++ x ∷ []) xs a.1)

pub through_map : {X : Type 0} (P Q : List X → X → Type 0) → ((ys : List X) (x : X) → P ys x → Q ys x) → (ys xs : List X) → Throughout P ys xs → Throughout Q ys xs
through_map P Q f ys [] a = tt
through_map P Q f ys (x ∷ xs) a = (f ys x a.0, through_map P Q f (ys ++ x ∷ []) xs a.1)

pub through_both : {X : Type 0} (P Q : List X → X → Type 0) (ys xs : List X) → Throughout P ys xs → Throughout Q ys xs → Throughout (λ zs x. P zs x × Q zs x) ys xs
through_both P Q ys [] a b = tt
through_both P Q ys (x ∷ xs) a b = ((a.0, b.0), through_both P Q (ys ++ x ∷ []) xs a.1 b.1)

-- keys that differ from those before, and keys that differ
module _ {X : Type 0} (key : X → Tree string) where
  -- no key of the later list is that of the earlier row
  Off : List X → X → Type 0
  Off xs y = AllByRecursion (λ x. meaning (key y) ≡ meaning (key x) → ⊥) xs

  off_more : (ys : List X) (x : X) (xs : List X) → AllByRecursion (λ y. meaning (key y) ≡ meaning (key x) → ⊥) ys → AllByRecursion (Off xs) ys → AllByRecursion (Off (x ∷ xs)) ys
  unfolding Off
  off_more [] x xs a b = tt
  off_more (y ∷ ys) x xs a b = ((a.0, b.0), off_more ys x xs a.1 b.1)

  off_none : (ys : List X) → AllByRecursion (Off []) ys
  unfolding Off
  off_none [] = tt
  off_none (y ∷ ys) = (tt, off_none ys)

  apart_from : (ys xs : List X) → Throughout (fresh key) ys xs → AllByRecursion (Off xs) ys × Different (λ x. meaning (key x)) xs
  unfolding Off
  apart_from ys [] a = (off_none ys, tt)
  apart_from ys (x ∷ xs) a =
      let r = apart_from (ys ++ x ∷ []) xs a.1 in
      (off_more ys x xs a.0 (all_first (Off xs) ys (x ∷ []) r.0), ((all_second (Off xs) ys (x ∷ []) r.0).0, r.1))

  pub different : (xs : List X) → Throughout (fresh key) [] xs → Different (λ x. meaning (key x)) xs
  different xs a = (apart_from [] xs a).1

  -- rising keys are new
  Ahead : List X → X → Type 0
  Ahead xs y = AllByRecursion (λ x. Under (meaning (key y)) (meaning (key x))) xs

  ahead_here : (ys : List X) (x : X) (xs : List X) → AllByRecursion (Ahead (x ∷ xs)) ys → fresh key ys x
  unfolding Ahead
  ahead_here [] x xs a = tt
  ahead_here (y ∷ ys) x xs a =
      ((λ e. under_not_self (meaning (key y)) (subst (λ (v : List ℕ). Under (meaning (key y)) v) (sym e) a.0.0)), ahead_here ys x xs a.1)

  ahead_later : (ys : List X) (x : X) (xs : List X) → AllByRecursion (Ahead (x ∷ xs)) ys → AllByRecursion (Ahead xs) ys
  unfolding Ahead
  ahead_later [] x xs a = tt
  ahead_later (y ∷ ys) x xs a = (a.0.1, ahead_later ys x xs a.1)

  rising_new : (ys xs : List X) → AllByRecursion (Ahead xs) ys → Rising (λ x. meaning (key x)) xs → Throughout (fresh key) ys xs
  unfolding Ahead
  rising_new ys [] a r = tt
  rising_new ys (x ∷ xs) a r =
      (ahead_here ys x xs a, rising_new (ys ++ x ∷ []) xs (All-append (Ahead xs) ys (x ∷ []) (ahead_later ys x xs a) (r.0, tt)) r.1)

  pub new_from_rising : (xs : List X) → Rising (λ x. meaning (key x)) xs → Throughout (fresh key) [] xs
  new_from_rising xs r = rising_new [] xs tt r

-- what holds of each tree holds of each value beside it, and back
pub along_there : {X Y : Type 0} (R : X → Y → Type 0) (P : X → Type 0) (Q : Y → Type 0) → ((x : X) (y : Y) → R x y → P x → Q y) → (xs : List X) (ys : List Y) → Along R xs ys → AllByRecursion P xs → AllByRecursion Q ys
along_there R P Q f [] [] r a = tt
along_there R P Q f [] (y ∷ ys) r a = absurd r
along_there R P Q f (x ∷ xs) [] r a = absurd r
along_there R P Q f (x ∷ xs) (y ∷ ys) r a = (f x y r.0 a.0, along_there R P Q f xs ys r.1 a.1)

pub along_back_with : {X Y : Type 0} (R : X → Y → Type 0) (C P : X → Type 0) (Q : Y → Type 0) → ((x : X) (y : Y) → R x y → C x → Q y → P x) → (xs : List X) (ys : List Y) → Along R xs ys → AllByRecursion C xs → AllByRecursion Q ys → AllByRecursion P xs
along_back_with R C P Q f [] [] r c a = tt
along_back_with R C P Q f [] (y ∷ ys) r c a = absurd r
along_back_with R C P Q f (x ∷ xs) [] r c a = absurd r
along_back_with R C P Q f (x ∷ xs) (y ∷ ys) r c a = (f x y r.0 c.0 a.0, along_back_with R C P Q f xs ys r.1 c.1 a.1)
