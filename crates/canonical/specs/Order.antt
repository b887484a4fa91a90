-- Byte order of strings, and lists that rise by a key.
-- Source: this project's own rule (docs/FORMATS.md): rows are sorted by what their keys mean, byte by byte, a prefix first.
use Rattle.std.specs.Prelude.{◌≡◌, ℕ, ◌<◌, ◌⊎◌, List, [], ◌∷◌, ◌≢◌}
use Rattle.std.specs.declared.cmp.Ordering.{Ordering}
use Rattle.std.specs.List.{AllByRecursion}
use Rattle.std.specs.Ordering.{MatchOrdering}

-- a string stands before another: byte order, a prefix first
abbrev pub Under : List ℕ → List ℕ → Type 0
Under [] [] = ⊥
Under [] (y ∷ ys) = Unit {0}
Under (x ∷ xs) [] = ⊥
Under (x ∷ xs) (y ∷ ys) = (x < y) ⊎ ((x ≡ y) × Under xs ys)

abbrev pub Member : {X : Type 0} → X → List X → Type 0
Member x [] = ⊥
Member x (y ∷ ys) = (x ≡ y) ⊎ Member x ys

-- each of one list beside each of another
abbrev pub Along : {X Y : Type 0} → (X → Y → Type 0) → List X → List Y → Type 0
Along P [] [] = Unit {0}
Along P [] (y ∷ ys) = ⊥
Along P (x ∷ xs) [] = ⊥
Along P (x ∷ xs) (y ∷ ys) = P x y × Along P xs ys

-- exactly the same rows
pub record Same {X : Type 0} (xs ys : List X) : Type 0 where
  pub there : (x : X) → Member x xs → Member x ys
  pub back : (x : X) → Member x ys → Member x xs

-- each key stands before all later ones
abbrev pub Rising : {X : Type 0} → (X → List ℕ) → List X → Type 0
Rising key [] = Unit {0}
Rising key (x ∷ xs) = AllByRecursion (λ y. Under (key x) (key y)) xs × Rising key xs

-- no later key stands before an earlier one
abbrev pub Level : {X : Type 0} → (X → List ℕ) → List X → Type 0
Level key [] = Unit {0}
Level key (x ∷ xs) = AllByRecursion (λ y. Under (key y) (key x) → ⊥) xs × Level key xs

abbrev pub Different : {X : Type 0} → (X → List ℕ) → List X → Type 0
Different key [] = Unit {0}
Different key (x ∷ xs) = AllByRecursion (λ y. key x ≢ key y) xs × Different key xs

-- o is the order of two strings
abbrev pub Compared : List ℕ → List ℕ → Ordering → Type 0
Compared a b o = MatchOrdering o (Under a b) (a ≡ b) (Under b a)
