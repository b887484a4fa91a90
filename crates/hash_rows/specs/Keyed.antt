-- Rows of any kind, each with a key: rising rows, one row put among them, and the last of each key.
-- Source: this project's own rule: the rows of a hash text rise by hash, and of equal hashes the last row stands (docs/FORMATS.md, "Hashes modulo inputs").
use Rattle.std.specs.Prelude.{◌≡◌, ℕ, suc, ◌<◌, ◌≤◌, true, ◌⊎◌, List, ◌∷◌, ◌++◌, length, ◌≢◌, slice_index_or}
use Rattle.std.specs.List.{AllByRecursion}
use Rattle.canonical.specs.Order as order
use Rattle.canonical.specs.Order.{Under}
use Rattle.hash_rows.specs.Order.{before}

abbrev pub Iff : Type 0 → Type 0 → Type 0
Iff P Q = (P → Q) × (Q → P)

abbrev pub In : {X : Type 0} → X → List X → Type 0
In a xs = order.Member a xs

module _ {X : Type 0} (key : X → List ℕ) where
  -- h stands before each key of the rows
  abbrev pub Above : List ℕ → List X → Type 0
  Above h xs = AllByRecursion (λ x. Under h (key x)) xs

  abbrev pub Rising : List X → Type 0
  Rising xs = order.Rising key xs

  -- the rows ys are the rows xs without those of x's key, and x
  abbrev pub Placed : List X → X → List X → Type 0
  Placed xs x ys = (y : X) → Iff (In y ys) ((y ≡ x) ⊎ (In y xs × (key y ≢ key x)))

  -- some row has the key h
  abbrev pub Has : List ℕ → List X → Type 0
  Has h xs = (x : X) × In x xs × (key x ≡ h)

  -- x is the last pair with its key
  abbrev pub Last : X → List X → Type 0
  Last x ps = (before : List X) × (after : List X) × (ps ≡ before ++ x ∷ after)
      × ((y : X) → In y after → key y ≢ key x)

  -- a key stands in the rows exactly when some pair has it, and its row is the last such pair
  pub record Gathered (ps xs : List X) : Type 0 where
    pub stands : (h : List ℕ) → Iff (Has h xs) (Has h ps)
    pub last : (x : X) → Iff (In x xs) (Last x ps)

  -- such rows, rising, are there, and are the only ones: so a definition can cite them by property
  pub record Fixed (ps : List X) : Type 0 where
    pub some : (xs : List X) × Rising xs × Gathered ps xs
    pub one : (xs ys : List X) → Rising xs → Rising ys → Gathered ps xs → Gathered ps ys → xs ≡ ys

-- the same by places, where `none` stands past the end
module _ {X : Type 0} (key : X → List ℕ) (none : X) where
  abbrev pub key_at : List X → ℕ → List ℕ
  key_at xs i = key (slice_index_or xs i none)

  -- each key stands before the next: rising, as a fact with one proof at most, which a type can carry
  abbrev pub Rises : List X → Type 0
  Rises xs = (i : ℕ) → suc i < length xs → before (key_at xs i) (key_at xs (suc i)) ≡ true

  -- every row before place i has a lower key, and the one at i a higher
  pub record Free (xs : List X) (h : List ℕ) (i : ℕ) : Type 0 where
    pub within : i ≤ length xs
    pub lower : (k : ℕ) → k < i → Under (key_at xs k) h
    pub higher : i < length xs → Under h (key_at xs i)
