-- What the parts of a derivation's text mean, by kinds: strings, rows, lists whose order counts, and maps and sets; and their canonical text.
-- Source: E. Dolstra, The Purely Functional Software Deployment Model (2006), section 5.4; the Nix manual, "Derivations".
use Rattle.std.specs.Prelude.{◌≡◌, ℕ, ◌≤◌, List, [], ◌∷◌, ◌++◌, length}
use Rattle.std.specs.List.{AllByRecursion, flat_map}
use Rattle.std.specs.List.Sorted.{IsPermutation}
use Rattle.canonical.specs.Strings.{quoted}
use Rattle.aterm.specs.Grammar.{Shape, string, row, list, Fields, last, field, Tree, Trees, meaning}
use Rattle.canonical.specs.Order.{Along, Rising, Same, Level, Different}

-- A string; a row; a list whose order counts; a map or set, which a list gives in any order.
mutual
  pub data Kind : Type 0 where
    text : Kind
    entry : Kinds → Kind
    ordered : ℕ → Kind → Kind
    rising : ℕ → Kind → Kind

  pub data Kinds : Type 0 where
    one : Kind → Kinds
    also : Kind → Kinds → Kinds

abbrev mutual
  pub shape : Kind → Shape
  shape text = string
  shape (entry ks) = row (shapes ks)
  shape (ordered n k) = list n (shape k)
  shape (rising n k) = list n (shape k)

  pub shapes : Kinds → Fields
  shapes (one k) = last (shape k)
  shapes (also k ks) = field (shape k) (shapes ks)

abbrev mutual
  pub Value : Kind → Type 0
  Value text = List ℕ
  Value (entry ks) = Values ks
  Value (ordered n k) = List (Value k)
  Value (rising n k) = List (Value k)

  pub Values : Kinds → Type 0
  Values (one k) = Value k
  Values (also k ks) = Value k × Values ks

-- a row's key is its first string
abbrev mutual
  pub key : (k : Kind) → Value k → List ℕ
  key text v = v
  key (entry ks) v = keys ks v
  key (ordered n k) v = []
  key (rising n k) v = []

  pub keys : (ks : Kinds) → Values ks → List ℕ
  keys (one k) v = key k v
  keys (also k ks) v = key k v.0

abbrev mutual
  pub tree_key : (k : Kind) → Tree (shape k) → List ℕ
  tree_key text cs = meaning cs
  tree_key (entry ks) t = tree_keys ks t
  tree_key (ordered n k) t = []
  tree_key (rising n k) t = []

  pub tree_keys : (ks : Kinds) → Trees (shapes ks) → List ℕ
  tree_keys (one k) t = tree_key k t
  tree_keys (also k ks) t = tree_key k t.0

-- a rising list with exactly the same rows
pub record Sorts {X : Type 0} (key : X → List ℕ) (ws vs : List X) : Type 0 where
  pub same : Same ws vs
  pub rises : Rising key vs

-- what a tree means
abbrev mutual
  pub Means : (k : Kind) → Tree (shape k) → Value k → Type 0
  Means text cs v = v ≡ meaning cs
  Means (entry ks) t v = MeansAll ks t v
  Means (ordered n k) ts vs = Along (Means k) ts vs
  Means (rising n k) ts vs = (ws : List (Value k)) × (Along (Means k) ts ws × Sorts (key k) ws vs)

  pub MeansAll : (ks : Kinds) → Trees (shapes ks) → Values ks → Type 0
  MeansAll (one k) t v = Means k t v
  MeansAll (also k ks) t v = Means k t.0 v.0 × MeansAll ks t.1 v.1

-- keys different in each map and set
abbrev mutual
  pub Apart : (k : Kind) → Tree (shape k) → Type 0
  Apart text cs = Unit {0}
  Apart (entry ks) t = AllApart ks t
  Apart (ordered n k) ts = AllByRecursion (Apart k) ts
  Apart (rising n k) ts = Different (tree_key k) ts × AllByRecursion (Apart k) ts

  pub AllApart : (ks : Kinds) → Trees (shapes ks) → Type 0
  AllApart (one k) t = Apart k t
  AllApart (also k ks) t = Apart k t.0 × AllApart ks t.1

-- each list within its limit, maps and sets rising
abbrev mutual
  pub Lawful : (k : Kind) → Value k → Type 0
  Lawful text v = Unit {0}
  Lawful (entry ks) v = AllLawful ks v
  Lawful (ordered n k) vs = (length vs ≤ n) × AllByRecursion (Lawful k) vs
  Lawful (rising n k) vs = (length vs ≤ n) × (AllByRecursion (Lawful k) vs × Rising (key k) vs)

  pub AllLawful : (ks : Kinds) → Values ks → Type 0
  AllLawful (one k) v = Lawful k v
  AllLawful (also k ks) v = Lawful k v.0 × AllLawful ks v.1

-- rows parted by commas, between brackets
abbrev pub comma : {X : Type 0} → (X → List ℕ) → X → List ℕ
comma g x = 44 ∷ g x

abbrev pub listing : {X : Type 0} → (X → List ℕ) → List X → List ℕ
listing g [] = 91 ∷ 93 ∷ []
listing g (x ∷ xs) = 91 ∷ (g x ++ (flat_map (comma g) xs ++ (93 ∷ [])))

-- the canonical text
abbrev mutual
  pub canon : (k : Kind) → Value k → List ℕ
  canon text v = quoted v
  canon (entry ks) v = 40 ∷ canons ks v
  canon (ordered n k) vs = listing (canon k) vs
  canon (rising n k) vs = listing (canon k) vs

  pub canons : (ks : Kinds) → Values ks → List ℕ
  canons (one k) v = canon k v ++ (41 ∷ [])
  canons (also k ks) v = canon k v.0 ++ (44 ∷ canons ks v.1)

-- what a tree says, with the rows of each list in the order in which they stand
abbrev mutual
  pub Tells : (k : Kind) → Tree (shape k) → Value k → Type 0
  Tells text cs v = v ≡ meaning cs
  Tells (entry ks) t v = TellsAll ks t v
  Tells (ordered n k) ts vs = Along (Tells k) ts vs
  Tells (rising n k) ts vs = Along (Tells k) ts vs

  pub TellsAll : (ks : Kinds) → Trees (shapes ks) → Values ks → Type 0
  TellsAll (one k) t v = Tells k t v
  TellsAll (also k ks) t v = Tells k t.0 v.0 × TellsAll ks t.1 v.1

-- the same with the rows of each map and set sorted by their keys
abbrev mutual
  pub Arranges : (k : Kind) → Value k → Value k → Type 0
  Arranges text v w = w ≡ v
  Arranges (entry ks) v w = ArrangesAll ks v w
  Arranges (ordered n k) vs ws = Along (Arranges k) vs ws
  Arranges (rising n k) vs ws = (us : List (Value k)) × (Along (Arranges k) vs us × (IsPermutation us ws × Level (key k) ws))

  pub ArrangesAll : (ks : Kinds) → Values ks → Values ks → Type 0
  ArrangesAll (one k) v w = Arranges k v w
  ArrangesAll (also k ks) v w = Arranges k v.0 w.0 × ArrangesAll ks v.1 w.1
