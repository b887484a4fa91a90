-- Rows that hold trees, gone through one by one.
use Rattle.std.proofs.Common.{ℕ, zero, suc, ◌+◌, ◌<◌, Bool, true, false, List, [], ◌∷◌, length, get_or, MatchBool, Decides, refl, arith}
use Rattle.std.specs.List.{AllByRecursion, AllWithin, HoldsAt}
use Rattle.std.proofs.ByRecursion.{all_from_every}
use Rattle.std.proofs.lemmas.Bool.{false≢true}
use Rattle.aterm.specs.Grammar.{Shape, Tree}
use Rattle.aterm.specs.Reads.{Each, past}
use Rattle.aterm.specs.declared.rows.Placed.{Placed}
use Rattle.canonical.proofs.Members.{member_all, member_at}
use Rattle.derivation.proofs.Scan.{each_length}

-- the row at a place holds the tree there
pub held_at : {V : Type 0} (s : Shape) (H : ℕ → V → Tree s → Type 0) (from : ℕ) (vs : List (Placed V)) (xs : List (Tree s)) (i : ℕ) (v : Placed V) (x : Tree s)
    → i < length vs → Each s H from vs xs → (at : ℕ) × H at (get_or vs i v).value (get_or xs i x)
held_at s H from [] xs i v x h a = absurd (omega arith)
held_at s H from (u ∷ vs) [] i v x h a = absurd a
held_at s H from (u ∷ vs) (y ∷ xs) zero v x h a = (from + 1, a.0.1)
held_at s H from (u ∷ vs) (y ∷ xs) (suc i) v x h a = held_at s H (past s from y) vs xs i v x (omega arith) a.1

pub some_row : {V : Type 0} (vs : List V) (k : ℕ) → k < length vs → V
some_row [] k h = absurd (omega arith)
some_row (v ∷ vs) k h = v

-- a test of the rows that answers for the trees that they hold
module _ {V : Type 0} (s : Shape) (H : ℕ → V → Tree s → Type 0) (P : Tree s → Type 0) where
  abbrev pub Yes : Placed V → Type 0
  Yes v = (at : ℕ) (t : Tree s) → H at v.value t → P t

  abbrev pub No : Placed V → Type 0
  No v = (at : ℕ) (t : Tree s) → H at v.value t → P t → ⊥

  module _ (from : ℕ) (vs : List (Placed V)) (xs : List (Tree s)) (rows : Each s H from vs xs) where
    at_tree : (k : ℕ) (x : Tree s) → k < length vs → (v : Placed V) × (at : ℕ) × H at (get_or vs k v).value (get_or xs k x)
    at_tree k x l =
        let v = some_row vs k l in
        let w = held_at s H from vs xs k v x l rows in
        (v, w.0, w.1)

    -- whether it is yes at each of them
    pub decides_all : (x : Tree s) (b : Bool) → MatchBool b (AllWithin Yes vs 0 (length vs)) ((k : ℕ) × (k < length vs) × HoldsAt No vs k) → Decides b (AllByRecursion P xs)
    decides_all x true every = (
      λ _. all_from_every P xs (λ k d _ l. let h : k < length vs = omega (arith, each_length s H from vs xs rows) in let w = at_tree k d h in every k w.0 (omega arith) h w.1 (get_or xs k d) w.2),
      λ _. refl,
    )
    decides_all x false (k, l, not) = (
      λ e. absurd (false≢true e),
      λ every. absurd (let w = at_tree k x l in not w.0 w.1 (get_or xs k x) w.2 (member_all P xs (get_or xs k x) every (member_at xs k x (omega (arith, each_length s H from vs xs rows))))),
    )
