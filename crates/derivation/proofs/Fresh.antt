-- The turns of a search for a key.
use Rattle.std.proofs.Common.{◌≡◌, ℕ, zero, suc, ◌<◌, ◌≤◌, Bool, true, false, not, Decides, ◌∙◌, refl, List, length, take, sym, subst, arith, take_all}
use Rattle.std.specs.Bool.{MatchBool}
use Rattle.std.specs.List.{AllByRecursion, AllWithin, HoldsAt}
use Rattle.std.proofs.lemmas.Bool.{false≢true}
use Rattle.std.proofs.ByRecursion.{All-push}
use Rattle.aterm.specs.Grammar.{Shape, Tree, string, meaning}
use Rattle.aterm.specs.Reads.{Each}
use Rattle.aterm.specs.declared.rows.Placed.{Placed}
use Rattle.derivation.specs.Questions.{fresh}
use Rattle.derivation.proofs.Scan.{at_middle, Split, split, one_at, each_length}

module _ {V : Type 0} (s : Shape) (H : ℕ → V → Tree s → Type 0) (label : Tree s → Tree string) (x : Tree s) where
  abbrev Differs : Tree s → Type 0
  Differs y = meaning (label y) ≡ meaning (label x) → ⊥

  module _ (from : ℕ) (vs : List (Placed V)) (xs : List (Tree s)) (i : ℕ) (v : Placed V) (r : Split s H from vs xs i v) where
    pub fresh_more : fresh label (take i xs) x → (meaning (label r.x) ≡ meaning (label x) → ⊥) → fresh label (take (suc i) xs) x
    fresh_more f n = subst (AllByRecursion Differs) (sym r.next) (All-push Differs (take i xs) r.x f n)

    pub not_fresh : meaning (label r.x) ≡ meaning (label x) → fresh label xs x → ⊥
    not_fresh e f = at_middle Differs (take i xs) r.x r.after (subst (AllByRecursion Differs) r.whole f) e

  pub fresh_all : (from : ℕ) (vs : List (Placed V)) (xs : List (Tree s)) (i : ℕ) → length vs ≤ i → Each s H from vs xs → fresh label (take i xs) x → fresh label xs x
  fresh_all from vs xs i h a f = subst (AllByRecursion Differs) (take_all i xs (omega (arith, each_length s H from vs xs a))) f

  -- the search for a row whose key means m, as x's does
  module _ (m : List ℕ) (mine : m ≡ meaning (label x)) where
    abbrev pub Same : Placed V → Type 0
    Same v = (at : ℕ) (y : Tree s) → H at v.value y → meaning (label y) ≡ m

    abbrev pub Other : Placed V → Type 0
    Other v = (at : ℕ) (y : Tree s) → H at v.value y → meaning (label y) ≡ m → ⊥

    module _ (from : ℕ) (vs : List (Placed V)) (xs : List (Tree s)) (a : Each s H from vs xs) where
      fresh_to : (n : ℕ) → n ≤ length vs → AllWithin Other vs 0 n → fresh label (take n xs) x
      fresh_to zero h o = tt
      fresh_to (suc n) h o =
          let v = one_at s H vs n (omega arith) in
          let r = split s H from vs xs n (omega arith) v.0 v.1 a in
          fresh_more from vs xs n v.0 r (fresh_to n (omega arith) (λ k d b l. o k d b (omega arith)))
          (λ e. subst Other (sym v.1) (o n v.0 (omega arith) (omega arith)) _ r.x r.held (e ∙ sym mine))

      pub fresh_decides : (b : Bool) → MatchBool b ((k : ℕ) × (k < length vs) × HoldsAt Same vs k) (AllWithin Other vs 0 (length vs)) → Decides (not b) (fresh label xs x)
      fresh_decides true (k, l, here) =
          let v = one_at s H vs k l in
          let r = split s H from vs xs k l v.0 v.1 a in
          (λ e. absurd (false≢true e), λ f. absurd (not_fresh from vs xs k v.0 r (subst Same (sym v.1) (here v.0) _ r.x r.held ∙ mine) f))
      fresh_decides false o = (λ e. fresh_all from vs xs (length vs) (omega arith) a (fresh_to (length vs) (omega arith) o), λ f. refl)
