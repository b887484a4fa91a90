-- The turns of a scan, that it has one answer, and the search that finds it.
use Rattle.std.proofs.Common.{◌≡◌, ℕ, zero, suc, ◌+◌, ◌<◌, ◌≤◌, Bool, true, false, not, List, [], ◌∷◌, ◌++◌, length, get_or, take, is_some, Some, None, Decides, Option, sym, refl, ap, ◌∙◌, subst, append_assoc, append-nil, arith, take_all}
use denote.Param.Members.{Mut}
use Rattle.std.specs.Borrow.{Bor}
use Rattle.std.specs.Fn.{CalledAt}
use Rattle.std.specs.Iterator.{FindsItem}
use Rattle.std.specs.Iterator.Adapters.{enumerate_source, enumerate_count, enumerate_steps}
use Rattle.std.specs.Option.{MatchOption, option_map}
use Rattle.std.specs.List.{AllByRecursion, AllWithin, HoldsAt, enumerate_from}
use Rattle.std.proofs.lemmas.Iterator.{YieldsList, first_from_find}
use Rattle.std.proofs.lemmas.Iterator.Consumers.{YieldsList-from_enumerate}
use Rattle.std.proofs.lemmas.List.FromFn.{length-enumerate_from, get_or-enumerate_from}
use Rattle.std.proofs.ByRecursion.{All-append}
use Rattle.aterm.specs.Grammar.{Shape, Tree}
use Rattle.aterm.specs.Reads.{Each, past}
use Rattle.aterm.specs.declared.rows.Placed.{Placed}
use Rattle.aterm.proofs.Lists.{ends}
use Rattle.derivation.specs.declared.field.Field.{Field}
use Rattle.derivation.specs.declared.spot.Spot.{Spot}
use Rattle.std.proofs.lemmas.Bool.{false≢true}
use Rattle.derivation.specs.Asked.{field_number, FirstNo, First, rows_at, Throughout}

module _ (s : Shape) where
  pub rows_append : (field : Field) (at : ℕ) (earlier xs ys : List (Tree s)) → rows_at s field at earlier (xs ++ ys) ≡ rows_at s field at earlier xs ++ rows_at s field (ends s at xs) (earlier ++ xs) ys
  rows_append field at earlier [] ys = ap (λ l. rows_at s field at l ys) (sym (append-nil earlier))
  rows_append field at earlier (x ∷ xs) ys =
      ap (λ l. (record { field = field_number field; row = length earlier + 1; place = at }, (earlier, x)) ∷ l)
      (rows_append field (past s at x) (earlier ++ x ∷ []) xs ys ∙ ap (λ l. rows_at s field (past s at x) (earlier ++ x ∷ []) xs ++ rows_at s field (ends s (past s at x) xs) l ys) (append_assoc earlier (x ∷ []) xs))

module _ {V : Type 0} (s : Shape) (H : ℕ → V → Tree s → Type 0) where
  pub record Split (from : ℕ) (vs : List (Placed V)) (xs : List (Tree s)) (i : ℕ) (v : Placed V) : Type 0 where
    pub x : Tree s
    pub after : List (Tree s)
    pub whole : xs ≡ take i xs ++ x ∷ after
    pub next : take (suc i) xs ≡ take i xs ++ x ∷ []
    pub long : length (take i xs) ≡ i
    pub front : Each s H from (take i vs) (take i xs)
    pub stands : v.place ≡ ends s from (take i xs)
    pub held : H (ends s from (take i xs) + 1) v.value x

  pub split : (from : ℕ) (vs : List (Placed V)) (xs : List (Tree s)) (i : ℕ) → i < length vs → (v : Placed V) → v ≡ get_or vs i v → Each s H from vs xs → Split from vs xs i v
  split from [] xs i h v e a = absurd (omega arith)
  split from (u ∷ vs) [] i h v e a = absurd a
  split from (u ∷ vs) (x ∷ xs) zero h v e a = record {
    x = x;
    after = xs;
    whole = refl;
    next = refl;
    long = refl;
    front = tt;
    stands = ap (λ w. w.place) e ∙ a.0.0;
    held = subst (λ w. H (from + 1) w.value x) (sym e) a.0.1;
  }
  split from (u ∷ vs) (x ∷ xs) (suc i) h v e a =
      let r = split (past s from x) vs xs i (omega arith) v e a.1 in
      record {
        x = r.x;
        after = r.after;
        whole = ap (λ l. x ∷ l) r.whole;
        next = ap (λ l. x ∷ l) r.next;
        long = ap suc r.long;
        front = (a.0, r.front);
        stands = r.stands;
        held = r.held;
      }

  -- the row at a place of a list
  pub one_at : (vs : List (Placed V)) (i : ℕ) → i < length vs → (v : Placed V) × (v ≡ get_or vs i v)
  one_at [] i h = absurd (omega arith)
  one_at (v ∷ vs) zero h = (v, refl)
  one_at (v ∷ vs) (suc i) h = one_at vs i (omega arith)

  pub each_length : (from : ℕ) (vs : List (Placed V)) (xs : List (Tree s)) → Each s H from vs xs → length vs ≡ length xs
  each_length from [] [] a = refl
  each_length from [] (x ∷ xs) a = absurd a
  each_length from (v ∷ vs) [] a = absurd a
  each_length from (v ∷ vs) (x ∷ xs) a = ap suc (each_length (past s from x) vs xs a.1)

  -- the rows as a slice of their table
  pub each_as : (from : ℕ) {us vs : List (Placed V)} (xs : List (Tree s)) → us ≡ vs → Each s H from vs xs → Each s H from us xs
  each_as from xs e a = subst (λ l. Each s H from l xs) (sym e) a

  -- the row at a place, among the rows of the list
  module _ (field : Field) (from : ℕ) (vs : List (Placed V)) (xs : List (Tree s)) (i : ℕ) (v : Placed V) (r : Split from vs xs i v) where
    abbrev pub spot : Spot
    spot = record { field = field_number field; row = i + 1; place = v.place }

    abbrev pub rows_after : List (Spot × (List (Tree s) × Tree s))
    rows_after = rows_at s field (past s (ends s from (take i xs)) r.x) (take i xs ++ r.x ∷ []) r.after

    pub all_rows : rows_at s field from [] xs ≡ rows_at s field from [] (take i xs) ++ (spot, (take i xs, r.x)) ∷ rows_after
    all_rows =
        ap (rows_at s field from []) r.whole
        ∙ rows_append s field from [] (take i xs) (r.x ∷ r.after)
        ∙ ap (λ w. rows_at s field from [] (take i xs) ++ (w, (take i xs, r.x)) ∷ rows_after) same
      where
        same : ◌≡◌ {A = Spot} (record { field = field_number field; row = length (take i xs) + 1; place = ends s from (take i xs) }) spot
        same = λ j. record { field = field_number field; row = r.long j + 1; place = sym r.stands j }

  module _ (Yes : List (Tree s) → Tree s → Type 0) (field : Field) where
    abbrev pub Clean : ℕ → List (Tree s) → Type 0
    Clean from xs = AllByRecursion (λ e. Yes e.1.0 e.1.1) (rows_at s field from [] xs)

    module _ (from : ℕ) (vs : List (Placed V)) (xs : List (Tree s)) (i : ℕ) (v : Placed V) (r : Split from vs xs i v) (c : Clean from (take i xs)) where
      pub clean_more : Yes (take i xs) r.x → Clean from (take (suc i) xs)
      clean_more y = subst (Clean from) (sym r.next) (subst (AllByRecursion (λ e. Yes e.1.0 e.1.1)) (sym (rows_append s field from [] (take i xs) (r.x ∷ []))) (All-append (λ e. Yes e.1.0 e.1.1) (rows_at s field from [] (take i xs)) (rows_at s field (ends s from (take i xs)) (take i xs) (r.x ∷ [])) c (y, tt)))

      -- it is the first of which the answer is no
      pub found : (Yes (take i xs) r.x → ⊥) → (f : FirstNo (λ e. Yes e.0 e.1) (rows_at s field from [] xs) (spot field from vs xs i v r)) × (f.row ≡ (take i xs, r.x))
      found n = (
        record { before = rows_at s field from [] (take i xs); row = (take i xs, r.x); after = rows_after field from vs xs i v r; whole = all_rows field from vs xs i v r; clean = c; refused = n },
        refl,
      )

    pub clean_all : (from : ℕ) (vs : List (Placed V)) (xs : List (Tree s)) (i : ℕ) → length vs ≤ i → Each s H from vs xs → Clean from (take i xs) → Clean from xs
    clean_all from vs xs i h a c = subst (Clean from) (take_all i xs (omega (arith, each_length from vs xs a))) c

-- A search for a row of a list, with its number, as `enumerate` and `find` make it.
module _ {X : Type 0} (Yes No : ℕ → X → Type 0) (xs : List X) where
  -- no row, or the first that is a yes, with its number
  abbrev pub FirstRow : Option (ℕ × Bor X) → Type 0
  FirstRow r = MatchOption r ((k : ℕ) → k < length xs → HoldsAt (No k) xs k) (λ x. Yes x.0 x.1.now × (x.0 < length xs) × HoldsAt (λ y. x.1.now ≡ y) xs x.0 × ((k : ℕ) → k < x.0 → HoldsAt (No k) xs k))

  numbered : (i : ℕ) → i < length xs → (d : X) → get_or (enumerate_from 0 xs) i (0, d) ≡ (i, get_or xs i d)
  numbered i h d = let z : 0 + i ≡ i = omega arith in get_or-enumerate_from 0 xs i (0, d) h ∙ ap (λ k. (k, get_or xs i d)) z

  before : (i : ℕ) → i ≤ length xs → AllWithin (λ p. No p.0 p.1) (enumerate_from 0 xs) 0 i → (k : ℕ) → k < i → HoldsAt (No k) xs k
  before i h a k less d = subst (λ (p : ℕ × X). No p.0 p.1) (numbered k (omega arith) d) (a k (0, d) (omega arith) less)

  by_number : (r : Option (ℕ × Bor X)) → MatchOption r (AllWithin (λ p. No p.0 p.1) (enumerate_from 0 xs) 0 (length (enumerate_from 0 xs)))
      (λ x. Yes x.0 x.1.now × (i : ℕ) × (i < length (enumerate_from 0 xs)) × HoldsAt (λ y. y ≡ (x.0, x.1.now)) (enumerate_from 0 xs) i × AllWithin (λ p. No p.0 p.1) (enumerate_from 0 xs) 0 i) → FirstRow r
  by_number None a = before (length xs) (omega arith) (λ k p from to. a k p from (omega (arith, length-enumerate_from 0 xs)))
  by_number (Some x) (y, i, less, here, none) =
      let h : i < length xs = omega (arith, length-enumerate_from 0 xs) in
      let e : (d : X) → ◌≡◌ {A = ℕ × X} (i, get_or xs i d) (x.0, x.1.now) = λ d. sym (numbered i h d) ∙ here (0, d) in
      let number : i ≡ x.0 = ap (λ (p : ℕ × X). p.0) (e x.1.now) in
      (y, omega (arith, number), λ d. sym (ap (λ (p : ℕ × X). p.1) (e d)) ∙ ap (λ (k : ℕ). get_or xs k d) number, λ k l. before i (omega arith) none k (omega (arith, number)))

  pub first_row : {S F : Type 0} {steps : S → Option (Bor X) → S → Type 0} {g : Mut F (Bor (ℕ × Bor X) × Unit {0}) Bool} {s : _} (u : _) (f : F) (r : Option (ℕ × Bor X))
      → FindsItem (enumerate_steps steps) g s f r u → YieldsList steps (λ y. y.now) (enumerate_source s) xs → enumerate_count s ≡ 0
      → ((x : ℕ × Bor X) (q : F) → CalledAt g f x true q → Yes x.0 x.1.now) → ((x : ℕ × Bor X) (q : F) → CalledAt g f x false q → (q ≡ f) × No x.0 x.1.now)
      → FirstRow r
  first_row u f r ran source count passes fails = by_number r (first_from_find u f r (λ p. Yes p.0 p.1) (λ p. No p.0 p.1) ran (YieldsList-from_enumerate source count) passes fails)

module _ {V : Type 0} (s : Shape) (H : ℕ → V → Tree s → Type 0) (from : ℕ) (vs : List (Placed V)) (xs : List (Tree s)) (rows : Each s H from vs xs) where
  -- the row at a number
  pub split_row : (i : ℕ) (v : Placed V) → i < length vs → HoldsAt (λ w. v ≡ w) vs i → Split s H from vs xs i v
  split_row i v h e = split s H from vs xs i h v (e v) rows

  -- the rows in front of a number are a yes, where what is so of each gives it
  module _ (Yes : List (Tree s) → Tree s → Type 0) (field : Field) (So : ℕ → Placed V → Type 0) (gives : (k : ℕ) (v : Placed V) (r : Split s H from vs xs k v) → So k v → Yes (take k xs) r.x) where
    pub clean_before : (i : ℕ) → i ≤ length vs → ((k : ℕ) → k < i → HoldsAt (So k) vs k) → Clean s H Yes field from (take i xs)
    clean_before zero h c = tt
    clean_before (suc i) h c =
        let v = one_at s H vs i (omega arith) in
        let r = split s H from vs xs i (omega arith) v.0 v.1 rows in
        clean_more s H Yes field from vs xs i v.0 r (clean_before i (omega arith) (λ k l. c k (omega arith))) (gives i v.0 r (subst (So i) (sym v.1) (c i (omega arith) v.0)))

-- the first row of which the answer is no, as a search gives it with its number
module _ {V : Type 0} (s : Shape) (H : ℕ → V → Tree s → Type 0) (Yes : List (Tree s) → Tree s → Type 0) (field : Field) (vs : List (Placed V)) where
  abbrev pub Passed : ℕ → Placed V → Type 0
  Passed i v = (from : ℕ) (ys : List (Tree s)) (at : ℕ) (x : Tree s) → Each s H from (take i vs) ys → H at v.value x → Yes ys x

  abbrev pub Failed : ℕ → Placed V → Type 0
  Failed i v = (from : ℕ) (ys : List (Tree s)) (at : ℕ) (x : Tree s) → Each s H from (take i vs) ys → H at v.value x → Yes ys x → ⊥

  module _ (from : ℕ) (xs : List (Tree s)) (a : Each s H from vs xs) where
    clean_to : (i : ℕ) → i ≤ length vs → ((k : ℕ) → k < i → HoldsAt (Passed k) vs k) → Clean s H Yes field from (take i xs)
    clean_to = clean_before s H from vs xs a Yes field Passed (λ k v r p. p from (take k xs) (ends s from (take k xs) + 1) r.x r.front r.held)

    pub first_found : (r : Option (ℕ × Bor (Placed V))) → FirstRow Failed Passed vs r → First (λ e. Yes e.0 e.1) (rows_at s field from [] xs) (option_map (λ p. record { field = field_number field; row = p.0 + 1; place = p.1.now.place }) r)
    first_found None p = clean_all s H Yes field from vs xs (length vs) (omega arith) a (clean_to (length vs) (omega arith) p)
    first_found (Some x) (failed, l, here, p) =
        let r = split_row s H from vs xs a x.0 x.1.now l here in
        (found s H Yes field from vs xs x.0 x.1.now r (clean_to x.0 (omega (arith, l)) p) (failed from (take x.0 xs) (ends s from (take x.0 xs) + 1) r.x r.front r.held)).0

-- what holds of all holds of the one in the middle
pub at_middle : {X : Type 0} (P : X → Type 0) (a : List X) (x : X) (b : List X) → AllByRecursion P (a ++ x ∷ b) → P x
at_middle P [] x b h = h.0
at_middle P (y ∷ a) x b h = at_middle P a x b h.1

-- a no stands against a yes of every row
pub never_all : {E : Type 0} (Yes : E → Type 0) (before after : List (Spot × E)) (w : Spot) (e : E) → (Yes e → ⊥) → AllByRecursion (λ r. Yes r.1) (before ++ (w, e) ∷ after) → ⊥
never_all Yes before after w e n a = n (at_middle (λ r. Yes r.1) before (w, e) after a)

pub first_decides : {E : Type 0} (Yes : E → Type 0) (rows : List (Spot × E)) (r : Option Spot) → First Yes rows r → Decides (not (is_some r)) (AllByRecursion (λ e. Yes e.1) rows)
first_decides Yes rows None f = (λ t. f, λ a. refl)
first_decides Yes rows (Some w) f = (λ t. absurd (false≢true t), λ a. absurd (never_all Yes f.before f.after w f.row f.refused (subst (AllByRecursion (λ e. Yes e.1)) f.whole a)))

module _ (s : Shape) (Yes : List (Tree s) → Tree s → Type 0) (field : Field) where
  pub to_throughout : (at : ℕ) (ys xs : List (Tree s)) → AllByRecursion (λ e. Yes e.1.0 e.1.1) (rows_at s field at ys xs) → Throughout Yes ys xs
  to_throughout at ys [] a = tt
  to_throughout at ys (x ∷ xs) a = (a.0, to_throughout (past s at x) (ys ++ x ∷ []) xs a.1)

  pub from_throughout : (at : ℕ) (ys xs : List (Tree s)) → Throughout Yes ys xs → AllByRecursion (λ e. Yes e.1.0 e.1.1) (rows_at s field at ys xs)
  from_throughout at ys [] a = tt
  from_throughout at ys (x ∷ xs) a = (a.0, from_throughout (past s at x) (ys ++ x ∷ []) xs a.1)
