-- Questions 18 to 20 to the input rows of a file, by the links of the rows and the states of the files that they name.
use Rattle.std.proofs.Common.{◌≡◌, ℕ, zero, suc, ◌+◌, ◌<◌, ◌≤◌, ◌⊎◌, Bool, true, false, cond, List, [], ◌∷◌, ◌++◌, take, length, get_or, Some, None, Option, sym, refl, ap, ◌∙◌, subst, inl, inr, arith}
use Rattle.aterm.specs.Files.{input, in_input}
use Rattle.aterm.specs.Grammar.{Tree, meaning}
use Rattle.aterm.specs.Reads.{Each}
use Rattle.aterm.specs.declared.file.Input.{Input}
use Rattle.aterm.specs.declared.rows.Placed.{Placed}
use Rattle.derivation.specs.Asked.{field_number, FirstNo, First, rows_at}
use Rattle.derivation.specs.declared.field.Field.TheVariants.{Inputs}
use Rattle.derivation.specs.declared.spot.Spot.{Spot}
use Rattle.derivation.proofs.Scan.{Split, split, one_at, found, clean_all, clean_before, Clean}
use Rattle.hash_modulo.specs.Sets.{Bytes, Present, Owned}
use Rattle.image.specs.Layout.{file_text}
use Rattle.image.specs.Opening.{Opens}
use Rattle.links.specs.Linked.{LinkRight, no_input}
use Rattle.links.specs.Sets.{set_of, Nowhere}
use Rattle.links.specs.declared.link.Link.{Link}
use Rattle.links.specs.declared.link.Links.{Links}
use Rattle.links.proofs.Files.{one_number, set_only, found_there}
use Rattle.verdict.specs.Judged.{row_of}
use Rattle.checker.specs.Settling.{FirstSpot}
use Rattle.checker.specs.Soundness.{WaitingAt}
use Rattle.checker.specs.Views.{View, NumberOf, UnhashedAt}
use Rattle.checker.specs.Standings.{state_standing, standing_in}
use Rattle.checker.specs.declared.standing.Standing.{Standing}
use Rattle.checker.specs.declared.standing.Standing.TheVariants.{Absent, Unowned, Unhashed, Waiting, Hashed}
use Rattle.checker.specs.declared.state.Hashes.{Hashes}
use Rattle.checker.specs.declared.state.Settlement.{Settlement}
use Rattle.checker.specs.declared.state.State.{State}
use Rattle.checker.specs.declared.state.State.TheVariants.{Pending, Taken, Settled}

pub clash : ◌≡◌ {A = ℕ} 0 1 → ⊥
clash e = omega arith

-- ---- how a row stands

abbrev kept_standing : Option Hashes → Standing
kept_standing o = elim o [ Some h ↦ Hashed | None ↦ Unhashed ]

-- a file is settled with a hash, without one, or not settled
pub data Stands : State → Type 0 where
  with_hash : {x : State} (s : Settlement) (h : Hashes) → x ≡ Settled s → s.hashes ≡ Some h → state_standing x ≡ Hashed → Stands x
  without_hash : {x : State} (s : Settlement) → x ≡ Settled s → s.hashes ≡ None → state_standing x ≡ Unhashed → Stands x
  waits : {x : State} → (x ≡ Pending) ⊎ (x ≡ Taken) → state_standing x ≡ Waiting → Stands x

pub stands : (x : State) → Stands x
stands Pending = waits (inl refl) refl
stands Taken = waits (inr refl) refl
stands (Settled s) = way s.hashes refl
  where
    way : (o : Option Hashes) → s.hashes ≡ o → Stands (Settled s)
    way None e = without_hash s refl e (ap kept_standing e)
    way (Some h) e = with_hash s h refl e (ap kept_standing e)

-- a row names no file, or one that does not own what is wanted, or one that does
pub data LinkStands (row : ℕ → State) : Option Link → Type 0 where
  no_file : {o : Option Link} → o ≡ None → standing_in row o ≡ Absent → LinkStands row o
  not_owned : {o : Option Link} (w : Link) → o ≡ Some w → w.owned ≡ false → standing_in row o ≡ Unowned → LinkStands row o
  owned : {o : Option Link} (w : Link) → o ≡ Some w → w.owned ≡ true → standing_in row o ≡ state_standing (row w.file) → Stands (row w.file) → LinkStands row o

pub link_stands : (row : ℕ → State) (o : Option Link) → LinkStands row o
link_stands row None = no_file refl refl
link_stands row (Some w) = way w.owned refl
  where
    way : (b : Bool) → w.owned ≡ b → LinkStands row (Some w)
    way false e = not_owned w refl e (ap (λ (b : Bool). cond b (state_standing (row w.file)) Unowned) e)
    way true e = owned w refl e (ap (λ (b : Bool). cond b (state_standing (row w.file)) Unowned) e) (stands (row w.file))

-- ---- what the links say of the files

module _ (img : Bytes) (n : ℕ) (opens : ∥ Opens img n ∥₁) where
  nothing_there : (p : Bytes) → Nowhere img n p → (t : Bytes) → set_of img n p ≡ Some t → ⊥
  nothing_there p none t e = let f = set_only img n p t e in none f.number f.from f.to f.path

  module _ (row : ℕ → State) (t : Tree input) where
    pub present : (o : Option Link) → LinkRight img n t o → (standing_in row o ≡ Absent → ⊥) → Present (set_of img n) (meaning t.0)
    present None r not = absurd (not refl)
    present (Some w) r not = (file_text img w.file, found_there img n (meaning t.0) w.file r.0 opens)

    pub not_present : (o : Option Link) → LinkRight img n t o → standing_in row o ≡ Absent → Present (set_of img n) (meaning t.0) → ⊥
    not_present None r e there = nothing_there (meaning t.0) r there.0 there.1
    not_present (Some w) r e there = elim (link_stands row (Some w)) [
      | no_file s q ↦ clash (cc)
      | not_owned u s b q ↦ clash (cc)
      | owned u s b q z ↦ elim z [ with_hash y h c d k ↦ clash (cc) | without_hash y c d k ↦ clash (cc) | waits c k ↦ clash (cc) ]
    ]

    pub owns : (o : Option Link) → LinkRight img n t o → (standing_in row o ≡ Unowned → ⊥) → Owned (set_of img n) (row_of t)
    owns None r not = λ m f k i. absurd (nothing_there (meaning t.0) r f.text f.at)
    owns (Some w) r not = way w.owned refl
      where
        way : (b : Bool) → w.owned ≡ b → Owned (set_of img n) (row_of t)
        way true e = r.1.0 e
        way false e = absurd (not (ap (λ (b : Bool). cond b (state_standing (row w.file)) Unowned) e))

    pub not_owner : (o : Option Link) → LinkRight img n t o → standing_in row o ≡ Unowned → Owned (set_of img n) (row_of t) → ⊥
    not_owner None r e owned_too = clash (cc)
    not_owner (Some w) r e owned_too =
        let yes : w.owned ≡ true = r.1.1 owned_too in
        let q : standing_in row (Some w) ≡ state_standing (row w.file) = ap (λ (b : Bool). cond b (state_standing (row w.file)) Unowned) yes in
        elim (stands (row w.file)) [ with_hash y h c d k ↦ clash (cc) | without_hash y c d k ↦ clash (cc) | waits c k ↦ clash (cc) ]

-- ---- the state of the file that a row names

module _ (v : View) (t : Tree input) where
  with_owner : (w : Link) → w.owned ≡ true → standing_in v.row (Some w) ≡ state_standing (v.row w.file)
  with_owner w e = ap (λ (b : Bool). cond b (state_standing (v.row w.file)) Unowned) e

  -- what holds of an owner holds, where the row does not stand as one without
  by_owner : (w : Link) → (standing_in v.row (Some w) ≡ Unowned → ⊥) → w.owned ≡ true
  by_owner w own = way w.owned refl
    where
      way : (b : Bool) → w.owned ≡ b → w.owned ≡ true
      way true e = e
      way false e = absurd (own (ap (λ (b : Bool). cond b (state_standing (v.row w.file)) Unowned) e))

  number : (w : Link) → LinkRight v.image v.count t (Some w) → NumberOf v (meaning t.0) w.file
  number w r = record { exists = (r.0.0, r.0.1); is = r.0.2 }

  module _ (opens : Opens v.image v.count) where
    -- the file at the path of a row is the one of its link
    linked : (w : Link) → LinkRight v.image v.count t (Some w) → (j : ℕ) → NumberOf v (meaning t.0) j → v.row w.file ≡ v.row j
    linked w r j n = ap v.row (one_number v.image v.count opens w.file j r.0.0 r.0.1 n.exists.0 n.exists.1 (r.0.2 ∙ sym n.is))

    pub unhashed_there : (o : Option Link) → LinkRight v.image v.count t o → (standing_in v.row o ≡ Unowned → ⊥) → (standing_in v.row o ≡ Unhashed → ⊥)
        → (j : ℕ) → NumberOf v (meaning t.0) j → UnhashedAt v j → ⊥
    unhashed_there None r own not j n u = r j n.exists.0 n.exists.1 n.is
    unhashed_there (Some w) r own not j n u = not (with_owner w (by_owner w own) ∙ ap state_standing (linked w r j n ∙ u.settled) ∙ ap kept_standing u.is)

    pub waiting_there : (o : Option Link) → LinkRight v.image v.count t o → (standing_in v.row o ≡ Unowned → ⊥) → (standing_in v.row o ≡ Waiting → ⊥)
        → (j : ℕ) → NumberOf v (meaning t.0) j → WaitingAt v j → ⊥
    waiting_there None r own not j n u = r j n.exists.0 n.exists.1 n.is
    waiting_there (Some w) r own not j n (inl p) = not (with_owner w (by_owner w own) ∙ ap state_standing (linked w r j n ∙ p.is))
    waiting_there (Some w) r own not j n (inr p) = not (with_owner w (by_owner w own) ∙ ap state_standing (linked w r j n ∙ p.is))

  pub at_unhashed : (o : Option Link) → LinkRight v.image v.count t o → standing_in v.row o ≡ Unhashed → ((j : ℕ) → NumberOf v (meaning t.0) j → UnhashedAt v j → ⊥) → ⊥
  at_unhashed None r e none = clash (cc)
  at_unhashed (Some w) r e none =
      let own = by_owner w (λ q. clash (cc)) in
      let q = sym (with_owner w own) ∙ e in
      elim (stands (v.row w.file)) [
        | with_hash s h c d k ↦ clash (cc)
        | without_hash s c d k ↦ none w.file (number w r) (record { exists = (r.0.0, r.0.1); settlement = s; settled = c; is = d })
        | waits c k ↦ clash (cc)
      ]

  pub at_waiting : (o : Option Link) → LinkRight v.image v.count t o → standing_in v.row o ≡ Waiting → ((j : ℕ) → NumberOf v (meaning t.0) j → WaitingAt v j → ⊥) → ⊥
  at_waiting None r e none = clash (cc)
  at_waiting (Some w) r e none =
      let own = by_owner w (λ q. clash (cc)) in
      let q = sym (with_owner w own) ∙ e in
      elim (stands (v.row w.file)) [
        | with_hash s h c d k ↦ clash (cc)
        | without_hash s c d k ↦ clash (cc)
        | waits c k ↦ none w.file (number w r) (elim c [
          | inl p ↦ inl (record { exists = (r.0.0, r.0.1); is = p })
          | inr p ↦ inr (record { exists = (r.0.0, r.0.1); is = p })
        ])
      ]

-- ---- the first row of which the answer is no

middle : {X : Type 0} (a : List X) (x : X) (b : List X) (i : ℕ) (d : X) → length a ≡ i → get_or (a ++ x ∷ b) i d ≡ x
middle [] x b i d e = ap (λ (j : ℕ). get_or (x ∷ b) j d) (sym e)
middle (y ∷ a) x b zero d e = absurd (omega arith)
middle (y ∷ a) x b (suc i) d e = middle a x b i d (omega arith)

module _ (row : ℕ → State) (text : Bytes) (l : Links) (inputs : List (Placed Input)) (from : ℕ) (ts : List (Tree input))
    (rows : Each input (in_input text) from inputs ts) (same : l.count ≡ length inputs) (Yes : Tree input → Type 0) (wanted : Standing) where
  abbrev link : ℕ → Option Link
  link i = get_or l.rows i None

  abbrev tree : ℕ → Tree input
  tree i = get_or ts i no_input

  abbrev Asks : List (Tree input) → Tree input → Type 0
  Asks ys t = Yes t

  abbrev So : ℕ → Placed Input → Type 0
  So i v = Yes (tree i)

  tree_at : (i : ℕ) (v : Placed Input) (r : Split input (in_input text) from inputs ts i v) → tree i ≡ r.x
  tree_at i v r = ap (λ (us : List (Tree input)). get_or us i no_input) r.whole ∙ middle (take i ts) r.x r.after i no_input r.long

  module _ (yes : (i : ℕ) → i < l.count → (standing_in row (link i) ≡ wanted → ⊥) → Yes (tree i)) where
    clean : (i : ℕ) → i ≤ length inputs → ((j : ℕ) → j < i → standing_in row (link j) ≡ wanted → ⊥) → Clean input (in_input text) Asks Inputs from (take i ts)
    clean i h before =
        clean_before input (in_input text) from inputs ts rows Asks Inputs So (λ k v r y. subst Yes (tree_at k v r) y) i h
        (λ k less d. yes k (omega (arith, less, h, same)) (before k less))

    pub all_yes : FirstSpot row l inputs wanted None → First (λ (e : List (Tree input) × Tree input). Yes e.1) (rows_at input Inputs from [] ts) None
    all_yes none =
        clean_all input (in_input text) Asks Inputs from inputs ts (length inputs) (omega arith) rows
        (clean (length inputs) (omega arith) (λ j less. none j (omega (arith, less, same))))

    pub first_no : ((i : ℕ) → i < l.count → standing_in row (link i) ≡ wanted → Yes (tree i) → ⊥) → (w : Spot) → FirstSpot row l inputs wanted (Some w)
        → FirstNo (λ (e : List (Tree input) × Tree input). Yes e.1) (rows_at input Inputs from [] ts) w
    first_no not w (i, (less, here, before), is) =
        let v = one_at input (in_input text) inputs i (omega (arith, less, same)) in
        let r = split input (in_input text) from inputs ts i (omega (arith, less, same)) v.0 v.1 rows in
        let c = clean i (omega (arith, less, same)) before in
        let f = found input (in_input text) Asks Inputs from inputs ts i v.0 r c (λ y. not i less here (subst Yes (sym (tree_at i v.0 r)) y)) in
        let spot = is v.0 ∙ ap (λ (u : Placed Input). record { field = field_number Inputs; row = i + 1; place = u.place }) (sym v.1) in
        subst (FirstNo (λ (e : List (Tree input) × Tree input). Yes e.1) (rows_at input Inputs from [] ts)) (sym spot) f.0
