-- Every text is judged: a reader by recursion over the shapes, for all lists of numbers.
use Rattle.std.proofs.Common.{◌≡◌, ℕ, zero, suc, ◌+◌, ◌-◌, ◌<◌, ◌≤◌, ◌⊎◌, List, [], ◌∷◌, ◌++◌, map, length, get_or, drop, Ok, Err, refl, ap, ◌∙◌, subst, inl, inr, ⊎_elim, arith, take_all}
use Rattle.std.proofs.lemmas.Bool.{cases_eq}
use Rattle.std.proofs.str.Laws.{order}
use Rattle.aterm.specs.declared.fault.Cause.TheVariants.{Byte, Row}
use Rattle.aterm.specs.declared.fault.Fault.{Fault}
use Rattle.aterm.specs.declared.part.Mode.{Mode}
use Rattle.aterm.specs.declared.part.Mode.TheVariants.{Plain, Escaped}
use Rattle.aterm.specs.declared.rows.Placed.{Placed}
use Rattle.aterm.specs.Grammar.{Sign, byte, signs, Shape, string, row, list, Fields, last, field, Tree, opener, write, writes}
use Rattle.aterm.specs.Reads.{Stops, Written, Next, written_field, written_row}
use Rattle.aterm.specs.Files.{derivation, word}
use Rattle.aterm.specs.Total.{EveryText}
use Rattle.aterm.proofs.Laws.{reach}
use Rattle.aterm.proofs.Strings.{Sofar, seg_none, closed, open_end, on_plain, on_slash, on_escaped, ordinary_from}
use Rattle.aterm.proofs.Parts.{field_open, field_body, field_close, field_done}
use Rattle.aterm.proofs.Lists.{Listed, row_open, row_full, row_rest, empty_list, first_row_stops, first_row, list_closed, comma_stops, row_stops, next_row}
use Rattle.aterm.proofs.Fields.{field_stops, later_stops, both}
use Rattle.aterm.proofs.Whole.{spelt, Passing, pass_stops, pass_more, word_stops, body_stops, end_stops, written_whole}

abbrev Stopped : {X : Type 0} → (X → List Sign) → List ℕ → ℕ → Type 0
Stopped W t at = (f : Fault) × Stops W (drop at (signs t)) at f.place f.cause

-- a tree is written from there, or the text stops
abbrev Read : {X : Type 0} → (X → List Sign) → List ℕ → ℕ → Type 0
Read W t at = ((next : ℕ) × Written W (λ x. Unit {0}) t at next) ⊎ Stopped W t at

-- the byte b, or another sign
abbrev Seen : ℕ → List ℕ → ℕ → Type 0
Seen b t at = ((next : ℕ) × Next b t at (Ok next)) ⊎ ((f : Fault) × Next b t at (Err f))

look : (b : ℕ) (t : List ℕ) (at : ℕ) → Seen b t at
look b t at =
    let f : Fault = record { place = at; cause = Byte } in
    ⊎_elim
    (λ k. ⊎_elim (λ e. inl (at + 1, (refl, k, e))) (λ e. inr (f, (refl, refl, λ j. e))) (cases_eq (get_or t at 0) b))
    (λ k. inr (f, (refl, refl, λ j. absurd (omega arith))))
    (order at (length t))

-- strings
module _ (t : List ℕ) (at : ℕ) where
  at_end : (e : ℕ) (m : Mode) → at ≤ e → e ≡ length t → Sofar t at e m → Read (write string) t at
  at_end e m h i s = inr (record { place = length t; cause = Byte }, open_end t at m (omega arith) (subst (λ j. Sofar t at j m) i s))

  done : (e : ℕ) → at ≤ e → e < length t → get_or t e 0 ≡ 34 → Sofar t at e Plain → Read (write string) t at
  done e h k q s = let w = closed t at e h k q s in inl (e + 1, record { tree = w.tree; whole = w.whole; inside = w.inside; held = tt })

  characters : (g e : ℕ) (m : Mode) → at ≤ e → e ≤ length t → length t ≤ e + g → Sofar t at e m → Read (write string) t at
  characters zero e m h i j s = at_end e m h (omega arith) s
  characters (suc g) e Plain h i j s =
      ⊎_elim
      (λ k.
      ⊎_elim
      (λ q. done e h k q s)
      (λ q.
      ⊎_elim
      (λ p. characters g (e + 1) Escaped (omega arith) (omega arith) (omega arith) (on_slash t at e h k p s))
      (λ p. characters g (e + 1) Plain (omega arith) (omega arith) (omega arith) (on_plain t at e h k (ordinary_from (get_or t e 0) q p) s))
      (cases_eq (get_or t e 0) 92))
      (cases_eq (get_or t e 0) 34))
      (λ k. at_end e Plain h (omega arith) s)
      (order e (length t))
  characters (suc g) e Escaped h i j s =
      ⊎_elim
      (λ k. characters g (e + 1) Plain (omega arith) (omega arith) (omega arith) (on_escaped t at e h k s))
      (λ k. at_end e Escaped h (omega arith) s)
      (order e (length t))

  read_string : at ≤ length t → Read (write string) t at
  read_string h = characters (length t) at Plain (omega arith) h (omega arith) ([], seg_none t at)

module _ (t : List ℕ) (s : Shape) (rest : (at : ℕ) → at ≤ length t → Read (write s) t at) where
  -- a field and the byte that closes it
  read_field : (k at : ℕ) → at ≤ length t → Read (written_field s k) t at
  read_field k at h =
      ⊎_elim
      (λ n.
      ⊎_elim
      (λ w.
      ⊎_elim
      (λ m. inl (m.0, field_done s k t at h (opener s) refl (λ p x. Unit {0}) n.0 n.1 w.0 w.1 m.0 m.1))
      (λ m. inr (m.0, field_close s k t at h (opener s) refl (λ p x. Unit {0}) n.0 n.1 w.0 w.1 m.0 m.1))
      (look k t w.0))
      (λ st. inr (st.0, field_body s k t at h (opener s) refl n.0 n.1 st.0 st.1))
      (rest n.0 (omega (arith, n.1.0, n.1.1))))
      (λ n. inr (n.0, field_open s k t at h (opener s) refl n.0 n.1))
      (look (opener s) t at)

  -- a row, with room for m rows
  read_row : (m at : ℕ) → at ≤ length t → Read (written_row s m) t at
  read_row m at h =
      ⊎_elim
      (λ n.
      ⊎_elim
      (λ some.
      ⊎_elim
      (λ w. inl (w.0, row_rest s t at h (opener s) refl m some n.0 n.1 {V = Unit {0}} (λ p v x. Unit {0}) (Ok (tt, w.0)) w.1))
      (λ st. inr (st.0, row_rest s t at h (opener s) refl m some n.0 n.1 {V = Unit {0}} (λ p v x. Unit {0}) (Err st.0) st.1))
      (rest n.0 (omega (arith, n.1.0, n.1.1))))
      (λ none. inr (record { place = at; cause = Row }, row_full s t at h (opener s) refl m (omega arith) n.0 n.1))
      (order 0 m))
      (λ n. inr (n.0, row_open s t at h (opener s) refl m n.0 n.1))
      (look (opener s) t at)

  -- each row takes a sign at least
  further : (m at next : ℕ) → at ≤ length t → Written (written_row s m) (λ x. Unit {0}) t at next → at < next
  further m at next h w = let r = reach t (written_row s m w.tree) at next w.whole h w.inside in omega arith

  module _ (n at : ℕ) (h : at ≤ length t) where
    abbrev Rows : List (Placed (Unit {0})) → ℕ → ℕ → Type 0
    Rows vs k to = Listed s n {V = Unit {0}} (λ p v x. Unit {0}) t at vs k to

    forget : {H : Tree (list n s) → Type 0} (next : ℕ) → Written (write (list n s)) H t at next → Read (write (list n s)) t at
    forget next w = inl (next, record { tree = w.tree; whole = w.whole; inside = w.inside; held = tt })

    read_more : (g : ℕ) (vs : List (Placed (Unit {0}))) (k to : ℕ) → length t < to + g → Rows vs k to → Read (write (list n s)) t at
    read_more zero vs k to j li = absurd (omega (arith, j, li.inside))
    read_more (suc g) vs k to j li =
        ⊎_elim
        (λ c. forget c.0 (list_closed s n h li c.0 c.1))
        (λ c.
        ⊎_elim
        (λ d.
        let inside : d.0 ≤ length t = omega (arith, d.1.0, d.1.1) in
        ⊎_elim
        (λ w. read_more g (vs ++ record { place = d.0; value = tt } ∷ []) (k + 1) w.0 (omega (arith, j, d.1.0, further (n - k) d.0 w.0 inside w.1)) (next_row s n h li d.0 d.1 tt w.0 w.1 (vs ++ record { place = d.0; value = tt } ∷ []) refl))
        (λ st. inr (st.0, row_stops s n h li d.0 d.1 st.0 st.1))
        (read_row (n - k) d.0 inside))
        (λ d. inr (d.0, comma_stops s n h li c.0 d.0 c.1 d.1))
        (look 44 t to))
        (look 93 t to)

    read_list : Read (write (list n s)) t at
    read_list =
        ⊎_elim
        (λ c. forget c.0 (empty_list s n {V = Unit {0}} (λ p v x. Unit {0}) t at h [] refl c.0 c.1))
        (λ c.
        ⊎_elim
        (λ w. read_more (suc (length t)) (record { place = at; value = tt } ∷ []) 1 w.0 (omega arith) (first_row s n {V = Unit {0}} (λ p v x. Unit {0}) t at h tt w.0 w.1 (record { place = at; value = tt } ∷ []) refl))
        (λ st. inr (st.0, first_row_stops s n {V = Unit {0}} (λ p v x. Unit {0}) t at h c.0 c.1 st.0 st.1))
        (read_row n at h))
        (look 93 t at)

mutual
  read_shape : (s : Shape) (t : List ℕ) (at : ℕ) → at ≤ length t → Read (write s) t at
  read_shape string t at h = read_string t at h
  read_shape (row fs) t at h = read_fields fs t at h
  read_shape (list n s) t at h = read_list t s (read_shape s t) n at h

  read_fields : (fs : Fields) (t : List ℕ) (at : ℕ) → at ≤ length t → Read (writes fs) t at
  read_fields (last s) t at h = read_field t s (read_shape s t) 41 at h
  read_fields (field s fs) t at h =
      ⊎_elim
      (λ w.
      ⊎_elim
      (λ v. let b = both s fs h w.1 (λ p x. Unit {0}) v.1 in inl (v.0, record { tree = b.tree; whole = b.whole; inside = b.inside; held = tt }))
      (λ st. inr (st.0, later_stops s fs h w.1 st.1))
      (read_fields fs t w.0 w.1.inside))
      (λ st. inr (st.0, field_stops s fs st.1))
      (read_field t s (read_shape s t) 44 at h)

-- the word
abbrev Passed : List ℕ → List ℕ → Type 0
Passed w t = ((at : ℕ) × (at ≤ length t) × (signs t ≡ map byte w ++ drop at (signs t))) ⊎ ((f : Fault) × Stops (spelt w) (signs t) 0 f.place f.cause)

pass : (w t : List ℕ) (g i at : ℕ) → length w ≤ i + g → Passing w t i at → Passed w t
pass w t zero i at j p = inl (at, p.0, p.1 ∙ ap (λ l. map byte l ++ drop at (signs t)) (take_all i w (omega arith)))
pass w t (suc g) i at j p =
    ⊎_elim
    (λ k.
    ⊎_elim
    (λ n. pass w t g (i + 1) n.0 (omega arith) (pass_more w t i at p k n.0 n.1))
    (λ n. inr (n.0, pass_stops w t i at p k n.0 n.1))
    (look (get_or w i 0) t at))
    (λ k. inl (at, p.0, p.1 ∙ ap (λ l. map byte l ++ drop at (signs t)) (take_all i w k)))
    (order i (length w))

pub every_text : EveryText
every_text t =
    ⊎_elim
    (λ p.
    ⊎_elim
    (λ w.
    ⊎_elim
    (λ k. inr (record { place = w.0; cause = Byte }, end_stops t p.0 p.1 p.2 w.0 w.1 k))
    (λ k. inl (w.1.tree, written_whole t p.0 p.1 p.2 w.0 w.1 k))
    (order w.0 (length t)))
    (λ st. inr (st.0, body_stops t p.0 p.1 p.2 st.1))
    (read_shape derivation t p.0 p.1))
    (λ st. inr (st.0, word_stops st.1))
    (pass word t (length word) 0 0 (omega arith) (omega arith, refl))
