-- A whole text: its word, its tree and its end; and that it has one fault at most.
use Rattle.std.proofs.Common.{◌≡◌, ℕ, suc, ◌+◌, ◌<◌, ◌≤◌, List, [], ◌∷◌, ◌++◌, map, length, get_or, take, drop, Ok, Err, sym, refl, ap, ◌∙◌, subst, ⊎_elim, append_assoc, append-nil, add-one, arith, take-append-drop, drop-cons, take-suc}
use Rattle.std.proofs.lemmas.List.{append_cancel_left, map-append}
use Rattle.aterm.specs.declared.fault.Cause.{Cause}
use Rattle.aterm.specs.declared.fault.Cause.TheVariants.{Byte, Row}
use Rattle.aterm.specs.declared.fault.Fault.{Fault}
use Rattle.aterm.specs.Grammar.{Sign, byte, end, signs, Tree, write}
use Rattle.aterm.specs.Reads.{Because, Stops, Written, Next}
use Rattle.aterm.specs.Files.{derivation, in_derivation, word, whole, IsFault, Reading}
use Rattle.aterm.specs.declared.file.Derivation.{Derivation}
use Rattle.aterm.proofs.Once.{once_write}
use Rattle.aterm.proofs.Limits.{Clear, clear_signs, clear_left, clear_right, within}
use Rattle.aterm.proofs.Laws.{Free, Starts, After, stop_start, stop_after, stop_first, sign_at, sign_end, reach, apart}
use Rattle.aterm.proofs.Free.{free_write, some_tree}
use Rattle.aterm.proofs.Parts.{stop_next, step_next}

abbrev pub spelt : List ℕ → Unit {0} → List Sign
spelt w u = map byte w

-- the first i bytes of the word are passed
abbrev pub Passing : List ℕ → List ℕ → ℕ → ℕ → Type 0
Passing w t i at = (at ≤ length t) × (signs t ≡ map byte (take i w) ++ drop at (signs t))

after_part : (w : List ℕ) (i : ℕ) → After (spelt w) (map byte (take i w)) (spelt (drop i w))
after_part w i =
    let e : map byte w ≡ map byte (take i w) ++ map byte (drop i w) = ap (map byte) (sym (take-append-drop i w)) ∙ map-append byte (take i w) (drop i w) in
    record { up = λ y. (tt, e); down = λ x q f. (tt, append_cancel_left (map byte (take i w)) (map byte (drop i w)) q (sym e ∙ f)) }

module _ (w t : List ℕ) (i at : ℕ) (inv : Passing w t i at) (h : i < length w) where
  pub pass_stops : (f : Fault) → Next (get_or w i 0) t at (Err f) → Stops (spelt w) (signs t) 0 f.place f.cause
  pass_stops f n =
      stop_after (after_part w i) inv.1 (reach t (map byte (take i w)) 0 at inv.1 (omega arith) inv.0)
      (stop_next (spelt (drop i w)) 1 (get_or w i 0) tt (λ z. (map byte (drop (suc i) w), ap (map byte) (drop-cons w i 0 h))) t at inv.0 f n)

  pub pass_more : (next : ℕ) → Next (get_or w i 0) t at (Ok next) → Passing w t (i + 1) next
  pass_more next n =
      let b = get_or w i 0 in
      let one : take (i + 1) w ≡ take i w ++ b ∷ [] = rw add-one (take-suc w i 0 h) in (
        omega (arith, n.0, n.1),
        inv.1 ∙ ap (λ l. map byte (take i w) ++ l) (step_next b t at next n) ∙ sym (append_assoc (map byte (take i w)) (byte b ∷ []) (drop next (signs t))) ∙ ap (λ l. l ++ drop next (signs t)) (sym (map-append byte (take i w) (b ∷ [])) ∙ ap (map byte) (sym one)),
      )

-- the tree and the end
body : Tree derivation → List Sign
body x = write derivation x ++ end ∷ []

close : Unit {0} → List Sign
close u = end ∷ []

free_spelt : Free (spelt word)
free_spelt x y r q e = append_cancel_left (map byte word) r q e

starts_whole : Starts (spelt word) whole
starts_whole = record { down = λ z. (tt, write derivation z ++ end ∷ [], refl); up = λ x. (some_tree derivation, write derivation (some_tree derivation) ++ end ∷ [], refl) }

after_word : After whole (map byte word) body
unfolding body
after_word = record { up = λ y. (y, refl); down = λ x q e. (x, append_cancel_left (map byte word) (write derivation x ++ end ∷ []) q e) }

starts_body : Starts (write derivation) body
unfolding body
starts_body = record { down = λ z. (z, end ∷ [], refl); up = λ x. (x, end ∷ [], refl) }

after_body : (x : Tree derivation) → After body (write derivation x) close
unfolding body close
after_body x = record { up = λ u. (x, refl); down = λ y q e. (tt, free_write derivation y x (end ∷ []) q e) }

pub word_stops : {l : List Sign} {place : ℕ} {k : Cause} → Stops (spelt word) l 0 place k → Stops whole l 0 place k
word_stops st = stop_start free_spelt starts_whole st

module _ (t : List ℕ) (inside : ℕ) (h : inside ≤ length t) (p : signs t ≡ map byte word ++ drop inside (signs t)) where
  pub body_stops : {place : ℕ} {k : Cause} → Stops (write derivation) (drop inside (signs t)) inside place k → Stops whole (signs t) 0 place k
  body_stops st = stop_after after_word p (reach t (map byte word) 0 inside p (omega arith) h) (stop_start (free_write derivation) starts_body st)

  module _ {H : Tree derivation → Type 0} (to : ℕ) (w : Written (write derivation) H t inside to) where
    pub end_stops : to < length t → Stops whole (signs t) 0 to Byte
    unfolding close
    end_stops k =
        stop_after after_word p (reach t (map byte word) 0 inside p (omega arith) h)
        (stop_after (after_body w.tree) w.whole (reach t (write derivation w.tree) inside to w.whole h w.inside)
        (stop_first close end tt (λ z. ([], refl)) to (sign_at t to k) (λ e. cc) (λ e. cc)))

    pub written_whole : length t ≤ to → signs t ≡ whole w.tree
    written_whole k =
        let here : to ≡ length t = omega (arith, w.inside) in
        p ∙ ap (λ l. map byte word ++ l) (w.whole ∙ ap (λ l. write derivation w.tree ++ l) (ap (λ i. drop i (signs t)) here ∙ sign_end t))

pub reads : (t : List ℕ) (inside : ℕ) → inside ≤ length t → signs t ≡ map byte word ++ drop inside (signs t) → (d : Derivation) (to : ℕ) → Written (write derivation) (in_derivation t inside d) t inside to → length t ≤ to → Reading t d
reads t inside h p d to w k =
    let e = written_whole t inside h p to w k in
    record {
      tree = w.tree;
      written = e;
      only = λ y f. once_write derivation y w.tree (end ∷ []) (end ∷ []) (append_cancel_left (map byte word) _ _ (sym f ∙ e));
      within = within derivation w.tree (clear_left (write derivation w.tree) (end ∷ []) (clear_right (map byte word) (write derivation w.tree ++ end ∷ []) (subst Clear e (clear_signs t))));
      held = subst (λ q. in_derivation t q d w.tree) (sym (reach t (map byte word) 0 inside p (omega arith) h)) w.held;
    }

-- one fault at most
same_cause : {X : Type 0} (W : X → List Sign) (p : List Sign) (c : Sign) (j k : Cause) → Because W p c j → Because W p c k → j ≡ k
same_cause W p c Byte Byte a b = refl
same_cause W p c Byte Row a b = absurd (a b)
same_cause W p c Row Byte a b = absurd (b a)
same_cause W p c Row Row a b = refl

module _ {X : Type 0} {W : X → List Sign} where
  pub none_if_read : {l : List Sign} {place : ℕ} {k : Cause} (x : X) → l ≡ W x → Stops W l 0 place k → ⊥
  none_if_read x e st = st.stops (x, st.after, sym e ∙ st.whole)

  longer : {l m : List Sign} {p q : ℕ} {j k : Cause} (a : Stops W l 0 p j) (b : Stops W m 0 q k) (r : List Sign) → b.before ≡ a.before ++ a.sign ∷ r → ⊥
  longer a b r e =
      let v = b.viable in
      a.stops (v.1.0, r ++ v.0 ∷ v.1.1, v.1.2 ∙ ap (λ l. l ++ v.0 ∷ v.1.1) e ∙ append_assoc a.before (a.sign ∷ r) (v.0 ∷ v.1.1))

  same : {l : List Sign} {p q : ℕ} {j k : Cause} (a : Stops W l 0 p j) (b : Stops W l 0 q k) (r : List Sign) → b.before ≡ a.before ++ r → a.sign ∷ a.after ≡ r ++ b.sign ∷ b.after → (p ≡ q) × (j ≡ k)
  same {l} {p} {q} {j} {k} a b [] e f =
      let e1 : b.before ≡ a.before = e ∙ append-nil a.before in
      let e2 : b.sign ≡ a.sign = cc in
      (omega (arith, a.at, b.at, ap length e1), same_cause W a.before a.sign j k a.because (subst (λ c. Because W a.before c k) e2 (subst (λ u. Because W u b.sign k) e1 b.because)))
  same a b (d ∷ r) e f =
      let e1 : d ≡ a.sign = cc in
      absurd (longer a b r (e ∙ ap (λ c. a.before ++ c ∷ r) e1))

  pub one_stop : {l : List Sign} {p q : ℕ} {j k : Cause} → Stops W l 0 p j → Stops W l 0 q k → (p ≡ q) × (j ≡ k)
  one_stop a b =
      ⊎_elim
      (λ m. absurd (longer b a m.0 m.1))
      (λ m. same a b m.0 m.1 m.2)
      (apart b.before a.before b.sign b.after (a.sign ∷ a.after) (sym a.whole ∙ b.whole))

pub one_fault : (t : List ℕ) (f g : Fault) → IsFault t f → IsFault t g → g ≡ f
one_fault t f g a b = let s = one_stop b a in λ i. record { place = s.0 i; cause = s.1 i }
