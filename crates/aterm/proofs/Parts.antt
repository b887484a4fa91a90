-- What the readers of a field and of a row answer.
use Rattle.std.proofs.Common.{◌≡◌, ℕ, zero, suc, ◌+◌, ◌≤◌, List, [], ◌∷◌, ◌++◌, length, get_or, drop, Ok, Err, sym, refl, ap, ◌∙◌, subst, ⊎_elim, append_assoc, arith}
use Rattle.std.proofs.str.Laws.{order}
use Rattle.aterm.specs.declared.fault.Cause.TheVariants.{Byte}
use Rattle.aterm.specs.declared.fault.Fault.{Fault}
use Rattle.aterm.specs.Grammar.{Sign, byte, over, end, signs, Shape, Tree, opener, write, begin}
use Rattle.aterm.specs.Reads.{Stops, Written, Next, written_field}
use Rattle.aterm.proofs.Laws.{tail_eq, Starts, After, stop_start, stop_after, stop_first, sign_at, sign_end, reach}
use Rattle.aterm.proofs.Free.{free_write, some_tree}

-- b, which is not here, does not begin a row here, be it beyond the limit or not
apart_byte : (m b c : ℕ) → (c ≡ b → ⊥) → byte c ≡ begin m b → ⊥
apart_byte zero b c ne e = cc
apart_byte (suc m) b c ne e = ne cc

apart_over : (m b c : ℕ) → (c ≡ b → ⊥) → over c ≡ begin m b → ⊥
apart_over zero b c ne e = ne cc
apart_over (suc m) b c ne e = cc

apart_end : (m b : ℕ) → end ≡ begin m b → ⊥
apart_end zero b e = cc
apart_end (suc m) b e = cc

pub stop_next : {Z : Type 0} (W : Z → List Sign) (m b : ℕ) → Z → ((z : Z) → (q : List Sign) × (W z ≡ begin m b ∷ q)) → (t : List ℕ) (at : ℕ) → at ≤ length t → (f : Fault) → Next b t at (Err f) → Stops W (drop at (signs t)) at f.place f.cause
stop_next W m b z all t at h f n =
    let stop : Stops W (drop at (signs t)) at at Byte =
    ⊎_elim
    (λ k. stop_first W (begin m b) z all at (sign_at t at k) (apart_byte m b (get_or t at 0) (n.2 k)) (apart_over m b (get_or t at 0) (n.2 k)))
    (λ k. let e : at ≡ length t = omega arith in stop_first W (begin m b) z all at (ap (λ i. drop i (signs t)) e ∙ sign_end t) (apart_end m b) (apart_end m b))
    (order at (length t)) in
    subst (λ p. Stops W (drop at (signs t)) at p f.cause) (sym n.0) (subst (Stops W (drop at (signs t)) at at) (sym n.1) stop)

pub step_next : (b : ℕ) (t : List ℕ) (at next : ℕ) → Next b t at (Ok next) → drop at (signs t) ≡ byte b ∷ drop next (signs t)
step_next b t at next n = sign_at t at n.1 ∙ ap (λ c. byte c ∷ drop (at + 1) (signs t)) n.2 ∙ ap (λ i. byte b ∷ drop i (signs t)) (sym n.0)

pub step_opener : (s : Shape) (t : List ℕ) (at b : ℕ) → b ≡ opener s → (inside : ℕ) → Next b t at (Ok inside) → drop at (signs t) ≡ (byte (opener s) ∷ []) ++ drop inside (signs t)
step_opener s t at b is inside n = step_next b t at inside n ∙ ap (λ c. byte c ∷ drop inside (signs t)) is

module _ (s : Shape) (k : ℕ) where
  rest_of : Tree s → List Sign
  rest_of x = write s x ++ byte k ∷ []

  close : Unit {0} → List Sign
  close u = byte k ∷ []

  after_open : After (written_field s k) (byte (opener s) ∷ []) rest_of
  unfolding rest_of
  after_open = record { up = λ y. (y, refl); down = λ x q e. (x, tail_eq e) }

  starts : Starts (write s) rest_of
  unfolding rest_of
  starts = record { down = λ z. (z, byte k ∷ [], refl); up = λ x. (x, byte k ∷ [], refl) }

  after_body : (x : Tree s) → After rest_of (write s x) close
  unfolding rest_of close
  after_body x = record { up = λ u. (x, refl); down = λ y q e. (tt, free_write s y x (byte k ∷ []) q e) }

  module _ (t : List ℕ) (at : ℕ) (h : at ≤ length t) (b : ℕ) (is : b ≡ opener s) where
    pub field_open : (f : Fault) → Next b t at (Err f) → Stops (written_field s k) (drop at (signs t)) at f.place f.cause
    field_open f n = stop_next (written_field s k) 1 (opener s) (some_tree s) (λ z. (_, refl)) t at h f (subst (λ c. Next c t at (Err f)) is n)

    pub field_body : (inside : ℕ) → Next b t at (Ok inside) → (f : Fault) → Stops (write s) (drop inside (signs t)) inside f.place f.cause → Stops (written_field s k) (drop at (signs t)) at f.place f.cause
    field_body inside n f st = stop_after after_open (step_opener s t at b is inside n) (sym n.0) (stop_start (free_write s) starts st)

    module _ (H : ℕ → Tree s → Type 0) (inside : ℕ) (n : Next b t at (Ok inside)) (stop : ℕ) (wr : Written (write s) (H inside) t inside stop) where
      pub field_close : (f : Fault) → Next k t stop (Err f) → Stops (written_field s k) (drop at (signs t)) at f.place f.cause
      unfolding close
      field_close f m =
          stop_after after_open (step_opener s t at b is inside n) (sym n.0)
          (stop_after (after_body wr.tree) wr.whole (reach t (write s wr.tree) inside stop wr.whole (omega (arith, n.0, n.1)) wr.inside)
          (stop_next close 1 k tt (λ z. ([], refl)) t stop wr.inside f m))

      pub field_done : (next : ℕ) → Next k t stop (Ok next) → Written (written_field s k) (H (at + 1)) t at next
      field_done next m = record {
        tree = wr.tree;
        whole = step_opener s t at b is inside n ∙ ap (λ l. byte (opener s) ∷ l) (wr.whole ∙ ap (λ l. write s wr.tree ++ l) (step_next k t stop next m) ∙ sym (append_assoc (write s wr.tree) (byte k ∷ []) (drop next (signs t))));
        inside = omega (arith, m.0, m.1);
        held = subst (λ p. H p wr.tree) n.0 wr.held;
      }
