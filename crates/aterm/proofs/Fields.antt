-- What the readers of a row's fields answer.
use Rattle.std.proofs.Common.{◌≡◌, ℕ, ◌≤◌, List, [], ◌∷◌, ◌++◌, length, drop, sym, ap, ◌∙◌, subst, append_assoc}
use Rattle.aterm.specs.declared.fault.Cause.{Cause}
use Rattle.aterm.specs.Grammar.{Sign, byte, signs, Shape, Fields, field, Tree, Trees, opener, write, writes}
use Rattle.aterm.specs.Reads.{Stops, Written, past, written_field}
use Rattle.aterm.proofs.Laws.{tail_eq, Free, Starts, After, stop_start, stop_after, reach}
use Rattle.aterm.proofs.Free.{free_write, some_trees}

module _ (s : Shape) (fs : Fields) where
  joined : (x : Tree s) (q : List Sign) → written_field s 44 x ++ q ≡ byte (opener s) ∷ (write s x ++ byte 44 ∷ q)
  joined x q = ap (λ l. byte (opener s) ∷ l) (append_assoc (write s x) (byte 44 ∷ []) q)

  free_field : Free (written_field s 44)
  free_field x y r q e = tail_eq (free_write s x y (byte 44 ∷ r) (byte 44 ∷ q) (tail_eq (sym (joined x r) ∙ e ∙ joined y q)))

  starts : Starts (written_field s 44) (writes (field s fs))
  starts = record {
    down = λ z. (z.0, writes fs z.1, sym (joined z.0 (writes fs z.1)));
    up = λ x. ((x, some_trees fs), writes fs (some_trees fs), sym (joined x (writes fs (some_trees fs))));
  }

  after : (x : Tree s) → After (writes (field s fs)) (written_field s 44 x) (writes fs)
  after x = record {
    up = λ y. ((x, y), sym (joined x (writes fs y)));
    down = λ z q e. (z.1, free_field z.0 x (writes fs z.1) q (joined z.0 (writes fs z.1) ∙ e));
  }

  pub field_stops : {l : List Sign} {from place : ℕ} {k : Cause} → Stops (written_field s 44) l from place k → Stops (writes (field s fs)) l from place k
  field_stops st = stop_start free_field starts st

  module _ {H : Tree s → Type 0} {t : List ℕ} {at mid : ℕ} (h : at ≤ length t) (w : Written (written_field s 44) H t at mid) where
    pub later_stops : {place : ℕ} {k : Cause} → Stops (writes fs) (drop mid (signs t)) mid place k → Stops (writes (field s fs)) (drop at (signs t)) at place k
    later_stops st = stop_after (after w.tree) w.whole (reach t (written_field s 44 w.tree) at mid w.whole h w.inside) st

    pub both : (G : ℕ → Trees fs → Type 0) {next : ℕ} → Written (writes fs) (G mid) t mid next → Written (writes (field s fs)) (λ z. H z.0 × G (past s at z.0) z.1) t at next
    both G {next} v = record {
      tree = (w.tree, v.tree);
      whole = w.whole ∙ ap (λ l. written_field s 44 w.tree ++ l) v.whole ∙ sym (append_assoc (written_field s 44 w.tree) (writes fs v.tree) (drop next (signs t))) ∙ ap (λ l. l ++ drop next (signs t)) (joined w.tree (writes fs v.tree));
      inside = v.inside;
      held = (w.held, subst (λ p. G p v.tree) (sym (reach t (written_field s 44 w.tree) at mid w.whole h w.inside)) v.held);
    }
