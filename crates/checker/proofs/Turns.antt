-- One call of a run: which event the call and its answer are.
use Rattle.std.proofs.Common.{◌≡◌, ℕ, ◌^◌, ◌<◌, List, length, Ok, Err, Option, Result, OnErr, refl, ap, ◌∙◌, subst}
use Rattle.std.specs.declared.ops.Range.{Range}
use Rattle.sink.specs.Write.{Held}
use Rattle.verdict.specs.Verdicts.{Verdict}
use Rattle.checker.specs.Calls.{Kind, Takes, Settles, PutsBack, Tells, Lines, Tails, Rewrites, Paths, Circles}
use Rattle.checker.specs.Events.{patched, took, settled, returned, told, located, rewritten, circled, lined, tailed, Refused}
use Rattle.checker.specs.Playing.{offered, last_taken, Values, SinkAfter, Turned}
use Rattle.checker.specs.Seen.{view_of}
use Rattle.checker.specs.declared.call.Answer.TheVariants as answers
use Rattle.checker.specs.declared.call.Call.{Call}
use Rattle.checker.specs.declared.call.Call.TheVariants as calls
use Rattle.checker.specs.declared.call.Offer.{Offer}
use Rattle.checker.specs.declared.call.Window.{Window}
use Rattle.checker.specs.declared.checker.Checker.{Checker}
use Rattle.checker.specs.declared.refused.CallRefusal.{CallRefusal}
use Rattle.checker.proofs.Counting.{count_is_rise}
use Rattle.checker.proofs.Windows.{cut, lent, given_back, lent_is, back_is, part_kept}

module _ {S : Type 0} (held : S → Held) (kind : Kind) (last : ℕ) (c : Call) (checker : Checker) (sink : S) (buffer : List ℕ) where
  abbrev from : Values held
  from = record { checker = checker; sink = sink; buffer = buffer }

  -- the same but for the buffer
  abbrev with_buffer : List ℕ → Values held
  with_buffer b = record { checker = checker; sink = sink; buffer = b }

  pub told_turn : (k : ℕ) (r : Result (Option Verdict) CallRefusal) → c ≡ calls.Verdict k → Tells (view_of checker) k r
      → Turned held kind last c (answers.Verdict r) from last from
  told_turn k r e h = record { event = told k r; turn = record { fits = (e, refl); happens = (h, refl); same = λ x. refl; sink = refl }; taken_last = refl }

  pub circled_turn : (r : Result ℕ CallRefusal) → c ≡ calls.Circle → Circles (view_of checker) r → Turned held kind last c (answers.Circle r) from last from
  circled_turn r e h = record { event = circled r; turn = record { fits = (e, refl); happens = (h, refl); same = λ x. refl; sink = refl }; taken_last = refl }

  -- ---- calls that write to a window

  module _ (w : Window) (g : Range ℕ) (is : g ≡ cut w (length buffer)) (out : List ℕ) where
    -- what the call left is put back
    abbrev after : List ℕ
    after = given_back g buffer out

    -- a call that left its part as it was left the buffer so
    kept : out ≡ lent g buffer → with_buffer after ≡ from
    kept e = ap with_buffer (back_is w buffer out g is ∙ ap (patched w buffer) (e ∙ lent_is w buffer g is) ∙ part_kept w buffer)

    pub lined_turn : (k : ℕ) (r : Result ℕ CallRefusal) → c ≡ calls.Line k w → Lines (view_of checker) k (lent g buffer) r out
        → Turned held kind last c (answers.Written r) from last (with_buffer after)
    lined_turn k r e h = record {
      event = lined k w out r;
      turn = record {
        fits = (e, refl);
        happens = (subst (λ (p : List ℕ). Lines (view_of checker) k p r out) (lent_is w buffer g is) h, record { view = refl; sink = refl; buffer = back_is w buffer out g is });
        same = refused r h;
        sink = refl;
      };
      taken_last = refl;
    }
      where
        refused : (r : Result ℕ CallRefusal) → Lines (view_of checker) k (lent g buffer) r out → Refused (lined k w out r) → with_buffer after ≡ from
        refused (Ok n) h x = absurd (cc)
        refused (Err f) h x = kept h.1

    pub tailed_turn : (r : Result ℕ CallRefusal) → c ≡ calls.Tail w → Tails (view_of checker) (lent g buffer) r out
        → Turned held kind last c (answers.Written r) from last (with_buffer after)
    tailed_turn r e h = record {
      event = tailed w out r;
      turn = record {
        fits = (e, refl);
        happens = (subst (λ (p : List ℕ). Tails (view_of checker) p r out) (lent_is w buffer g is) h, record { view = refl; sink = refl; buffer = back_is w buffer out g is });
        same = refused r h;
        sink = refl;
      };
      taken_last = refl;
    }
      where
        refused : (r : Result ℕ CallRefusal) → Tails (view_of checker) (lent g buffer) r out → Refused (tailed w out r) → with_buffer after ≡ from
        refused (Ok n) h x = absurd (cc)
        refused (Err f) h x = kept h.1

    pub rewritten_turn : (k : ℕ) (r : Result ℕ CallRefusal) → c ≡ calls.Rewrite k w → Rewrites (view_of checker) k (lent g buffer) r out
        → Turned held kind last c (answers.Written r) from last (with_buffer after)
    rewritten_turn k r e h = record {
      event = rewritten k w out r;
      turn = record {
        fits = (e, refl);
        happens = (subst (λ (p : List ℕ). Rewrites (view_of checker) k p r out) (lent_is w buffer g is) h, record { view = refl; sink = refl; buffer = back_is w buffer out g is });
        same = refused r h;
        sink = refl;
      };
      taken_last = refl;
    }
      where
        refused : (r : Result ℕ CallRefusal) → Rewrites (view_of checker) k (lent g buffer) r out → Refused (rewritten k w out r) → with_buffer after ≡ from
        refused (Ok n) h x = absurd (cc)
        refused (Err f) h x = kept h.1

    pub located_turn : (k j : ℕ) (r : Result ℕ CallRefusal) (s : S) → c ≡ calls.Path k j w
        → Paths kind (view_of checker) k j (lent g buffer) (held sink).meaning r out (held s).meaning → OnErr r ((out ≡ lent g buffer) × (s ≡ sink))
        → Turned held kind last c (answers.Written r) from last (record { checker = checker; sink = s; buffer = after })
    located_turn k j r s e h stays = record {
      event = located k j w out r;
      turn = record {
        fits = (e, refl);
        happens = (subst (λ (p : List ℕ). Paths kind (view_of checker) k j p (held sink).meaning r out (held s).meaning) (lent_is w buffer g is) h, refl, back_is w buffer out g is);
        same = refused r h stays;
        sink = stayed r stays;
      };
      taken_last = refl;
    }
      where
        refused : (r : Result ℕ CallRefusal) → Paths kind (view_of checker) k j (lent g buffer) (held sink).meaning r out (held s).meaning → OnErr r ((out ≡ lent g buffer) × (s ≡ sink))
            → Refused (located k j w out r) → record { checker = checker; sink = s; buffer = after } ≡ from
        refused (Ok n) h y x = absurd (cc)
        refused (Err f) h y x = ap (λ (t : S). record { checker = checker; sink = t; buffer = after }) y.1 ∙ kept y.0

        stayed : (r : Result ℕ CallRefusal) → OnErr r ((out ≡ lent g buffer) × (s ≡ sink)) → SinkAfter held (located k j w out r) sink s
        stayed (Ok n) y = tt
        stayed (Err f) y = y.1

  -- ---- calls that change the checker

  -- the same but for the checker
  abbrev with_checker : Checker → Values held
  with_checker d = record { checker = d; sink = sink; buffer = buffer }

  pub took_turn : (r : Result ℕ CallRefusal) (next : ℕ) (d : Checker) → c ≡ calls.Take → Takes (view_of checker) r (view_of d) → OnErr r (d ≡ checker) → next ≡ last_taken last (took r)
      → Turned held kind last c (answers.Taken r) from next (with_checker d)
  took_turn (Ok k) next d e h y n = record {
    event = took (Ok k);
    turn = record { fits = (e, refl); happens = (h, record { view = refl; sink = refl; buffer = refl }); same = λ x. absurd (cc); sink = refl };
    taken_last = n;
  }
  took_turn (Err f) next d e h y n = record {
    event = took (Err f);
    turn = record { fits = (e, refl); happens = (h, record { view = refl; sink = refl; buffer = refl }); same = λ x. ap with_checker y; sink = refl };
    taken_last = n;
  }

  pub returned_turn : (o : Offer) (k : ℕ) (r : Result (Unit {0}) CallRefusal) (d : Checker) → c ≡ calls.PutBack o → k ≡ offered last o
      → PutsBack (view_of checker) k r (view_of d) → OnErr r (d ≡ checker) → Turned held kind last c (answers.PutBack r) from last (with_checker d)
  returned_turn o k (Ok u) d e i h y = record {
    event = returned k (Ok u);
    turn = record { fits = (o, e, i, refl); happens = (h, record { view = refl; sink = refl; buffer = refl }); same = λ x. absurd (cc); sink = refl };
    taken_last = refl;
  }
  returned_turn o k (Err f) d e i h y = record {
    event = returned k (Err f);
    turn = record { fits = (o, e, i, refl); happens = (h, record { view = refl; sink = refl; buffer = refl }); same = λ x. ap with_checker y; sink = refl };
    taken_last = refl;
  }

  pub settled_turn : (o : Offer) (k : ℕ) (r : Result ℕ CallRefusal) (d : Checker) (s : S) → (held sink).meaning.total < 2 ^ 64
      → c ≡ calls.Settle o → k ≡ offered last o → Settles kind (view_of checker) k (held sink).meaning r (view_of d) (held s).meaning → OnErr r ((d ≡ checker) × (s ≡ sink))
      → Turned held kind last c (answers.Settled r) from last (record { checker = d; sink = s; buffer = buffer })
  settled_turn o k (Ok n) d s low e i h y = record {
    event = settled k (Ok n);
    turn = record { fits = (o, e, i, refl); happens = (h, refl); same = λ x. absurd (cc); sink = count_is_rise kind (view_of checker) (view_of d) k n (held sink).meaning (held s).meaning low h };
    taken_last = refl;
  }
  settled_turn o k (Err f) d s low e i h y = record {
    event = settled k (Err f);
    turn = record { fits = (o, e, i, refl); happens = (h, refl); same = λ x. (λ i. record { checker = y.0 i; sink = y.1 i; buffer = buffer }); sink = y.1 };
    taken_last = refl;
  }
