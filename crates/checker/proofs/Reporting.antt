-- The lines of a report, written one after another as long as the answers tell verdicts.
use Rattle.std.proofs.Common.{◌≡◌, ℕ, suc, ◌+◌, ◌<◌, ◌≤◌, true, List, [], ◌∷◌, ◌++◌, length, get_or, drop, is_err, is_ok, false, Some, None, Ok, Err, Option, Result, sym, refl, ap, ◌∙◌, arith}
use Rattle.std.proofs.lemmas.List.{append_assoc, drop_more, at_drop_all}
use Rattle.report.specs.Texts.{line_text, tail_text}
use Rattle.sink.specs.declared.full.Full.{Full}
use Rattle.sink.specs.Write.{Step, Held, Writes, Leads}
use Rattle.sink.proofs.Writing.{then, stop, as_text, same_leads}
use Rattle.verdict.specs.Verdicts.{Verdict, verdict_details}
use Rattle.checker.specs.Reports.{file_lines, accepted_in, report_text, verdict_in, verdicts_in}
use Rattle.checker.specs.declared.call.Answer.{Answer}

true_not : false ≡ true → ⊥
true_not e = cc

-- 1 for a verdict that the file is accepted, 0 for any other
abbrev pub one_for : Verdict → ℕ
one_for (Ok tt) = 1
one_for (Err f) = 0

one_most : (w : Verdict) → one_for w ≤ 1
one_most (Ok tt) = omega arith
one_most (Err f) = omega arith

-- by what is asked of a verdict
pub one_where : (w : Verdict) → is_ok w ≡ true → one_for w ≡ 1
one_where (Ok tt) e = refl
one_where (Err f) e = absurd (true_not e)

pub none_where : (w : Verdict) → is_ok w ≡ false → one_for w ≡ 0
none_where (Ok tt) e = absurd (true_not (sym e))
none_where (Err f) e = refl

accepted_more : (w : Verdict) (ws : List Verdict) → accepted_in (w ∷ ws) ≡ one_for w + accepted_in ws
accepted_more (Ok tt) ws = omega arith
accepted_more (Err f) ws = omega arith

-- an answer that tells a verdict, and one that tells none
pub tells_more : (a : Option Answer) (others : List (Option Answer)) (w : Verdict) → verdict_in a ≡ Some w → verdicts_in (a ∷ others) ≡ w ∷ verdicts_in others
tells_more a others w e = ap (λ (o : Option Verdict). elim o [ None ↦ [] | Some x ↦ x ∷ verdicts_in others ]) e

pub tells_none : (a : Option Answer) (others : List (Option Answer)) → verdict_in a ≡ None → verdicts_in (a ∷ others) ≡ []
tells_none a others e = ap (λ (o : Option Verdict). elim o [ None ↦ [] | Some x ↦ x ∷ verdicts_in others ]) e

-- what is still to be written after the lines of so many files, where these are the verdicts of the others and of all files
abbrev pub still : ℕ → List Verdict → List Verdict → List ℕ
still files rest all = file_lines (suc files) rest ++ tail_text (length all) (accepted_in all)

-- the first i answers have told verdicts, and the lines of those are written
pub record Along (f : Step) (h : Held) (answers : List (Option Answer)) (i files accepted : ℕ) (now : Held) : Type 0 where
  pub counted : files ≡ i
  pub few : accepted ≤ files
  pub many : length (verdicts_in answers) ≡ files + length (verdicts_in (drop i answers))
  pub right : accepted_in (verdicts_in answers) ≡ accepted + accepted_in (verdicts_in (drop i answers))
  pub leads : Leads (Unit {0}) Full f h (report_text (verdicts_in answers)) now (still files (verdicts_in (drop i answers)) (verdicts_in answers))

-- the start
pub along_start : (f : Step) (h : Held) (answers : List (Option Answer)) → Along f h answers 0 0 0 h
along_start f h answers = record {
  counted = refl;
  few = omega arith;
  many = omega arith;
  right = omega arith;
  leads = same_leads refl;
}

module _ {f : Step} {h : Held} {answers : List (Option Answer)} {i files accepted : ℕ} {now : Held} (a : Along f h answers i files accepted now) where
  module _ (within : i < length answers) (w : Verdict) (told : verdict_in (get_or answers i None) ≡ Some w) where
    here : verdicts_in (drop i answers) ≡ w ∷ verdicts_in (drop (i + 1) answers)
    here = ap verdicts_in (drop_more answers i None within) ∙ tells_more (get_or answers i None) (drop (i + 1) answers) w told

    split : line_text (files + 1) (Some (verdict_details w)) ++ still (files + 1) (verdicts_in (drop (i + 1) answers)) (verdicts_in answers)
        ≡ still files (verdicts_in (drop i answers)) (verdicts_in answers)
    split =
        let rest = verdicts_in (drop (i + 1) answers) in
        let last = tail_text (length (verdicts_in answers)) (accepted_in (verdicts_in answers)) in
        let next : files + 1 ≡ suc files = omega arith in
        (λ j. line_text (next j) (Some (verdict_details w)) ++ (file_lines (suc (next j)) rest ++ last))
        ∙ sym (append_assoc (line_text (suc files) (Some (verdict_details w))) (file_lines (suc (suc files)) rest) last)
        ∙ ap (λ (ws : List Verdict). still files ws (verdicts_in answers)) (sym here)

    -- a turn of the loop
    pub along_more : {later : Held} {x : ℕ} → x ≡ accepted + one_for w → Writes {T = Unit {0}} {E = Full} f now (line_text (files + 1) (Some (verdict_details w))) (Ok tt) later
        → Along f h answers (i + 1) (files + 1) x later
    along_more {later} {x} counts line = record {
      counted = ap (λ (n : ℕ). n + 1) a.counted;
      few = omega (arith, a.few, counts, one_most w);
      many = omega (arith, a.many, ap length here);
      right = omega (arith, a.right, ap accepted_in here, accepted_more w (verdicts_in (drop (i + 1) answers)), counts);
      leads = record { on = λ r z rest. a.leads.on r z (as_text split (then line rest)) };
    }

    -- the sink refuses
    pub along_stop : {later : Held} {e : Full} {r : Result (Unit {0}) Full} → Writes {T = Unit {0}} {E = Full} f now (line_text (files + 1) (Some (verdict_details w))) (Err e) later → is_err r ≡ true
        → Writes f h (report_text (verdicts_in answers)) r later
    along_stop {later} {e} {r} line was = a.leads.on r later (as_text split (stop (still (files + 1) (verdicts_in (drop (i + 1) answers)) (verdicts_in answers)) line was))

  -- no more verdicts are told
  pub along_end : {later : Held} {r : Result (Unit {0}) Full} → verdicts_in (drop i answers) ≡ [] → Writes f now (tail_text files accepted) r later → Writes f h (report_text (verdicts_in answers)) r later
  along_end {later} {r} none last = a.leads.on r later (as_text whole last)
    where
      many : files ≡ length (verdicts_in answers)
      many = omega (arith, a.many, ap length none)

      all : accepted ≡ accepted_in (verdicts_in answers)
      all = omega (arith, a.right, ap accepted_in none)

      whole : tail_text files accepted ≡ still files (verdicts_in (drop i answers)) (verdicts_in answers)
      whole = (λ j. tail_text (many j) (all j)) ∙ ap (λ (ws : List Verdict). still files ws (verdicts_in answers)) (sym none)

  -- past the last answer, and at one that tells none
  pub told_all : length answers ≤ i → verdicts_in (drop i answers) ≡ []
  told_all past = at_drop_all verdicts_in answers i past

  pub told_none : i < length answers → verdict_in (get_or answers i None) ≡ None → verdicts_in (drop i answers) ≡ []
  told_none within e = ap verdicts_in (drop_more answers i None within) ∙ tells_none (get_or answers i None) (drop (i + 1) answers) e
