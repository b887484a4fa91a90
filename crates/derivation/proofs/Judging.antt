-- One fault at most.
use Rattle.std.proofs.Common.{◌≡◌, ℕ, ◌<◌, cond, eqb, List, [], ◌∷◌, ◌++◌, Some, None, sym, refl, ap, ◌∙◌, subst, ⊎_elim, arith}
use Rattle.std.specs.List.{AllByRecursion}
use Rattle.std.proofs.str.Laws.{order}
use Rattle.aterm.specs.declared.fault.Fault.{Fault as TextFault}
use Rattle.aterm.specs.declared.file.Derivation.{Derivation}
use Rattle.aterm.specs.Grammar.{Tree}
use Rattle.aterm.specs.Files.{derivation, in_derivation, IsFault, Reading}
use Rattle.derivation.specs.declared.spot.Spot.{Spot}
use Rattle.derivation.specs.declared.question.Question.{Question}
use Rattle.derivation.specs.declared.question.Question.TheVariants.{Present, Formed, Different, Fixed, Short}
use Rattle.derivation.specs.declared.fault.FileFault.{FileFault}
use Rattle.derivation.specs.declared.fault.FileFault.TheVariants.{Text, Row}
use Rattle.derivation.specs.Asked.{FirstNo, First}
use Rattle.derivation.specs.Questions.{Yes, number, entries}
use Rattle.derivation.specs.Judgement.{Answer, Refused, IsFileFault, Accepted, RefusedBy}
use Rattle.derivation.proofs.Plain.{plain_fields}
use Rattle.derivation.proofs.Scan.{never_all}

module _ {E : Type 0} (Yes : E → Type 0) where
  once : (a b : List (Spot × E)) (w v : Spot) (d e : E) (p q : List (Spot × E)) → a ++ (w, d) ∷ p ≡ b ++ (v, e) ∷ q → AllByRecursion (λ r. Yes r.1) a → (Yes d → ⊥) → AllByRecursion (λ r. Yes r.1) b → (Yes e → ⊥) → w ≡ v
  once [] [] w v d e p q g ca rd cb re = let h : ◌≡◌ {A = Spot × E} (w, d) (v, e) = cc in ap (λ z. z.0) h
  once [] (y ∷ b) w v d e p q g ca rd cb re = let h : ◌≡◌ {A = Spot × E} (w, d) y = cc in absurd (rd (subst (λ z. Yes z.1) (sym h) cb.0))
  once (x ∷ a) [] w v d e p q g ca rd cb re = let h : ◌≡◌ {A = Spot × E} x (v, e) = cc in absurd (re (subst (λ z. Yes z.1) h ca.0))
  once (x ∷ a) (y ∷ b) w v d e p q g ca rd cb re = once a b w v d e p q (let h : a ++ (w, d) ∷ p ≡ b ++ (v, e) ∷ q = cc in h) ca.1 rd cb.1 re

  pub first_once : (rows : List (Spot × E)) (w v : Spot) → FirstNo Yes rows w → FirstNo Yes rows v → w ≡ v
  first_once rows w v f g = once f.before g.before w v f.row g.row f.after g.after (sym f.whole ∙ g.whole) f.clean f.refused g.clean g.refused

  pub not_both : (rows : List (Spot × E)) (w : Spot) → FirstNo Yes rows w → First Yes rows None → ⊥
  not_both rows w f a = never_all Yes f.before f.after w f.row f.refused (subst (AllByRecursion (λ e. Yes e.1)) f.whole a)

asked : ℕ → Question
asked n = cond (eqb n 13) Present (cond (eqb n 14) Formed (cond (eqb n 15) Different (cond (eqb n 16) Fixed Short)))

asked_number : (q : Question) → asked (number q) ≡ q
unfolding asked
asked_number Present = refl
asked_number Formed = refl
asked_number Different = refl
asked_number Fixed = refl
asked_number Short = refl

same_number : (p q : Question) → number p ≡ number q → p ≡ q
same_number p q e = sym (asked_number p) ∙ ap asked e ∙ asked_number q

-- what is so of each question before one is so of those before it
module _ (Clear : Question → Type 0) where
  pub up_to : (n : ℕ) → (13 < n → Clear Present) → (14 < n → Clear Formed) → (15 < n → Clear Different) → (16 < n → Clear Fixed) → (17 < n → Clear Short) → (p : Question) → number p < n → Clear p
  up_to n a b c d e Present h = a h
  up_to n a b c d e Formed h = b h
  up_to n a b c d e Different h = c h
  up_to n a b c d e Fixed h = d h
  up_to n a b c d e Short h = e h

  pub below_13 : (p : Question) → number p < 13 → Clear p
  below_13 = up_to 13 (λ h. absurd (omega arith)) (λ h. absurd (omega arith)) (λ h. absurd (omega arith)) (λ h. absurd (omega arith)) (λ h. absurd (omega arith))

  pub below_14 : Clear Present → (p : Question) → number p < 14 → Clear p
  below_14 a = up_to 14 (λ h. a) (λ h. absurd (omega arith)) (λ h. absurd (omega arith)) (λ h. absurd (omega arith)) (λ h. absurd (omega arith))

  pub below_15 : Clear Present → Clear Formed → (p : Question) → number p < 15 → Clear p
  below_15 a b = up_to 15 (λ h. a) (λ h. b) (λ h. absurd (omega arith)) (λ h. absurd (omega arith)) (λ h. absurd (omega arith))

  pub below_16 : Clear Present → Clear Formed → Clear Different → (p : Question) → number p < 16 → Clear p
  below_16 a b c = up_to 16 (λ h. a) (λ h. b) (λ h. c) (λ h. absurd (omega arith)) (λ h. absurd (omega arith))

  pub below_17 : Clear Present → Clear Formed → Clear Different → Clear Fixed → (p : Question) → number p < 17 → Clear p
  below_17 a b c d = up_to 17 (λ h. a) (λ h. b) (λ h. c) (λ h. d) (λ h. absurd (omega arith))

  pub every_question : Clear Present → Clear Formed → Clear Different → Clear Fixed → Clear Short → (p : Question) → Clear p
  every_question a b c d e Present = a
  every_question a b c d e Formed = b
  every_question a b c d e Different = c
  every_question a b c d e Fixed = d
  every_question a b c d e Short = e

module _ (path text : List ℕ) where
  pub one_refusal : (p q : Question) (w v : Spot) (a : Refused path text p w) (b : Refused path text q v) → b.tree ≡ a.tree → Row q v ≡ Row p w
  one_refusal p q w v a b t =
      ⊎_elim
      (λ h. absurd (not_both (Yes p path a.tree.0) (entries a.tree) w a.found (subst (λ x. Answer path x p None) t (b.passed p h))))
      (λ h. ⊎_elim
      (λ k. absurd (not_both (Yes q path a.tree.0) (entries a.tree) v (subst (λ x. Answer path x q (Some v)) t b.found) (a.passed q k)))
      (λ k.
      let e : q ≡ p = same_number q p (omega arith) in
      let f : Answer path a.tree p (Some v) = subst (λ z. Answer path a.tree z (Some v)) e (subst (λ x. Answer path x q (Some v)) t b.found) in
      let g : v ≡ w = first_once (Yes p path a.tree.0) (entries a.tree) v w f a.found in
      ap (λ z. Row z v) e ∙ ap (Row p) g)
      (order (number q) (number p)))
      (order (number p) (number q))

  -- the text does not read
  pub text_refused : (f : TextFault) → IsFault text f → ((g : TextFault) → IsFault text g → g ≡ f) → IsFileFault path text (Text f) × ((g : FileFault) → IsFileFault path text g → g ≡ Text f)
  text_refused f st only = (st, other)
    where
      other : (g : FileFault) → IsFileFault path text g → g ≡ Text f
      other (Text g) h = ap Text (only g h)
      other (Row q w) h = absurd (st.stops (h.tree, st.after, sym h.written ∙ st.whole))

  -- a question is answered yes of the tree that the file holds
  abbrev pub Said : Derivation → Question → Type 0
  Said d q = (x : Tree derivation) → in_derivation text 7 d x → Answer path x q None

  module _ (d : Derivation) (r : Reading text d) (reads : (g : TextFault) → IsFault text g → ⊥) where
    pub row_refused : (q : Question) (w : Spot) → ((p : Question) → number p < number q → Answer path r.tree p None) → Answer path r.tree q (Some w) → IsFileFault path text (Row q w) × ((g : FileFault) → IsFileFault path text g → g ≡ Row q w)
    row_refused q w passed found = (this, other)
      where
        this : Refused path text q w
        this = record { tree = r.tree; written = r.written; passed = passed; found = found }

        other : (g : FileFault) → IsFileFault path text g → g ≡ Row q w
        other (Text g) h = absurd (reads g h)
        other (Row p v) h = one_refusal q p w v this h (r.only h.tree h.written)

    pub by_refusal : (q : Question) (f : FileFault) → RefusedBy q path text d f → ((p : Question) → number p < number q → Said d p) → IsFileFault path text f × ((g : FileFault) → IsFileFault path text g → g ≡ f)
    by_refusal q (Text f) h said = absurd h
    by_refusal q (Row p w) h said =
        subst (λ z. IsFileFault path text (Row z w) × ((g : FileFault) → IsFileFault path text g → g ≡ Row z w)) (sym h.0)
        (row_refused q w (λ p l. said p l r.tree r.held) (h.1 r.tree r.held))

    pub accepted : ((p : Question) → Said d p) → Accepted path text d
    accepted said = record { reading = r; passed = passed; plain = plain_fields r.tree (passed Formed); clear = clear }
      where
        passed : (p : Question) → Answer path r.tree p None
        passed p = said p r.tree r.held

        clear : (g : FileFault) → IsFileFault path text g → ⊥
        clear (Text g) h = reads g h
        clear (Row p v) h = not_both (Yes p path r.tree.0) (entries r.tree) v (subst (λ x. Answer path x p (Some v)) (r.only h.tree h.written) h.found) (passed p)

pub below : (q : Question) → number q < 18
below Present = omega arith
below Formed = omega arith
below Different = omega arith
below Fixed = omega arith
below Short = omega arith
