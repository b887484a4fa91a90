-- What `eq` says of two iterators, by the lists that they give.
use Rattle.std.proofs.Common.{◌≡◌, ℕ, true, false, nat_eq, List, [], ◌∷◌, ◌++◌, Some, None, Option, Decides, Bool, sym, refl, ap, ◌∙◌, subst}
use Rattle.std.proofs.lemmas.Bool.{eqb-true, eqb-false, true≢false}
use Rattle.std.proofs.lemmas.List.{append_cancel_left}
use Rattle.std.proofs.lemmas.Iterator.{YieldsList}
use Rattle.std.specs.Iterator.{AlwaysYields, YieldsThen, ComparesItemsByEq}
use Rattle.std.specs.Option.{MatchOption, IfSome}
use Rattle.std.specs.List.{AllZip}
use Rattle.aterm.proofs.Laws.{head_eq}

-- what a run says of the list: it is all of it, or its beginning, and the item that came next
abbrev pub Shown : List ℕ → List ℕ → Option ℕ → Type 0
Shown xs zs o = MatchOption o (xs ≡ zs) (λ x. (rest : List ℕ) × (xs ≡ zs ++ x ∷ rest))

shown_more : (x z : ℕ) (xs zs : List ℕ) (o : Option ℕ) → x ≡ z → Shown xs zs o → Shown (x ∷ xs) (z ∷ zs) o
shown_more x z xs zs None e h = λ i. e i ∷ h i
shown_more x z xs zs (Some y) e h = (h.0, λ i. e i ∷ h.1 i)

module _ {S : Type 0} (steps : S → Option ℕ → S → Type 0) where
  pub shown : (s : S) (xs zs : List ℕ) (o : Option ℕ) (u : S) → AlwaysYields steps (λ x. x) s xs → YieldsThen steps s zs o u → Shown xs zs o
  shown s [] [] None u a y = refl
  shown s (x ∷ xs) [] None u a y = absurd (a.0 u (subst (λ t. steps t None u) (sym y.1) y.2))
  shown s [] [] (Some z) u a y = absurd (a z u (subst (λ t. steps t (Some z) u) (sym y.1) y.2))
  shown s (x ∷ xs) [] (Some z) u a y = (xs, ap (λ n. n ∷ xs) (sym (a.1 z u (subst (λ t. steps t (Some z) u) (sym y.1) y.2)).0))
  shown s [] (z ∷ zs) o u a y = absurd (a z y.1.0 y.1.1)
  shown s (x ∷ xs) (z ∷ zs) o u a y =
      let next = a.1 z y.1.0 y.1.1 in
      shown_more x z xs zs o (sym next.0) (shown y.1.0 xs zs o u next.1 (y.0, y.1.2, y.2))

zipped : (zs ws : List ℕ) → AllZip (λ x y. nat_eq x y ≡ true) zs ws → zs ≡ ws
zipped [] [] h = refl
zipped [] (y ∷ ws) h = absurd h
zipped (x ∷ zs) [] h = absurd h
zipped (x ∷ zs) (y ∷ ws) h =
    let one = eqb-true x y h.0 in
    let rest = zipped zs ws h.1 in
    λ i. one i ∷ rest i

-- both gave zs, and then o and p, of which the answer r says whether they are the same end
abbrev pub Last : Bool → Option ℕ → Option ℕ → Type 0
Last r o p = MatchOption o (MatchOption p (r ≡ true) (λ _. r ≡ false)) (λ x. (r ≡ false) × IfSome p (λ y. nat_eq x y ≡ false))

refuted : {P : Type 0} (r : Bool) → r ≡ false → (P → ⊥) → Decides r P
refuted r e n = (λ t. absurd (true≢false (sym t ∙ e)), λ p. absurd (n p))

longer : (zs : List ℕ) (y : ℕ) (rest : List ℕ) → zs ≡ zs ++ y ∷ rest → ⊥
longer [] y rest e = cc
longer (z ∷ zs) y rest e = longer zs y rest (cc)

same_or_not : (xs ys zs : List ℕ) (o p : Option ℕ) (r : Bool) → Shown xs zs o → Shown ys zs p → Last r o p → Decides r (xs ≡ ys)
same_or_not xs ys zs None None r h k l = (λ _. h ∙ sym k, λ _. l)
same_or_not xs ys zs None (Some y) r h k l = refuted r l (λ e. longer zs y k.0 (sym h ∙ e ∙ k.1))
same_or_not xs ys zs (Some x) None r h k l = refuted r l.0 (λ e. longer zs x h.0 (sym k ∙ sym e ∙ h.1))
same_or_not xs ys zs (Some x) (Some y) r h k l =
    refuted r l.0 (λ e. eqb-false x y l.1 (head_eq (append_cancel_left zs (x ∷ h.0) (y ∷ k.0) (sym h.1 ∙ e ∙ k.1))))

-- `eq` of two iterators says whether they give the same
pub eq_decides : {S T U : Type 0} (steps : S → Option ℕ → S → Type 0) (becomes : U → T → Type 0) (others : T → Option ℕ → T → Type 0) (s : S) (other : U) (xs ys : List ℕ)
    → YieldsList steps (λ x. x) s xs → ((it : T) → becomes other it → YieldsList others (λ x. x) it ys) → (r : Bool) → ComparesItemsByEq steps becomes others s other nat_eq r → Decides r (xs ≡ ys)
eq_decides steps becomes others s other xs ys a b r (it, zs, ws, o, p, u, v, begun, first, second, zip, last) =
    let e = zipped zs ws zip in
    same_or_not xs ys zs o p r (shown steps s xs zs o u a.runs first) (subst (λ l. Shown ys l p) (sym e) (shown others it ys ws p v (b it begun).runs second)) last
