-- The turns of a change of each row.
use Rattle.std.proofs.Common.{◌≡◌, ℕ, ◌+◌, ◌<◌, List, [], ◌∷◌, ◌++◌, length, get_or, take, drop, set, sym, ap, ◌∙◌, subst, arith, add-one, take-suc-set}
use Rattle.std.specs.List.{AllZip}
use Rattle.std.proofs.lemmas.List.{drop-set-lt, get_or-drop, drop-drop}
use Rattle.std.proofs.lemmas.List.Elements.{all_zip_more}

pub zip_none : {X Y : Type 0} (A : X → Y → Type 0) (ys : List Y) → ys ≡ [] → AllZip A [] ys
zip_none A ys e = subst (AllZip A []) (sym e) tt

-- the first i are changed, and now one more
pub zip_more : {X : Type 0} (A : X → X → Type 0) (xs : List X) (ys zs : List X) (i : ℕ) (x : X) (y : X) → i < length xs → x ≡ get_or xs i x → AllZip A (take i xs) ys → A x y → zs ≡ ys ++ y ∷ [] → AllZip A (take (i + 1) xs) zs
zip_more A xs ys zs i x y h e a b more = subst (AllZip A (take (i + 1) xs)) (sym more) (all_zip_more A xs ys i x y h e a b)

-- the same where the row is changed in its place, and those from there on are as they were
pub one_changed : {X : Type 0} (A : X → X → Type 0) (xs ys : List X) (i : ℕ) (x y : X) → i < length xs → i < length ys → drop i ys ≡ drop i xs → x ≡ get_or ys i x → AllZip A (take i xs) (take i ys) → A x y
    → (drop (i + 1) (set ys i y) ≡ drop (i + 1) xs) × AllZip A (take (i + 1) xs) (take (i + 1) (set ys i y))
one_changed A xs ys i x y h k same is a b =
    let first : i + 0 ≡ i = omega arith in
    let here : get_or ys i x ≡ get_or xs i x = subst (λ n. get_or ys n x ≡ get_or xs n x) first (sym (get_or-drop i ys 0 x) ∙ ap (λ l. get_or l 0 x) same ∙ get_or-drop i xs 0 x) in
    let later : drop (i + 1) ys ≡ drop (i + 1) xs = sym (drop-drop 1 i ys) ∙ ap (drop 1) same ∙ drop-drop 1 i xs in (
      drop-set-lt (i + 1) ys i y (omega arith) ∙ later,
      zip_more A xs (take i ys) (take (i + 1) (set ys i y)) i x y h (is ∙ here) a b (simp add-one (take-suc-set ys i y k)),
    )
