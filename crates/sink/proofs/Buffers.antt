-- What a copy into the buffer does to the writer's meaning.
use Rattle.std.proofs.Common.{◌≡◌, ℕ, ◌+◌, ◌-◌, ◌<◌, ◌≤◌, List, [], ◌∷◌, ◌++◌, length, take, drop, sym, refl, ap, ◌∙◌, subst, append_assoc, arith, length-append}
use Rattle.std.proofs.lemmas.List.{drop-drop, append-nil, length-take, length-drop, take-append-drop}
use Rattle.std.proofs.lemmas.Slice.{take-put_mid, drop-put_mid}
use borrow.Rule.Slice.PartMut.{put_mid}
use Rattle.sink.specs.Write.{Held, steps, filled, Taken, Stopped}
use Rattle.sink.specs.Buffer.{pushing, buffered}
use Rattle.sink.proofs.Writing.{parts, kept}

pub steps_pushing : (s bs : List ℕ) → steps pushing s bs ≡ s ++ bs
steps_pushing s [] = sym (append-nil s)
steps_pushing s (b ∷ bs) = steps_pushing (s ++ (b ∷ [])) bs ∙ append_assoc s (b ∷ []) bs

pub buffer_kept : (xs : List ℕ) (a n : ℕ) (bs : List ℕ) → length xs - n < length bs → Stopped pushing (buffered xs a n) bs (buffered xs a n)
buffer_kept xs a n bs past = kept pushing (buffered xs a n) (buffered xs a n) bs (omega arith) past refl

-- after a copy of bs to the place n: ys is what the part holds then
pub copy_taken : (xs : List ℕ) (a n : ℕ) (bs ys : List ℕ) → n + length bs ≤ length xs → ys ≡ bs
    → Taken pushing (buffered xs a n) bs (buffered (put_mid n (n + length bs - n) xs ys) a (n + length bs))
unfolding filled
copy_taken xs a n bs ys fits same =
    let e = n + length bs in
    let zs = put_mid n (e - n) xs ys in
    let many : length ys ≡ length bs = ap length same in
    let front : take e zs ≡ take n xs ++ bs = take-put_mid n (e - n) xs ys e (omega arith) (omega arith) ∙ ap (λ (v : List ℕ). take n xs ++ v) same in
    let back : drop e zs ≡ drop e xs = drop-put_mid n (e - n) xs ys e (omega arith) (omega arith) (omega arith) in
    let long : length zs ≡ length xs = simp (length-append, length-take, length-drop) (omega arith) in (
      omega arith,
      parts _ _ _ _ _ _ _ _ _ _
          (front ∙ sym (steps_pushing (take n xs) bs))
          (omega arith)
          (omega arith)
          (back ∙ sym (drop-drop (length bs) n xs))
          refl,
    )

-- a text written from the start: how long it is, and what the lent buffer holds when the loan ends
pub text_written : (xs : List ℕ) {ys : List ℕ} {a b : ℕ} (n : ℕ) (text : List ℕ) {r : ℕ} → Taken pushing (buffered xs a 0) text (buffered ys b n) → r ≡ length (take n ys) → (out : List ℕ) → (a ≡ b → out ≡ ys)
    → (r ≡ length text) × (out ≡ text ++ drop r xs)
unfolding filled
text_written xs {ys} {a} {b} n text {r} (left, e) count out tied =
    let front : take n ys ≡ text = ap (λ (x : Held). x.meaning.state) e ∙ steps_pushing [] text in
    let back : drop n ys ≡ drop (length text) xs = ap (λ (x : Held). x.space) e in
    let long : r ≡ length text = count ∙ ap length front in (
      long,
      tied (sym (ap (λ (x : Held). x.loan) e))
          ∙ sym (take-append-drop n ys)
          ∙ ap (λ (v : List ℕ). v ++ drop n ys) front
          ∙ ap (λ (v : List ℕ). text ++ v) (back ∙ ap (λ (k : ℕ). drop k xs) (sym long)),
    )

-- the same of a writer that was made by `new`
pub text_from_new : (xs zs : List ℕ) (a b m : ℕ) {ys : List ℕ} {d : ℕ} (n : ℕ) (text : List ℕ) {r : ℕ} → zs ≡ xs → b ≡ a → m ≡ 0
    → Taken pushing (buffered zs b m) text (buffered ys d n) → r ≡ length (take n ys) → (out : List ℕ) → (a ≡ d → out ≡ ys)
    → (r ≡ length text) × (out ≡ text ++ drop r xs)
text_from_new xs zs a b m {ys} {d} n text {r} p q s taken count out tied =
    text_written xs n text (subst (λ (h : Held). Taken pushing h text (buffered ys d n)) (λ i. buffered (p i) (q i) (s i)) taken) count out tied
