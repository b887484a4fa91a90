-- What a counting layer counts while the sink below takes the bytes.
use Rattle.std.proofs.Common.{◌≡◌, ℕ, ◌+◌, ◌%◌, ◌^◌, ◌<◌, List, [], ◌∷◌, length, sym, refl, ap, ◌∙◌, arith}
use Rattle.sink.specs.Write.{Step, Held, steps, written, filled, Taken}
use Rattle.sink.proofs.Writing.{parts, meant}
use Rattle.right_paths.specs.Counting.{counting, counted}

pub steps_counting : (f : Step) (c : ℕ) (s bs : List ℕ) → steps (counting f) ((c % (2 ^ 64)) ∷ s) bs ≡ ((c + length bs) % (2 ^ 64)) ∷ steps f s bs
steps_counting f c s [] = let e : c % (2 ^ 64) ≡ (c + 0) % (2 ^ 64) = omega arith in ap (λ (n : ℕ). n ∷ s) e
steps_counting f c s (b ∷ bs) =
    let e : (c % (2 ^ 64) + 1) % (2 ^ 64) ≡ (c + 1) % (2 ^ 64) = omega arith in
    let d : ((c + 1) + length bs) % (2 ^ 64) ≡ (c + length (b ∷ bs)) % (2 ^ 64) = ap (λ (n : ℕ). n % (2 ^ 64)) (omega arith) in
    ap (λ (n : ℕ). steps (counting f) (n ∷ f s b) bs) e
    ∙ steps_counting f (c + 1) (f s b) bs
    ∙ ap (λ (n : ℕ). n ∷ steps f (f s b) bs) d

-- what the sink below took, the layer took
pub counted_taken : (f : Step) (c n a : ℕ) (bs : List ℕ) (h k : Held) → n ≡ (c + length bs) % (2 ^ 64) → Taken f h bs k
    → Taken (counting f) (counted h a c) bs (counted k a n)
unfolding filled
counted_taken f c n a bs h k count (left, e) =
    let st : k.meaning.state ≡ steps f h.meaning.state bs = ap (λ (x : Held). x.meaning.state) e in
    let same : n % (2 ^ 64) ≡ (c + length bs) % (2 ^ 64) = omega arith in (
      left,
      parts _ _ _ _ _ _ _ _ _ _
          (ap (λ (v : ℕ). v ∷ k.meaning.state) same
          ∙ ap (λ (v : List ℕ). ((c + length bs) % (2 ^ 64)) ∷ v) st
          ∙ sym (steps_counting f c h.meaning.state bs)
          )
          (ap (λ (x : Held). x.meaning.remaining) e)
          (ap (λ (x : Held). x.meaning.total) e)
          (ap (λ (x : Held). x.space) e)
          refl,
    )

-- a string written through a new layer: its count, and what the lent sink holds when the loan ends
pub counted_from_new : {S : Type 0} (held : S → Held) (f : Step) (a b m n : ℕ) (x y z out : S) (bs : List ℕ) → y ≡ x → b ≡ a → m ≡ 0
    → (d : ℕ) → Taken (counting f) (counted (held y) b m) bs (counted (held z) d n) → n < 2 ^ 64 → (a ≡ d → out ≡ z)
    → (n ≡ length bs % (2 ^ 64)) × ((held out).meaning ≡ written f (held x).meaning bs)
unfolding filled
counted_from_new {S} held f a b m n x y z out bs p q s d (left, e) small tied =
    let state : ((n % (2 ^ 64)) ∷ (held z).meaning.state) ≡ ((m + length bs) % (2 ^ 64)) ∷ steps f (held y).meaning.state bs =
    ap (λ (h : Held). h.meaning.state) e ∙ steps_counting f m (held y).meaning.state bs in
    let here : n % (2 ^ 64) ≡ (m + length bs) % (2 ^ 64) = cc in
    let below : (held z).meaning.state ≡ steps f (held y).meaning.state bs = cc in
    let same : out ≡ z = tied (sym q ∙ sym (ap (λ (h : Held). h.loan) e)) in
    let all : (held z).meaning ≡ written f (held y).meaning bs = meant _ _ _ _ _ _ below (ap (λ (h : Held). h.meaning.remaining) e) (ap (λ (h : Held). h.meaning.total) e) in
    (omega (arith, here, s), ap (λ (v : S). (held v).meaning) same ∙ all ∙ ap (λ (v : S). written f (held v).meaning bs) p)
