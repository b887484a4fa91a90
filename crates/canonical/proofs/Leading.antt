-- A loop that writes what is left of a text.
use Rattle.std.proofs.Common.{◌≡◌, ℕ, true, List, [], ◌∷◌, ◌++◌, map, is_err, Some, None, Option, Ok, Err, Result, sym, refl, ap, ◌∙◌, append_assoc}
use Rattle.std.specs.Iterator.{AlwaysYields}
use Rattle.std.specs.List.{flat_map}
use Rattle.sink.specs.Write.{Step, Held, Writes, Leads}
use Rattle.canonical.specs.Strings.{escaped}
use Rattle.sink.proofs.Writing.{then, stop, as_text}
use Rattle.canonical.specs.Kinds.{comma, listing}

module _ {T E : Type 0} {f : Step} {h k : Held} {whole a : List ℕ} (inv : Leads T E f h whole k a) where
  pub lead_more : {l : Held} {x : T} {b c : List ℕ} → a ≡ b ++ c → Writes {T = T} {E = E} f k b (Ok x) l → Leads T E f h whole l c
  lead_more e taken = record { on = λ r z p. inv.on r z (as_text (sym e) (then taken p)) }

  pub lead_stop : {l : Held} {x : E} {r : Result T E} {b : List ℕ} (c : List ℕ) → a ≡ b ++ c → Writes {T = T} {E = E} f k b (Err x) l → is_err r ≡ true → Writes f h whole r l
  lead_stop {l} {x} {r} c e refused was = inv.on r l (as_text (sym e) (stop c refused was))

  pub lead_end : {l : Held} {r : Result T E} {b : List ℕ} → a ≡ b → Writes f k b r l → Writes f h whole r l
  lead_end {l} {r} e p = inv.on r l (as_text (sym e) p)

-- a string's bytes, with the quote that closes it
abbrev pub spelt : List ℕ → List ℕ
spelt v = flat_map escaped v ++ (34 ∷ [])

pub spelt_more : {v w : List ℕ} (x : ℕ) → v ≡ x ∷ w → spelt v ≡ escaped x ++ spelt w
spelt_more {v} {w} x e = ap spelt e ∙ append_assoc (escaped x) (flat_map escaped w) (34 ∷ [])

-- an iterator that gives ys gave one of its bytes, or has ended
module _ {S : Type 0} (steps : S → Option ℕ → S → Type 0) (s t : S) where
  pub one_came : (x : ℕ) (ys : List ℕ) → AlwaysYields steps (λ b. b) s ys → steps s (Some x) t → (rest : List ℕ) × (ys ≡ x ∷ rest) × AlwaysYields steps (λ b. b) t rest
  one_came x [] a h = absurd (a x t h)
  one_came x (y ∷ ys) a h = let m = a.1 x t h in (ys, ap (λ (n : ℕ). n ∷ ys) (sym m.0), m.1)

  pub none_came : (ys : List ℕ) → AlwaysYields steps (λ b. b) s ys → steps s None t → ys ≡ []
  none_came [] a h = refl
  none_came (y ∷ ys) a h = absurd (a.0 t h)

-- rows, by what each writes
module _ {X Y : Type 0} (g : Y → List ℕ) (f : X → Y) where
  abbrev pub through : X → List ℕ
  through x = g (f x)

  joined_map : (xs : List X) → flat_map (comma through) xs ≡ flat_map (comma g) (map f xs)
  joined_map [] = refl
  joined_map (x ∷ xs) = ap (λ (v : List ℕ). comma through x ++ v) (joined_map xs)

  pub listing_some : (xs ys : List X) (y : X) → xs ≡ y ∷ ys → (91 ∷ []) ++ (through y ++ (flat_map (comma through) ys ++ (93 ∷ []))) ≡ listing g (map f xs)
  listing_some xs ys y e =
      ap (λ (v : List ℕ). 91 ∷ (through y ++ (v ++ (93 ∷ [])))) (joined_map ys) ∙ ap (λ (l : List X). listing g (map f l)) (sym e)
