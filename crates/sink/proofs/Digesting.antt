-- A digest from what begin, write and answer ensure.
use Rattle.std.proofs.Common.{◌≡◌, ℕ, true, List, is_err, Ok, Err, Result, ap, ◌∙◌, arith}
use Rattle.sink.specs.Digest.{begun, Begins, Digests}
use Rattle.sink.specs.Write.{Step, Meaning, Held, written, Stopped, Writes}
use Rattle.sink.proofs.Writing.{filled_meaning}

pub digested : {T E : Type 0} {f : Step} {start : List ℕ} {capacity : ℕ} (answer : List ℕ → List ℕ) (m : Meaning) {h k : Held} {bs d : List ℕ} {x : T}
    → Begins start capacity m h.meaning → Writes {T = T} {E = E} f h bs (Ok x) k → d ≡ answer k.meaning.state → Digests {E = E} f start capacity answer m bs (Ok d) k.meaning
digested {T} {E} {f} {start} {capacity} answer m {h} {k} {bs} begins p answers =
    let left = p.told.0 in
    let e = p.told.1 in
    let after : k.meaning ≡ written f (begun start capacity m) bs =
    ap (λ (x : Held). x.meaning) e ∙ filled_meaning f h bs ∙ ap (λ (x : Meaning). written f x bs) begins.is in
    let room : h.meaning.remaining ≡ capacity = ap (λ (x : Meaning). x.remaining) begins.is in
    (omega arith, answers ∙ ap (λ (x : Meaning). answer x.state) after, after)

undigested : {E : Type 0} (f : Step) (start : List ℕ) (capacity : ℕ) (answer : List ℕ → List ℕ) (m n : Meaning) (h k : Held) (bs : List ℕ) (r : Result (List ℕ) E)
    → Begins start capacity m h.meaning → Stopped f h bs k → k ≡ h → is_err r ≡ true → Digests {E = E} f start capacity answer m bs r k.meaning
undigested f start capacity answer m n h k bs (Ok x) begins s same was = let z : ◌≡◌ {A = ℕ} 0 1 = cc in absurd (omega arith)
undigested f start capacity answer m n h k bs (Err x) begins s same was =
    let room : h.meaning.remaining ≡ capacity = ap (λ (x : Meaning). x.remaining) begins.is in
    (omega (arith, s.over), ap (λ (x : Held). x.meaning) same ∙ begins.is)

pub too_long : {T E : Type 0} {f : Step} {start : List ℕ} {capacity : ℕ} (answer : List ℕ → List ℕ) (m : Meaning) {h k : Held} {bs : List ℕ} {e : E} (r : Result (List ℕ) E)
    → Begins start capacity m h.meaning → Writes {T = T} {E = E} f h bs (Err e) k → k ≡ h → is_err r ≡ true → Digests f start capacity answer m bs r k.meaning
too_long {T} {E} {f} {start} {capacity} answer m {h} {k} {bs} {e} r begins p same was = undigested f start capacity answer m m h k bs r begins p.told same was
