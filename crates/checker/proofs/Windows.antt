-- The part of a buffer that a window lends, cut to the buffer's length.
use Rattle.std.proofs.Common.{◌≡◌, ℕ, ◌+◌, ◌-◌, min, List, ◌++◌, length, take, drop, sym, ap, ◌∙◌, subst, arith}
use Rattle.std.proofs.lemmas.List.{take_min, drop_min, drop-drop, take-append-drop, length-drop}
use Rattle.std.specs.declared.ops.Range.{Range}
use Rattle.checker.specs.Events.{part, patched}
use Rattle.checker.specs.declared.call.Window.{Window}

-- where the window lies in a buffer of this length
abbrev pub cut : Window → ℕ → Range ℕ
cut w n = record { start = min w.from n; end = min (w.from + w.size) n }

-- what is lent by a range, and the buffer with other bytes there
abbrev pub lent : Range ℕ → List ℕ → List ℕ
lent g b = take (g.end - g.start) (drop g.start b)

abbrev pub given_back : Range ℕ → List ℕ → List ℕ → List ℕ
given_back g b out = take g.start b ++ (out ++ drop (g.end - g.start) (drop g.start b))

lent_cut : (w : Window) (b : List ℕ) → lent (cut w (length b)) b ≡ part w b
lent_cut w b =
    ap (take (min (w.from + w.size) (length b) - min w.from (length b))) (drop_min w.from b)
    ∙ ap (λ (n : ℕ). take n (drop w.from b)) {x = min (w.from + w.size) (length b) - min w.from (length b)} {y = min w.size (length (drop w.from b))} (omega (arith, length-drop w.from b))
    ∙ take_min w.size (drop w.from b)

rest_cut : (w : Window) (b : List ℕ) → drop ((cut w (length b)).end - (cut w (length b)).start) (drop (cut w (length b)).start b) ≡ drop (w.from + w.size) b
rest_cut w b =
    drop-drop (min (w.from + w.size) (length b) - min w.from (length b)) (min w.from (length b)) b
    ∙ ap (λ (n : ℕ). drop n b) {x = min w.from (length b) + (min (w.from + w.size) (length b) - min w.from (length b))} {y = min (w.from + w.size) (length b)} (omega arith)
    ∙ drop_min (w.from + w.size) b

pub lent_is : (w : Window) (b : List ℕ) (g : Range ℕ) → g ≡ cut w (length b) → lent g b ≡ part w b
lent_is w b g e = subst (λ (h : Range ℕ). lent h b ≡ part w b) (sym e) (lent_cut w b)

pub back_is : (w : Window) (b out : List ℕ) (g : Range ℕ) → g ≡ cut w (length b) → given_back g b out ≡ patched w b out
back_is w b out g e =
    subst (λ (h : Range ℕ). given_back h b out ≡ patched w b out) (sym e)
    (λ i. take_min w.from b i ++ (out ++ rest_cut w b i))

-- the part as it was, put back, leaves the buffer as it was
pub part_kept : (w : Window) (b : List ℕ) → patched w b (part w b) ≡ b
part_kept w b =
    ap (λ (x : List ℕ). take w.from b ++ (take w.size (drop w.from b) ++ x)) (sym (drop-drop w.size w.from b))
    ∙ ap (λ (x : List ℕ). take w.from b ++ x) (take-append-drop w.size (drop w.from b))
    ∙ take-append-drop w.from b
