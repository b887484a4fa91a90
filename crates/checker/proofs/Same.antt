-- What is once there: views that differ at most in the row of 20, bytes in a buffer, the string that a sink holds.
use Rattle.std.proofs.Common.{◌≡◌, ℕ, ◌+◌, ◌-◌, ◌%◌, ◌^◌, List, [], ◌∷◌, ◌++◌, length, drop, get_or, sym, refl, ap, ◌∙◌, subst, subst₂, inl, inr, arith, length-append}
use Rattle.std.proofs.lemmas.Bool.{cases_eq}
use Rattle.std.proofs.Math.Seq.{get_or-append_seam}
use Rattle.hash_modulo.specs.Sets.{Bytes}
use Rattle.hash_modulo.specs.Strings.{all_lengths}
use Rattle.sink.specs.Write.{steps}
use Rattle.sink.specs.Write as sinks
use Rattle.checker.specs.Calls.{Kind, Holds, Put}
use Rattle.checker.specs.Theorem.{SameState, SameView}
use Rattle.checker.specs.Views.{View, Changes}
use Rattle.checker.specs.declared.state.State.{State}
use Rattle.checker.specs.declared.state.State.TheVariants.{Pending, Taken, Settled}

-- ---- views

itself : (s : State) → SameState s s
itself Pending = tt
itself Taken = tt
itself (Settled s) = (refl, inl refl)

equal_states : (s t : State) → s ≡ t → SameState s t
equal_states s t e = subst (SameState s) e (itself s)

pub equal_views : (v w : View) → v ≡ w → SameView v w
equal_views v w e = subst (SameView v) e (record { opened = refl; image = refl; count = refl; rows = λ k. itself (v.row k) })

-- one row is changed in both to states that differ at most in the row of 20
pub changed_alike : (v w x : View) (k : ℕ) (s t : State) → SameState s t → Changes v k s w → Changes v k t x → SameView w x
changed_alike v w x k s t a c d = record {
  opened = c.opened ∙ sym d.opened;
  image = c.image ∙ sym d.image;
  count = c.count ∙ sym d.count;
  rows = λ j. elim (cases_eq j k) [
    | inl e ↦ subst₂ SameState (sym (ap w.row e ∙ c.here)) (sym (ap x.row e ∙ d.here)) a
    | inr n ↦ equal_states (w.row j) (x.row j) (c.others j n ∙ sym (d.others j n))
  ];
}

-- ---- a buffer

pub put_once : (bs out after behind : List ℕ) (m n : ℕ) → Put bs out m after → Put bs out n behind → (m ≡ n) × (after ≡ behind)
put_once bs out after behind m n a b =
    let e : m ≡ n = a.count ∙ sym b.count in
    (e, a.is ∙ ap (λ (i : ℕ). bs ++ drop i out) e ∙ sym b.is)

-- ---- a sink

one_last : (xs ys : List Bytes) (a b : Bytes) → xs ++ (a ∷ []) ≡ ys ++ (b ∷ []) → a ≡ b
one_last xs ys a b e =
    let p = length-append xs (a ∷ []) in
    let q = length-append ys (b ∷ []) in
    let l = ap length e in
    let n : length xs ≡ length ys = omega arith in
    sym (get_or-append_seam xs a [] []) ∙ (λ i. get_or (e i) (n i) []) ∙ get_or-append_seam ys b [] []

pub held_once : (kind : Kind) (before : sinks.Meaning) (ss ts : List Bytes) (after behind : sinks.Meaning) → ss ≡ ts
    → Holds kind before ss after → Holds kind before ts behind → after ≡ behind
held_once kind before ss ts after behind same a b =
    let e : a.last ≡ b.last = one_last a.front b.front a.last b.last (sym a.whole ∙ same ∙ b.whole) in
    let state = a.state ∙ ap (steps kind.step kind.start) e ∙ sym b.state in
    let remaining = a.remaining ∙ ap (λ (s : Bytes). kind.capacity - length s) e ∙ sym b.remaining in
    let total = a.total ∙ ap (λ (l : List Bytes). (before.total + all_lengths l) % (2 ^ 64)) same ∙ sym b.total in
    λ i. record { state = state i; remaining = remaining i; total = total i }
