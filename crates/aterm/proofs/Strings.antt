-- The turns of the string reader.
use Rattle.std.proofs.Common.{◌≡◌, ℕ, zero, suc, ◌+◌, ◌-◌, ◌<◌, ◌≤◌, T, List, [], ◌∷◌, ◌++◌, map, length, get_or, take, drop, sym, refl, ap, ◌∙◌, append_assoc, append-nil, arith, length-drop, length-take, get_or-drop, take-suc, take_all, drop-drop, ne_eqb}
use Rattle.std.proofs.lemmas.List.{map-append, length-map}
use Rattle.aterm.specs.declared.fault.Cause.TheVariants.{Byte}
use Rattle.aterm.specs.declared.part.Mode.{Mode}
use Rattle.aterm.specs.declared.part.Mode.TheVariants.{Plain, Escaped}
use Rattle.aterm.specs.Grammar.{Sign, byte, end, signs, Char, plain, escaped, ordinary, raw, string, write}
use Rattle.aterm.specs.Reads.{Allowed, Stops, Written, Spans}
use Rattle.aterm.proofs.Laws.{sign_at, sign_end}

-- the bytes from i to j
abbrev pub seg : List ℕ → ℕ → ℕ → List ℕ
seg t i j = take (j - i) (drop i t)

abbrev pub half : Mode → List ℕ
half Plain = []
half Escaped = 92 ∷ []

-- what has been read from `at` to `e`, of which the last byte may be half a character
abbrev pub Sofar : List ℕ → ℕ → ℕ → Mode → Type 0
Sofar t at e m = (cs : List Char) × (seg t at e ≡ raw cs ++ half m)

pub seg_none : (t : List ℕ) (i : ℕ) → seg t i i ≡ []
seg_none t i = let z : i - i ≡ 0 = omega arith in ap (λ n. take n (drop i t)) z

pub seg_more : (t : List ℕ) (i j : ℕ) → i ≤ j → j < length t → seg t i (j + 1) ≡ seg t i j ++ get_or t j 0 ∷ []
seg_more t i j h k =
    let l = length-drop i t in
    let e1 : j + 1 - i ≡ suc (j - i) = omega arith in
    let e2 : i + (j - i) ≡ j = omega arith in
    ap (λ n. take n (drop i t)) e1 ∙ take-suc (drop i t) (j - i) 0 (omega arith) ∙ ap (λ b. seg t i j ++ b ∷ []) (get_or-drop i t (j - i) 0 ∙ ap (λ n. get_or t n 0) e2)

-- a byte of what follows `at`, by its place in the text
pub by_place : (t : List ℕ) (at i : ℕ) → i < length (seg t at (length t)) → (at + i < length t) × (get_or (seg t at (length t)) i 0 ≡ get_or t (at + i) 0)
by_place t at i h =
    let l = length-drop at t in
    let e = take_all (length t - at) (drop at t) (omega arith) in
    (omega (arith, ap length e), ap (λ s. get_or s i 0) e ∙ get_or-drop at t i 0)

pub raw_append : (cs ds : List Char) → raw (cs ++ ds) ≡ raw cs ++ raw ds
raw_append [] ds = refl
raw_append (plain c o ∷ cs) ds = ap (λ l. c ∷ l) (raw_append cs ds)
raw_append (escaped c ∷ cs) ds = ap (λ l. 92 ∷ c ∷ l) (raw_append cs ds)

module _ (t : List ℕ) (at e : ℕ) (h : at ≤ e) (k : e < length t) where
  pub on_plain : T (ordinary (get_or t e 0)) → Sofar t at e Plain → Sofar t at (e + 1) Plain
  on_plain o s =
      let b = get_or t e 0 in (
        s.0 ++ plain b o ∷ [],
        seg_more t at e h k ∙ ap (λ l. l ++ b ∷ []) (s.1 ∙ append-nil _) ∙ sym (raw_append s.0 (plain b o ∷ [])) ∙ sym (append-nil _),
      )

  pub on_slash : get_or t e 0 ≡ 92 → Sofar t at e Plain → Sofar t at (e + 1) Escaped
  on_slash b s = (s.0, seg_more t at e h k ∙ ap (λ l. l ++ get_or t e 0 ∷ []) (s.1 ∙ append-nil _) ∙ ap (λ c. raw s.0 ++ c ∷ []) b)

  pub on_escaped : Sofar t at e Escaped → Sofar t at (e + 1) Plain
  on_escaped s =
      let b = get_or t e 0 in (
        s.0 ++ escaped b ∷ [],
        seg_more t at e h k ∙ ap (λ l. l ++ b ∷ []) s.1 ∙ append_assoc (raw s.0) (92 ∷ []) (b ∷ []) ∙ sym (raw_append s.0 (escaped b ∷ [])) ∙ sym (append-nil _),
      )

pub ordinary_from : (c : ℕ) → (c ≡ 34 → ⊥) → (c ≡ 92 → ⊥) → T (ordinary c)
ordinary_from c p q = rw (ne_eqb c 34 p, ne_eqb c 92 q) tt

signs_split : (t : List ℕ) (n : ℕ) → n ≤ length t → signs t ≡ map byte (take n t) ++ drop n (signs t)
signs_split t zero h = refl
signs_split [] (suc n) h = absurd (omega arith)
signs_split (b ∷ t) (suc n) h = ap (λ l. byte b ∷ l) (signs_split t n (omega arith))

drop_signs : (t : List ℕ) (n : ℕ) → n ≤ length t → drop n (signs t) ≡ signs (drop n t)
drop_signs t zero h = refl
drop_signs [] (suc n) h = absurd (omega arith)
drop_signs (b ∷ t) (suc n) h = drop_signs t n (omega arith)

pub seg_signs : (t : List ℕ) (i j : ℕ) → i ≤ j → j ≤ length t → drop i (signs t) ≡ map byte (seg t i j) ++ drop j (signs t)
seg_signs t i j h k =
    let l = length-drop i t in
    let e : i + (j - i) ≡ j = omega arith in
    drop_signs t i (omega arith) ∙ signs_split (drop i t) (j - i) (omega arith) ∙ ap (λ l. map byte (seg t i j) ++ drop (j - i) l) (sym (drop_signs t i (omega arith))) ∙ ap (λ l. map byte (seg t i j) ++ l) (drop-drop (j - i) i (signs t) ∙ ap (λ n. drop n (signs t)) e)

pub closed : (t : List ℕ) (at e : ℕ) → at ≤ e → e < length t → get_or t e 0 ≡ 34 → Sofar t at e Plain → Written (write string) (λ cs. Spans t at at e cs) t at (e + 1)
closed t at e h k b s =
    let same = s.1 ∙ append-nil _ in
    record {
      tree = s.0;
      whole = seg_signs t at e h (omega arith) ∙ ap (λ l. map byte l ++ drop e (signs t)) same ∙ ap (λ l. map byte (raw s.0) ++ l) (sign_at t e k ∙ ap (λ c. byte c ∷ drop (e + 1) (signs t)) b) ∙ sym (append_assoc (map byte (raw s.0)) (byte 34 ∷ []) (drop (e + 1) (signs t)));
      inside = omega arith;
      held = record { from = refl; to = (let l1 = ap length same in let l2 = length-take (e - at) (drop at t) in let l3 = length-drop at t in omega arith); inside = omega arith; cut = same };
    }

no_end : (l : List ℕ) (p q : List Sign) → map byte l ++ byte 34 ∷ [] ≡ p ++ end ∷ q → ⊥
no_end [] [] q e = cc
no_end [] (a ∷ []) q e = cc
no_end [] (a ∷ b ∷ p) q e = cc
no_end (x ∷ l) [] q e = cc
no_end (x ∷ l) (a ∷ p) q e = no_end l p q cc

goes_on : (cs : List Char) (m : Mode) → (c : Sign) × Allowed (write string) (map byte (raw cs ++ half m)) c
goes_on cs Plain = (byte 34, (cs, [], ap (λ l. map byte l ++ byte 34 ∷ []) (sym (append-nil (raw cs)))))
goes_on cs Escaped = (
  byte 0,
  (
    cs ++ escaped 0 ∷ [],
    byte 34 ∷ [],
    ap (λ l. map byte l ++ byte 34 ∷ []) (raw_append cs (escaped 0 ∷ []) ∙ sym (append_assoc (raw cs) (92 ∷ []) (0 ∷ []))) ∙ ap (λ l. l ++ byte 34 ∷ []) (map-append byte (raw cs ++ 92 ∷ []) (0 ∷ [])) ∙ append_assoc (map byte (raw cs ++ 92 ∷ [])) (byte 0 ∷ []) (byte 34 ∷ []),
  ),
)

pub open_end : (t : List ℕ) (at : ℕ) (m : Mode) → at ≤ length t → Sofar t at (length t) m → Stops (write string) (drop at (signs t)) at (length t) Byte
open_end t at m h s = record {
  before = map byte (raw s.0 ++ half m);
  sign = end;
  after = [];
  whole = seg_signs t at (length t) h (omega arith) ∙ ap (λ l. map byte l ++ drop (length t) (signs t)) s.1 ∙ ap (λ l. map byte (raw s.0 ++ half m) ++ l) (sign_end t);
  at = (let l1 = length-map (raw s.0 ++ half m) byte in let l2 = ap length s.1 in let l3 = length-take (length t - at) (drop at t) in let l4 = length-drop at t in omega arith);
  viable = goes_on s.0 m;
  stops = λ a. no_end (raw a.0) _ a.1 a.2;
  because = λ a. no_end (raw a.0) _ a.1 a.2;
}
