-- How a stop in a part is a stop in the whole.
use Rattle.std.proofs.Common.{◌≡◌, ℕ, zero, suc, ◌+◌, ◌<◌, ◌≤◌, ◌⊎◌, List, [], ◌∷◌, ◌++◌, length, get_or, drop, sym, refl, ap, ◌∙◌, inl, inr, ⊎_elim, append_assoc, append-nil, add-one, arith, length-append, length-drop}
use Rattle.aterm.specs.declared.fault.Cause.{Cause}
use Rattle.aterm.specs.declared.fault.Cause.TheVariants.{Byte, Row}
use Rattle.aterm.specs.Grammar.{Sign, byte, end, signs}
use Rattle.aterm.specs.Reads.{Allowed, Because, Stops, beyond}

-- no writing goes on past another
abbrev pub Free : {X : Type 0} → (X → List Sign) → Type 0
Free {X} w = (x y : X) (r s : List Sign) → w x ++ r ≡ w y ++ s → r ≡ s

pub tail_eq : {X : Type 0} {a b : X} {r s : List X} → a ∷ r ≡ b ∷ s → r ≡ s
tail_eq e = cc

pub head_eq : {X : Type 0} {a b : X} {r s : List X} → a ∷ r ≡ b ∷ s → a ≡ b
head_eq e = cc

pub not_nil : (c : Sign) (p q : List Sign) → p ++ c ∷ q ≡ [] → ⊥
not_nil c [] q e = cc
not_nil c (a ∷ p) q e = cc

-- c lies in a, or after it
pub apart : (p a : List Sign) (c : Sign) (q b : List Sign) → a ++ b ≡ p ++ c ∷ q →
    ((l : List Sign) × (a ≡ p ++ c ∷ l)) ⊎ ((l : List Sign) × (p ≡ a ++ l) × (b ≡ l ++ c ∷ q))
apart [] [] c q b e = inr ([], refl, e)
apart [] (x ∷ a) c q b e = inl (a, ap (λ y. y ∷ a) (head_eq e))
apart (y ∷ p) [] c q b e = inr (y ∷ p, refl, e)
apart (y ∷ p) (x ∷ a) c q b e =
    let h = head_eq e in
    ⊎_elim (λ m. inl (m.0, cc m.1)) (λ m. inr (m.0, cc m.1, m.2)) (apart p a c q b (tail_eq e))

-- W begins with w
pub record Starts {X Z : Type 0} (w : X → List Sign) (W : Z → List Sign) : Type 0 where
  pub down : (z : Z) → (x : X) × (q : List Sign) × (W z ≡ w x ++ q)
  pub up : (x : X) → (z : Z) × (q : List Sign) × (W z ≡ w x ++ q)

-- after pre, W goes on as w
pub record After {X Y : Type 0} (W : X → List Sign) (pre : List Sign) (w : Y → List Sign) : Type 0 where
  pub up : (y : Y) → (x : X) × (W x ≡ pre ++ w y)
  pub down : (x : X) (q : List Sign) → W x ≡ pre ++ q → (y : Y) × (w y ≡ q)

module _ {X Z : Type 0} {w : X → List Sign} {W : Z → List Sign} (free : Free w) (st : Starts w W) where
  allow_start : (p : List Sign) (c : Sign) → Allowed w p c → Allowed W p c
  allow_start p c a =
      let u = st.up a.0 in
      (u.0, a.1 ++ u.1, u.2 ∙ ap (λ l. l ++ u.1) a.2 ∙ append_assoc p (c ∷ a.1) u.1)

  avoid_start : (p : List Sign) → ((d : Sign) × Allowed w p d) → (c : Sign) → (Allowed w p c → ⊥) → Allowed W p c → ⊥
  avoid_start p v c bar a =
      let d = st.down a.0 in
      ⊎_elim
      (λ m. bar (d.0, m.0, m.1))
      (λ m.
      let l = m.0 in
      let there : w v.1.0 ≡ w d.0 ++ (l ++ v.0 ∷ v.1.1) = v.1.2 ∙ ap (λ k. k ++ v.0 ∷ v.1.1) m.1 ∙ append_assoc (w d.0) l (v.0 ∷ v.1.1) in
      not_nil v.0 l v.1.1 (free d.0 v.1.0 (l ++ v.0 ∷ v.1.1) [] (sym there ∙ sym (append-nil (w v.1.0)))))
      (apart p (w d.0) c a.1 d.1 (sym d.2 ∙ a.2))

  because_start : (p : List Sign) → ((d : Sign) × Allowed w p d) → (c : Sign) (k : Cause) → Because w p c k → Because W p c k
  because_start p v c Byte b = avoid_start p v (beyond c) b
  because_start p v c Row b = allow_start p (beyond c) b

  pub stop_start : {s : List Sign} {from place : ℕ} {k : Cause} → Stops w s from place k → Stops W s from place k
  stop_start {s} {from} {place} {k} h = record {
    before = h.before;
    sign = h.sign;
    after = h.after;
    whole = h.whole;
    at = h.at;
    viable = (h.viable.0, allow_start h.before h.viable.0 h.viable.1);
    stops = avoid_start h.before h.viable h.sign h.stops;
    because = because_start h.before h.viable h.sign k h.because;
  }

module _ {X Y : Type 0} {W : X → List Sign} {pre : List Sign} {w : Y → List Sign} (af : After W pre w) where
  allow_after : (p : List Sign) (c : Sign) → Allowed w p c → Allowed W (pre ++ p) c
  allow_after p c a =
      let u = af.up a.0 in
      (u.0, a.1, u.1 ∙ ap (λ l. pre ++ l) a.2 ∙ sym (append_assoc pre p (c ∷ a.1)))

  back_after : (p : List Sign) (c : Sign) → Allowed W (pre ++ p) c → Allowed w p c
  back_after p c a =
      let d = af.down a.0 (p ++ c ∷ a.1) (a.2 ∙ append_assoc pre p (c ∷ a.1)) in
      (d.0, a.1, d.1)

  because_after : (p : List Sign) (c : Sign) (k : Cause) → Because w p c k → Because W (pre ++ p) c k
  because_after p c Byte b = λ a. b (back_after p (beyond c) a)
  because_after p c Row b = allow_after p (beyond c) b

  pub stop_after : {s t : List Sign} {from mid place : ℕ} {k : Cause} → s ≡ pre ++ t → from + length pre ≡ mid → Stops w t mid place k → Stops W s from place k
  stop_after {s} {t} {from} {mid} {place} {k} e m h = record {
    before = pre ++ h.before;
    sign = h.sign;
    after = h.after;
    whole = e ∙ ap (λ l. pre ++ l) h.whole ∙ sym (append_assoc pre h.before (h.sign ∷ h.after));
    at = (let l = length-append pre h.before in let g = h.at in omega arith);
    viable = (h.viable.0, allow_after h.before h.viable.0 h.viable.1);
    stops = λ a. h.stops (back_after h.before h.sign a);
    because = because_after h.before h.sign k h.because;
  }

-- every writing begins with b, and here stands c
pub stop_first : {Z : Type 0} (W : Z → List Sign) (b : Sign) → Z → ((z : Z) → (q : List Sign) × (W z ≡ b ∷ q)) → {s : List Sign} {c : Sign} {r : List Sign} (from : ℕ) → s ≡ c ∷ r → (c ≡ b → ⊥) → (beyond c ≡ b → ⊥) → Stops W s from from Byte
stop_first W b z all {s} {c} {r} from e bar baro = record {
  before = [];
  sign = c;
  after = r;
  whole = e;
  at = omega arith;
  viable = (b, (z, (all z).0, (all z).1));
  stops = λ a. bar (head_eq (sym a.2 ∙ (all a.0).1));
  because = λ a. baro (head_eq (sym a.2 ∙ (all a.0).1));
}

-- the signs of a text
pub length_signs : (t : List ℕ) → length (signs t) ≡ length t + 1
length_signs [] = refl
length_signs (b ∷ t) = ap suc (length_signs t) ∙ omega arith

pub sign_at : (t : List ℕ) (i : ℕ) → i < length t → drop i (signs t) ≡ byte (get_or t i 0) ∷ drop (i + 1) (signs t)
sign_at [] i h = absurd (omega arith)
sign_at (b ∷ t) zero h = refl
sign_at (b ∷ t) (suc i) h = rw add-one (rw add-one at (sign_at t i (omega arith)))

pub sign_end : (t : List ℕ) → drop (length t) (signs t) ≡ end ∷ []
sign_end [] = refl
sign_end (b ∷ t) = sign_end t

pub reach : (t : List ℕ) (a : List Sign) (from next : ℕ) → drop from (signs t) ≡ a ++ drop next (signs t) → from ≤ length t → next ≤ length t → from + length a ≡ next
reach t a from next e h k =
    let l1 = length-drop from (signs t) in
    let l2 = length-drop next (signs t) in
    let l3 = length-append a (drop next (signs t)) in
    let l4 = length_signs t in
    let l5 = ap length e in
    omega arith
