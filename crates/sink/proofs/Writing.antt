-- Writing one string after another is writing the two joined.
use Rattle.std.proofs.Common.{◌≡◌, ℕ, suc, ◌+◌, ◌^◌, ◌<◌, ◌≤◌, true, List, [], ◌∷◌, ◌++◌, length, get_or, take, drop, is_err, Ok, Err, Result, sym, refl, ap, ◌∙◌, subst, append_assoc, arith, length-append}
use Rattle.std.proofs.lemmas.List.{append-nil, drop-drop, at_drop_more, at_drop_all, take-append-le}
use Rattle.std.specs.List.{flat_map}
use Rattle.sink.specs.Write.{Step, Meaning, Held, steps, written, filled, Taken, Stopped, Writes, Leads, Joins}

pub steps_append : (f : Step) (s a b : List ℕ) → steps f (steps f s a) b ≡ steps f s (a ++ b)
steps_append f s [] b = refl
steps_append f s (x ∷ a) b = steps_append f (f s x) a b

pub meant : (s t : List ℕ) (a b x y : ℕ) → s ≡ t → a ≡ b → x ≡ y
    → ◌≡◌ {A = Meaning} (record { state = s; remaining = a; total = x }) (record { state = t; remaining = b; total = y })
meant s t a b x y p q r = cc

held : (m n : Meaning) (s t : List ℕ) (a : ℕ) → m ≡ n → s ≡ t
    → ◌≡◌ {A = Held} (record { meaning = m; space = s; loan = a }) (record { meaning = n; space = t; loan = a })
held m n s t a p q = cc

-- what is held, part by part
pub parts : (s s' : List ℕ) (a a' t t' : ℕ) (p p' : List ℕ) (g g' : ℕ) → s ≡ s' → a ≡ a' → t ≡ t' → p ≡ p' → g ≡ g'
    → ◌≡◌ {A = Held} (record { meaning = record { state = s; remaining = a; total = t }; space = p; loan = g }) (record { meaning = record { state = s'; remaining = a'; total = t' }; space = p'; loan = g' })
parts s s' a a' t t' p p' g g' e₁ e₂ e₃ e₄ e₅ = cc

pub written_append : (f : Step) (m : Meaning) (a b : List ℕ) → written f (written f m a) b ≡ written f m (a ++ b)
written_append f m a b =
    meant _ _ _ _ _ _
    (steps_append f m.state a b)
    (omega (arith, length-append a b))
    (omega (arith, length-append a b))

pub written_none : (f : Step) (m : Meaning) → m.total < 2 ^ 64 → written f m [] ≡ m
written_none f m small = meant _ _ _ _ _ _ refl (omega arith) (omega arith)

pub filled_append : (f : Step) (h : Held) (a b : List ℕ) → filled f (filled f h a) b ≡ filled f h (a ++ b)
unfolding filled
filled_append f h a b =
    held _ _ _ _ _
    (written_append f h.meaning a b)
    (drop-drop (length b) (length a) h.space ∙ ap (λ (n : ℕ). drop n h.space) (omega (arith, length-append a b)))

pub filled_none : (f : Step) (h : Held) → h.meaning.total < 2 ^ 64 → filled f h [] ≡ h
unfolding filled
filled_none f h small = held _ _ _ _ _ (written_none f h.meaning small) refl

pub filled_meaning : (f : Step) (h : Held) (bs : List ℕ) → (filled f h bs).meaning ≡ written f h.meaning bs
unfolding filled
filled_meaning f h bs = refl

pub taken_then : (f : Step) (h k l : Held) (a b : List ℕ) → Taken f h a k → Taken f k b l → Taken f h (a ++ b) l
taken_then f h k l a b (room, e) (left, d) =
    (omega (arith, length-append a b), d ∙ ap (λ (x : Held). filled f x b) e ∙ filled_append f h a b)

taken_after : (f : Step) (h k l : Held) (a b : List ℕ) → Taken f h a k → Taken f h (a ++ b) l → Taken f k b l
taken_after f h k l a b (room, e) (left, d) =
    (omega (arith, length-append a b), d ∙ sym (filled_append f h a b) ∙ ap (λ (x : Held). filled f x b) (sym e))

pub written_joins : Joins
written_joins f h k l a b t = (taken_then f h k l a b t, taken_after f h k l a b t)

pub taken_none : (f : Step) (h : Held) → h.meaning.total < 2 ^ 64 → Taken f h [] h
taken_none f h small = (omega arith, sym (filled_none f h small))

-- a sink that refused, and is what it was
pub kept : (f : Step) (h k : Held) (bs : List ℕ) → h.meaning.total < 2 ^ 64 → h.meaning.remaining < length bs → k ≡ h → Stopped f h bs k
kept f h k bs small past same = record {
  count = 0;
  over = past;
  within = omega arith;
  front = (omega (arith, ap (λ (x : Held). x.meaning.remaining) same), same ∙ sym (filled_none f h small));
}

take_past : (n : ℕ) (a b : List ℕ) → take (length a + n) (a ++ b) ≡ a ++ take n b
take_past n [] b = let e : 0 + n ≡ n = omega arith in ap (λ (k : ℕ). take k b) e
take_past n (x ∷ a) b =
    let e : length (x ∷ a) + n ≡ suc (length a + n) = omega arith in
    ap (λ (k : ℕ). take k (x ∷ (a ++ b))) e ∙ ap (λ (v : List ℕ). x ∷ v) (take_past n a b)

then_at : {T E : Type 0} (f : Step) (h k l : Held) (a b : List ℕ) (r : Result T E) → Taken f h a k → Writes f k b r l → Writes f h (a ++ b) r l
then_at f h k l a b (Ok y) t q = record { told = taken_then f h k l a b t q.told }
then_at f h k l a b (Err y) t q =
    let s = q.told in
    let n = s.count in
    let both : Taken f h (a ++ take n b) l = taken_then f h k l a (take n b) t s.front in
    record {
      told = record {
        count = length a + n;
        over = omega (arith, length-append a b, s.over, t.0);
        within = omega (arith, s.within, t.0);
        front = subst (λ (v : List ℕ). Taken f h v l) (sym (take_past n a b)) both;
      };
    }

stop_at : {T E : Type 0} (f : Step) (h k : Held) (a b : List ℕ) (r : Result T E) → Stopped f h a k → is_err r ≡ true → Writes f h (a ++ b) r k
stop_at f h k a b (Ok y) s was = let z : ◌≡◌ {A = ℕ} 0 1 = cc in absurd (omega arith)
stop_at f h k a b (Err y) s was = record {
  told = record {
    count = s.count;
    over = omega (arith, length-append a b, s.over);
    within = s.within;
    front = subst (λ (v : List ℕ). Taken f h v k) (sym (take-append-le s.count a b (omega (arith, s.within, s.over)))) s.front;
  };
}

-- the text that is left before a turn of a loop
split : {X : Type 0} (g : X → List ℕ) (xs : List X) (tail : List ℕ) (i : ℕ) (d : X) → i < length xs → g (get_or xs i d) ++ (flat_map g (drop (i + 1) xs) ++ tail) ≡ flat_map g (drop i xs) ++ tail
split g xs tail i d within =
    let one : flat_map g (drop i xs) ≡ g (get_or xs i d) ++ flat_map g (drop (i + 1) xs) = at_drop_more (flat_map g) xs i d within in
    sym (ap (λ (v : List ℕ). v ++ tail) one ∙ append_assoc (g (get_or xs i d)) (flat_map g (drop (i + 1) xs)) tail)

module _ {T E : Type 0} {f : Step} where
  -- a string that was taken, and then another call
  pub then : {h k l : Held} {a b : List ℕ} {x : T} {r : Result T E} → Writes {T = T} {E = E} f h a (Ok x) k → Writes f k b r l → Writes f h (a ++ b) r l
  then {h} {k} {l} {a} {b} {x} {r} p q = then_at f h k l a b r p.told q

  -- a string that was refused, whatever was to follow
  pub stop : {h k : Held} {a : List ℕ} {e : E} {r : Result T E} (b : List ℕ) → Writes {T = T} {E = E} f h a (Err e) k → is_err r ≡ true → Writes f h (a ++ b) r k
  stop {h} {k} {a} {e} {r} b p was = stop_at f h k a b r p.told was

  -- the same text, written otherwise
  pub as_text : {h k : Held} {a b : List ℕ} {r : Result T E} → a ≡ b → Writes f h a r k → Writes f h b r k
  as_text {h} {k} {a} {b} {r} e p = subst (λ (v : List ℕ). Writes f h v r k) e p

  pub unpadded : {h k : Held} {a : List ℕ} {r : Result T E} → Writes f h (a ++ []) r k → Writes f h a r k
  unpadded {h} {k} {a} p = as_text (append-nil a) p

  -- a string that did not fit, as `?` hands the refusal on
  pub refused : {h k : Held} {a : List ℕ} {r : Result T E} → is_err r ≡ true → Stopped f h a k → Writes f h a r k
  refused {h} {k} {a} {r} was s = unpadded (stop_at f h k a [] r s was)

  -- nothing more to write
  pub done : {h : Held} (x : T) → h.meaning.total < 2 ^ 64 → Writes {T = T} {E = E} f h [] (Ok x) h
  done {h} x small = record { told = (omega arith, sym (filled_none f h small)) }

  pub same_leads : {h : Held} {a b : List ℕ} → b ≡ a → Leads T E f h a h b
  same_leads e = record { on = λ r l p. as_text e p }

  -- a loop that writes g x for each x of xs, with tail to follow: a turn, the exit where the sink refuses, and the end
  module _ {h k : Held} {whole : List ℕ} {X : Type 0} (g : X → List ℕ) (xs : List X) (tail : List ℕ) (i : ℕ) where
    pub leads_more : {l : Held} {x : T} (d : X) → i < length xs → Leads T E f h whole k (flat_map g (drop i xs) ++ tail) → Writes {T = T} {E = E} f k (g (get_or xs i d)) (Ok x) l
        → Leads T E f h whole l (flat_map g (drop (i + 1) xs) ++ tail)
    leads_more d within inv taken = record { on = λ r z p. inv.on r z (as_text (split g xs tail i d within) (then taken p)) }

    pub leads_stop : {l : Held} {e : E} {r : Result T E} (d : X) → i < length xs → Leads T E f h whole k (flat_map g (drop i xs) ++ tail) → Writes {T = T} {E = E} f k (g (get_or xs i d)) (Err e) l → is_err r ≡ true
        → Writes f h whole r l
    leads_stop {l} {e} {r} d within inv refused was = inv.on r l (as_text (split g xs tail i d within) (stop (flat_map g (drop (i + 1) xs) ++ tail) refused was))

    pub leads_all : {l : Held} {r : Result T E} → length xs ≤ i → Leads T E f h whole k (flat_map g (drop i xs) ++ tail) → Writes f k tail r l → Writes f h whole r l
    leads_all {l} {r} past inv p =
        let none : flat_map g (drop i xs) ≡ [] = at_drop_all (flat_map g) xs i past in
        inv.on r l (as_text (sym (ap (λ (v : List ℕ). v ++ tail) none)) p)
