-- What a call leaves of the buffer: a refused one leaves all of it, and one that writes all but the bytes of its text.
use Rattle.std.proofs.Common.{◌≡◌, ℕ, ◌+◌, ◌<◌, ◌≤◌, ◌⊎◌, List, [], ◌++◌, length, take, drop, Ok, Err, sym, refl, ap, ◌∙◌, inl, inr, arith}
use Rattle.std.proofs.lemmas.Bool.{cases_lt}
use Rattle.std.proofs.lemmas.List.{length-append, length-take, length-take-le, length-drop, take-append-drop, drop-append-le, drop-drop, take_at, drop_at, append_assoc, nil_from_length}
use Rattle.canonical.specs.Meanings.{canonical}
use Rattle.checker.specs.Calls.{Put, file_line, summary}
use Rattle.checker.specs.Events.{part, patched, took, settled, returned, told, located, rewritten, circled, lined, tailed, Stage, Writes}
use Rattle.checker.specs.Theorem.{Filled, RefusedStays, WrittenStays}
use Rattle.checker.specs.declared.call.Window.{Window}

-- a buffer with what stands in its part put there again
same_part : (w : Window) (buffer : List ℕ) → patched w buffer (part w buffer) ≡ buffer
same_part w buffer =
    ap (λ (rest : List ℕ). take w.from buffer ++ (part w buffer ++ rest)) (sym (drop-drop w.size w.from buffer))
    ∙ ap (λ (rest : List ℕ). take w.from buffer ++ rest) (take-append-drop w.size (drop w.from buffer))
    ∙ take-append-drop w.from buffer

-- ---- refusals

same_stage : (s t : Stage) → t.view ≡ s.view → t.sink ≡ s.sink → t.buffer ≡ s.buffer → t ≡ s
same_stage s t v k b = λ i. record { view = v i; sink = k i; buffer = b i }

unwritten : (s t : Stage) (w : Window) (out : List ℕ) → out ≡ part w s.buffer → Writes s w out t → t ≡ s
unwritten s t w out same x = same_stage s t x.view x.sink (x.buffer ∙ ap (patched w s.buffer) same ∙ same_part w s.buffer)

pub refused_stays : RefusedStays
refused_stays kind s t (took (Err e)) r ((q, same), m) = same_stage s t same m.sink m.buffer
refused_stays kind s t (settled k (Err e)) r ((q, same, sink), b) = same_stage s t same sink b
refused_stays kind s t (returned k (Err e)) r ((q, same), m) = same_stage s t same m.sink m.buffer
refused_stays kind s t (told k (Err e)) r (h, same) = same
refused_stays kind s t (located k j w out (Err e)) r ((q, is, sink), v, b) =
    same_stage s t v sink (b ∙ ap (patched w s.buffer) is ∙ same_part w s.buffer)
refused_stays kind s t (rewritten k w out (Err e)) r ((q, is), x) = unwritten s t w out is x
refused_stays kind s t (circled (Err e)) r (h, same) = same
refused_stays kind s t (lined k w out (Err e)) r ((q, is), x) = unwritten s t w out is x
refused_stays kind s t (tailed w out (Err e)) r ((q, is), x) = unwritten s t w out is x
refused_stays kind s t (took (Ok n)) r h = absurd (cc)
refused_stays kind s t (settled k (Ok n)) r h = absurd (cc)
refused_stays kind s t (returned k (Ok u)) r h = absurd (cc)
refused_stays kind s t (told k (Ok o)) r h = absurd (cc)
refused_stays kind s t (located k j w out (Ok n)) r h = absurd (cc)
refused_stays kind s t (rewritten k w out (Ok n)) r h = absurd (cc)
refused_stays kind s t (circled (Ok c)) r h = absurd (cc)
refused_stays kind s t (lined k w out (Ok n)) r h = absurd (cc)
refused_stays kind s t (tailed w out (Ok n)) r h = absurd (cc)

-- ---- texts

-- the first n bytes of a list behind its first f are replaced by as many
module _ (f : ℕ) (bs buffer after : List ℕ) (fits : length bs ≤ length (drop f buffer)) (is : after ≡ take f buffer ++ (bs ++ drop (f + length bs) buffer)) where
  abbrev n : ℕ
  n = length bs

  -- the list reaches to the part, or there is no byte to be put
  reaches : (length buffer < f) ⊎ (f ≤ length buffer)
  reaches = cases_lt (length buffer) f

  none : length buffer < f → bs ≡ []
  none l = nil_from_length bs (omega (arith, fits, l, length-drop f buffer))

  unmoved : length buffer < f → after ≡ buffer
  unmoved l =
      is ∙ ap (λ (b : List ℕ). take f buffer ++ (b ++ drop (f + length b) buffer)) (none l)
      ∙ ap (λ (m : ℕ). take f buffer ++ drop m buffer) (omega arith)
      ∙ take-append-drop f buffer

  at_part : f ≤ length buffer → drop f after ≡ bs ++ drop (f + n) buffer
  at_part l = ap (drop f) is ∙ drop_at (take f buffer) (bs ++ drop (f + n) buffer) f (length-take-le f buffer l)

  front_stays : take f after ≡ take f buffer
  front_stays = elim reaches [
    | inr l ↦ ap (take f) is ∙ take_at (take f buffer) (bs ++ drop (f + n) buffer) f (length-take-le f buffer l)
    | inl l ↦ ap (take f) (unmoved l)
  ]

  text_there : take n (drop f after) ≡ bs
  text_there = elim reaches [
    | inr l ↦ ap (take n) (at_part l) ∙ take_at bs (drop (f + n) buffer) n refl
    | inl l ↦ ap (λ (b : List ℕ). take (length b) (drop f after)) (none l) ∙ sym (none l)
  ]

  rest_stays : drop (f + n) after ≡ drop (f + n) buffer
  rest_stays = elim reaches [
    | inr l ↦ sym (drop-drop n f after) ∙ ap (drop n) (at_part l) ∙ drop_at bs (drop (f + n) buffer) n refl
    | inl l ↦ ap (drop (f + n)) (unmoved l)
  ]

  length_stays : length after ≡ length buffer
  length_stays = elim reaches [
    | inr l ↦
        ap length is ∙ length-append (take f buffer) (bs ++ drop (f + n) buffer)
        ∙ (λ i. length-take-le f buffer l i + length-append bs (drop (f + n) buffer) i)
        ∙ ap (λ (m : ℕ). f + (n + m)) (length-drop (f + n) buffer) ∙ omega (arith, fits, l, length-drop f buffer)
    | inl l ↦ ap length (unmoved l)
  ]

module _ (w : Window) (bs buffer : List ℕ) (n : ℕ) (out after : List ℕ) (put : Put bs (part w buffer) n out) (is : after ≡ patched w buffer out) where
  -- the rest of the part, and what stands behind the part
  behind : drop n (part w buffer) ++ drop (w.from + w.size) buffer ≡ drop (w.from + length bs) buffer
  behind =
      ap (λ (rest : List ℕ). drop n (part w buffer) ++ rest) (sym (drop-drop w.size w.from buffer))
      ∙ sym (drop-append-le n (part w buffer) (drop w.size (drop w.from buffer)) (omega (arith, put.fits, put.count)))
      ∙ ap (drop n) (take-append-drop w.size (drop w.from buffer))
      ∙ drop-drop n w.from buffer
      ∙ ap (λ (m : ℕ). drop (w.from + m) buffer) put.count

  put_in : after ≡ take w.from buffer ++ (bs ++ drop (w.from + length bs) buffer)
  put_in =
      is ∙ ap (λ (o : List ℕ). take w.from buffer ++ (o ++ drop (w.from + w.size) buffer)) put.is
      ∙ ap (λ (rest : List ℕ). take w.from buffer ++ rest)
      (append_assoc bs (drop n (part w buffer)) (drop (w.from + w.size) buffer) ∙ ap (λ (rest : List ℕ). bs ++ rest) behind)

  has_room : length bs ≤ length (drop w.from buffer)
  has_room = omega (arith, put.fits, length-take w.size (drop w.from buffer))

  filled : Filled w n buffer out after
  filled = record {
    text = bs;
    long = sym put.count;
    fits = omega (arith, put.fits, put.count);
    left = put.is;
    there = ap (λ (m : ℕ). take m (drop w.from after)) put.count ∙ text_there w.from bs buffer after has_room put_in;
    front = front_stays w.from bs buffer after has_room put_in;
    rest =
        ap (λ (m : ℕ). drop (w.from + m) after) put.count ∙ rest_stays w.from bs buffer after has_room put_in
        ∙ ap (λ (m : ℕ). drop (w.from + m) buffer) (sym put.count);
    as_long = length_stays w.from bs buffer after has_room put_in;
  }

pub written_stays : WrittenStays
written_stays kind s t (took r) (h, m) = m.buffer
written_stays kind s t (settled k r) (h, b) = b
written_stays kind s t (returned k r) (h, m) = m.buffer
written_stays kind s t (told k r) (h, same) = ap (λ (x : Stage). x.buffer) same
written_stays kind s t (located k j w out (Ok n)) ((o, x, y, z, l), v, b) = filled w l.right s.buffer n out t.buffer l.put b
written_stays kind s t (located k j w out (Err e)) h = ap (λ (x : Stage). x.buffer) (refused_stays kind s t (located k j w out (Err e)) refl h)
written_stays kind s t (rewritten k w out (Ok n)) ((m, o, x, f, put), y) = filled w (canonical m) s.buffer n out t.buffer put y.buffer
written_stays kind s t (rewritten k w out (Err e)) h = ap (λ (x : Stage). x.buffer) (refused_stays kind s t (rewritten k w out (Err e)) refl h)
written_stays kind s t (circled r) (h, same) = ap (λ (x : Stage). x.buffer) same
written_stays kind s t (lined k w out (Ok n)) ((o, x, put), y) = filled w (file_line s.view k) s.buffer n out t.buffer put y.buffer
written_stays kind s t (lined k w out (Err e)) h = ap (λ (x : Stage). x.buffer) (refused_stays kind s t (lined k w out (Err e)) refl h)
written_stays kind s t (tailed w out (Ok n)) ((o, put), y) = filled w (summary s.view) s.buffer n out t.buffer put y.buffer
written_stays kind s t (tailed w out (Err e)) h = ap (λ (x : Stage). x.buffer) (refused_stays kind s t (tailed w out (Err e)) refl h)
