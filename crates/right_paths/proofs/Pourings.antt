-- Strings that are digested one after the other: their lengths, and what the sink holds at the end.
use Rattle.std.proofs.Common.{◌≡◌, ℕ, ◌+◌, ◌*◌, ◌%◌, ◌^◌, ◌<◌, ◌≤◌, List, [], ◌∷◌, ◌++◌, length, sym, refl, ap, ◌∙◌, subst, arith}
use Rattle.std.specs.List.{AllByRecursion}
use Rattle.sink.specs.Digest.{begun}
use Rattle.sink.specs.Write.{Step, Meaning, written}
use Rattle.hash_modulo.specs.Sets.{Bytes}
use Rattle.hash_modulo.specs.Strings.{all_lengths}
use Rattle.right_paths.specs.Pouring.{poured, Pours}
use Rattle.right_paths.specs.Worked.{PoursAll, LocatedBy, HoldsLast}

pub lengths_append : (ss ts : List Bytes) → all_lengths (ss ++ ts) ≡ all_lengths ss + all_lengths ts
lengths_append [] ts = omega arith
lengths_append (s ∷ ss) ts = let h = lengths_append ss ts in omega arith

pub lengths_short : (ss : List Bytes) → AllByRecursion (λ (s : Bytes). length s < 1048576) ss → all_lengths ss ≤ 1048576 * length ss
lengths_short [] a = omega arith
lengths_short (s ∷ ss) a = let h = lengths_short ss a.1 in let k : length s < 1048576 = a.0 in omega arith

module _ (f : Step) (start : List ℕ) (capacity : ℕ) where
  pub poured_append : (m : Meaning) (ss ts : List Bytes) → poured f start capacity m (ss ++ ts) ≡ poured f start capacity (poured f start capacity m ss) ts
  poured_append m [] ts = refl
  poured_append m (s ∷ ss) ts = poured_append (written f (begun start capacity m) s) ss ts

module _ {f : Step} {start : List ℕ} {capacity : ℕ} {answer : List ℕ → List ℕ} where
  pub pours_one : {before after : Meaning} {s h : Bytes} {n : ℕ} → Pours f start capacity answer before s h n after → PoursAll f start capacity answer before (s ∷ []) n after
  pours_one {before} {after} {s} {h} {n} p = let e : n ≡ length s = p.count in record { count = omega arith; sink = p.after }

  pub pours_then : {before middle after : Meaning} {ss ts : List Bytes} {a b : ℕ} → PoursAll f start capacity answer before ss a middle → PoursAll f start capacity answer middle ts b after
      → PoursAll f start capacity answer before (ss ++ ts) (a + b) after
  pours_then {before} {middle} {after} {ss} {ts} {a} {b} p q =
      let x : a ≡ all_lengths ss = p.count in
      let y : b ≡ all_lengths ts = q.count in
      let z = lengths_append ss ts in
      record {
        count = omega arith;
        sink = q.sink ∙ ap (λ (v : Meaning). poured f start capacity v ts) p.sink ∙ sym (poured_append f start capacity before ss ts);
      }

  -- the same, of an equal string
  pub pours_as : {before after : Meaning} {s t h : Bytes} {n : ℕ} → s ≡ t → Pours f start capacity answer before s h n after → Pours f start capacity answer before t h n after
  pours_as {before} {after} {s} {t} {h} {n} e p = subst (λ (z : Bytes). Pours f start capacity answer before z h n after) e p

  pub located_as : {before after : Meaning} {s t digits : Bytes} {n : ℕ} → s ≡ t → LocatedBy f start capacity answer before s digits n after → LocatedBy f start capacity answer before t digits n after
  located_as {before} {after} {s} {t} {digits} {n} e p = subst (λ (z : Bytes). LocatedBy f start capacity answer before z digits n after) e p

  last_held : (m : Meaning) (s : Bytes) (ss : List Bytes) → HoldsLast f start capacity answer m (s ∷ ss) (poured f start capacity m (s ∷ ss))
  last_held m s [] = record { front = []; last = s; whole = refl; state = refl; remaining = refl; total = ap (λ (n : ℕ). n % (2 ^ 64)) (omega arith) }
  last_held m s (x ∷ ss) =
      let k = written f (begun start capacity m) s in
      let h = last_held k x ss in
      record {
        front = s ∷ h.front;
        last = h.last;
        whole = ap (λ (l : List Bytes). s ∷ l) h.whole;
        state = h.state;
        remaining = h.remaining;
        total = h.total ∙ mod_more m.total (length s) (all_lengths (x ∷ ss));
      }
    where
      mod_more : (t a b : ℕ) → ((t + a) % (2 ^ 64) + b) % (2 ^ 64) ≡ (t + (a + b)) % (2 ^ 64)
      mod_more t a b = omega arith

  pub holds_last : {m after : Meaning} {n : ℕ} (s : Bytes) (ss : List Bytes) → PoursAll f start capacity answer m (s ∷ ss) n after → HoldsLast f start capacity answer m (s ∷ ss) after
  holds_last {m} s ss p = subst (HoldsLast f start capacity answer m (s ∷ ss)) (sym p.sink) (last_held m s ss)
