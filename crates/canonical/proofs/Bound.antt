-- The canonical text is at most twice as long as any text of the same meaning.
use Rattle.std.proofs.Common.{◌≡◌, ℕ, pred, ◌+◌, ◌*◌, ◌≤◌, eqb, List, [], ◌∷◌, ◌++◌, map, length, refl, ap, arith, length-append}
use Rattle.std.specs.List.{flat_map}
use Rattle.std.proofs.lemmas.List.{length-map}
use Rattle.std.proofs.lemmas.Bool.{cond_both}
use Rattle.canonical.specs.Strings.{escaped as spells, quoted}
use Rattle.aterm.specs.Grammar.{Sign, byte, end, signs, Char, plain, escaped, escape, Tree, Trees, raw, meaning, opener, more, rows, write, writes}
use Rattle.aterm.specs.Files.{derivation, whole}
use Rattle.aterm.proofs.Laws.{length_signs}
use Rattle.canonical.specs.Order.{Along}
use Rattle.canonical.specs.Kinds.{Kind, text, entry, ordered, rising, Kinds, one, also, shape, shapes, Value, Values, key, Means, MeansAll, comma, listing, canon, canons}
use Rattle.canonical.specs.Meanings.{a_derivation, Meaning, canonical}
use Rattle.canonical.proofs.Members.{total, total_rising}

pub spells_short : (b : ℕ) → length (spells b) ≤ 2
spells_short b =
    let P : List ℕ → Type 0 = λ l. length l ≤ 2 in
    cond_both (eqb b 34) _ _ P (λ _. omega arith) (λ _.
    cond_both (eqb b 92) _ _ P (λ _. omega arith) (λ _.
    cond_both (eqb b 10) _ _ P (λ _. omega arith) (λ _.
    cond_both (eqb b 13) _ _ P (λ _. omega arith) (λ _.
    cond_both (eqb b 9) _ _ P (λ _. omega arith) (λ _. omega arith)))))

string_short : (cs : List Char) → length (flat_map spells (meaning cs)) ≤ 2 * length (raw cs)
string_short [] = omega arith
string_short (plain c o ∷ cs) = let h = string_short cs in let s = spells_short c in let l = length-append (spells c) (flat_map spells (meaning cs)) in omega arith
string_short (escaped c ∷ cs) = let h = string_short cs in let s = spells_short (escape c) in let l = length-append (spells (escape c)) (flat_map spells (meaning cs)) in omega arith

-- rows between brackets
module _ {V : Type 0} (g : V → List ℕ) where
  abbrev pub wide : V → ℕ
  wide v = length (g v) + 1

  pub joined_length : (vs : List V) → length (flat_map (comma g) vs) ≡ total wide vs
  joined_length [] = refl
  joined_length (v ∷ vs) = let h = joined_length vs in let l = length-append (comma g v) (flat_map (comma g) vs) in omega arith

  pub listing_length : (vs : List V) → length (listing g vs) ≤ 2 + total wide vs
  listing_length [] = omega arith
  listing_length (v ∷ vs) =
      let h = joined_length vs in
      let l = length-append (g v) (flat_map (comma g) vs ++ (93 ∷ [])) in
      let m = length-append (flat_map (comma g) vs) (93 ∷ []) in
      omega arith

module _ {V T : Type 0} (g : V → List ℕ) (w : T → List Sign) where
  abbrev row_in : T → ℕ
  row_in t = length (w t) + 2

  more_length : (o n : ℕ) (ts : List T) → length (more o w n ts) ≡ total row_in ts + 1
  more_length o n [] = refl
  more_length o n (t ∷ ts) = let h = more_length o (pred n) ts in let l = length-append (w t) (more o w (pred n) ts) in omega arith

  rows_length : (o n : ℕ) (ts : List T) → total row_in ts ≤ length (rows o w n ts)
  rows_length o n [] = omega arith
  rows_length o n (t ∷ ts) = let h = more_length o (pred n) ts in let l = length-append (w t) (more o w (pred n) ts) in omega arith

  rows_short : (M : T → V → Type 0) → ((t : T) (v : V) → M t v → length (g v) ≤ 2 * (length (w t) + 1)) → (ts : List T) (vs : List V) → Along M ts vs → total (wide g) vs ≤ 2 * total row_in ts
  rows_short M h [] [] p = omega arith
  rows_short M h [] (v ∷ vs) p = absurd p
  rows_short M h (t ∷ ts) [] p = absurd p
  rows_short M h (t ∷ ts) (v ∷ vs) p = let a = h t v p.0 in let b = rows_short M h ts vs p.1 in omega arith

mutual
  short : (k : Kind) (t : Tree (shape k)) (v : Value k) → Means k t v → length (canon k v) ≤ 2 * (length (write (shape k) t) + 1)
  short text t v p =
      let h = string_short t in
      let e : length (quoted v) ≡ length (quoted (meaning t)) = ap (λ (l : List ℕ). length (quoted l)) p in
      let a = length-append (flat_map spells (meaning t)) (34 ∷ []) in
      let b = length-append (map byte (raw t)) (byte 34 ∷ []) in
      let c = length-map (raw t) byte in
      omega arith
  short (entry ks) t v p = let h = short_all ks t v p in omega arith
  short (ordered n k) t v p =
      let a = listing_length (canon k) v in
      let b = rows_short (canon k) (write (shape k)) (Means k) (short k) t v p in
      let c = rows_length (canon k) (write (shape k)) (opener (shape k)) n t in
      omega arith
  short (rising n k) t v p =
      let a = listing_length (canon k) v in
      let b = rows_short (canon k) (write (shape k)) (Means k) (short k) t p.0 p.1.0 in
      let c = rows_length (canon k) (write (shape k)) (opener (shape k)) n t in
      let d = total_rising (key k) (wide (canon k)) v p.0 p.1.1.rises p.1.1.same.back in
      omega arith

  short_all : (ks : Kinds) (t : Trees (shapes ks)) (v : Values ks) → MeansAll ks t v → length (canons ks v) + 1 ≤ 2 * length (writes (shapes ks) t)
  short_all (one k) t v p =
      let h = short k t v p in
      let a = length-append (canon k v) (41 ∷ []) in
      let b = length-append (write (shape k) t) (byte 41 ∷ []) in
      omega arith
  short_all (also k ks) t v p =
      let h = short k t.0 v.0 p.0 in
      let m = short_all ks t.1 v.1 p.1 in
      let a = length-append (canon k v.0) (44 ∷ canons ks v.1) in
      let b = length-append (write (shape k) t.0) (byte 44 ∷ writes (shapes ks) t.1) in
      omega arith

pub bounded : (bytes : List ℕ) (t : Tree derivation) (m : Meaning) → signs bytes ≡ whole t → Means a_derivation t m → length (canonical m) ≤ 2 * length bytes
bounded bytes t m e p =
    let a = short a_derivation t m p in
    let b = length_signs bytes in
    let c : length (signs bytes) ≡ length (whole t) = ap length e in
    let d = length-append (write derivation t) (end ∷ []) in
    omega arith
