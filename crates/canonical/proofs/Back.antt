-- A text that is canonical is written back byte for byte.
use Rattle.std.proofs.Common.{◌≡◌, ℕ, zero, suc, ◌≤◌, ◌⊎◌, List, [], ◌∷◌, ◌++◌, map, length, sym, refl, ap, ◌∙◌, subst, inl, inr, append_assoc, arith}
use Rattle.std.specs.List.{AllByRecursion, flat_map}
use Rattle.std.proofs.lemmas.List.{map-append}
use Rattle.aterm.proofs.Laws.{tail_eq}
use Rattle.aterm.specs.Grammar.{Sign, byte, end, signs, Char, plain, escaped, escape, Tree, Trees, Within, WithinAll, Every, raw, meaning, opener, more, rows, write, writes}
use Rattle.aterm.specs.Files.{derivation, word, whole}
use Rattle.aterm.proofs.Free.{not_quote, not_slash, head_byte}
use Rattle.aterm.proofs.Limits.{Clear, clear_signs, clear_left, clear_right, within}
use Rattle.canonical.specs.Strings.{escaped as spells, quoted}
use Rattle.canonical.specs.Order.{Along}
use Rattle.canonical.specs.Kinds.{Kind, text, entry, ordered, rising, Kinds, one, also, shape, shapes, Value, Values, key, tree_key, Means, MeansAll, comma, listing, canon, canons}
use Rattle.canonical.specs.Meanings.{a_derivation, Meaning, canonical}
use Rattle.canonical.specs.Canonical.{Proper, Canonical, AllCanonical}
use Rattle.canonical.proofs.Exist.{means_key, along_rises}
use Rattle.canonical.proofs.Members.{one_rising}
use Rattle.canonical.proofs.Home.{spell_plain, signs_map}

abbrev Slashed : ℕ → Type 0
Slashed n = 92 ∷ n ∷ [] ≡ spells (escape n)

spell_escaped : (c : ℕ) → (c ≡ 34) ⊎ ((c ≡ 92) ⊎ ((c ≡ 110) ⊎ ((c ≡ 114) ⊎ (c ≡ 116)))) → 92 ∷ c ∷ [] ≡ spells (escape c)
spell_escaped c (inl e) = subst Slashed (sym e) refl
spell_escaped c (inr (inl e)) = subst Slashed (sym e) refl
spell_escaped c (inr (inr (inl e))) = subst Slashed (sym e) refl
spell_escaped c (inr (inr (inr (inl e)))) = subst Slashed (sym e) refl
spell_escaped c (inr (inr (inr (inr e)))) = subst Slashed (sym e) refl

pub not_proper : (c : ℕ) → c ≡ 97 → (c ≡ 34) ⊎ ((c ≡ 92) ⊎ ((c ≡ 110) ⊎ ((c ≡ 114) ⊎ (c ≡ 116)))) → ⊥
not_proper c h (inl e) = omega arith
not_proper c h (inr (inl e)) = omega arith
not_proper c h (inr (inr (inl e))) = omega arith
not_proper c h (inr (inr (inr (inl e)))) = omega arith
not_proper c h (inr (inr (inr (inr e)))) = omega arith

string_back : (cs : List Char) → AllByRecursion Proper cs → raw cs ≡ flat_map spells (meaning cs)
string_back [] a = refl
string_back (plain c o ∷ cs) a =
    ap (λ (l : List ℕ). l ++ raw cs) (spell_plain c (not_quote c o) (not_slash c o) a.0.0 a.0.1.0 a.0.1.1)
    ∙ ap (λ (l : List ℕ). spells c ++ l) (string_back cs a.1)
string_back (escaped c ∷ cs) a =
    ap (λ (l : List ℕ). l ++ raw cs) (spell_escaped c a.0)
    ∙ ap (λ (l : List ℕ). spells (escape c) ++ l) (string_back cs a.1)

abbrev Back : (k : Kind) → Type 0
Back k = (t : Tree (shape k)) (v : Value k) → Canonical k t → Within (shape k) t → Means k t v → byte (opener (shape k)) ∷ write (shape k) t ≡ map byte (canon k v)

module _ (k : Kind) (back : Back k) where
  later_back : (n : ℕ) (ts : List (Tree (shape k))) (vs : List (Value k)) → length ts ≤ n → AllByRecursion (Canonical k) ts → Every (Within (shape k)) ts → Along (Means k) ts vs
      → more (opener (shape k)) (write (shape k)) n ts ≡ map byte (flat_map (comma (canon k)) vs ++ (93 ∷ []))
  later_back n [] [] h c w m = refl
  later_back n [] (v ∷ vs) h c w m = absurd m
  later_back n (t ∷ ts) [] h c w m = absurd m
  later_back zero (t ∷ ts) (v ∷ vs) h c w m = absurd (omega arith)
  later_back (suc n) (t ∷ ts) (v ∷ vs) h c w m =
      ap (λ (l : List Sign). byte 44 ∷ (l ++ more (opener (shape k)) (write (shape k)) n ts)) (back t v c.0 w.0 m.0)
      ∙ ap (λ (l : List Sign). byte 44 ∷ (map byte (canon k v) ++ l)) (later_back n ts vs (omega arith) c.1 w.1 m.1)
      ∙ ap (λ (l : List Sign). byte 44 ∷ l) (sym (map-append byte (canon k v) (flat_map (comma (canon k)) vs ++ (93 ∷ []))))
      ∙ ap (λ (l : List ℕ). byte 44 ∷ map byte l) (sym (append_assoc (canon k v) (flat_map (comma (canon k)) vs) (93 ∷ [])))

  list_back : (n : ℕ) (ts : List (Tree (shape k))) (vs : List (Value k)) → length ts ≤ n → AllByRecursion (Canonical k) ts → Every (Within (shape k)) ts → Along (Means k) ts vs
      → byte 91 ∷ rows (opener (shape k)) (write (shape k)) n ts ≡ map byte (listing (canon k) vs)
  list_back n [] [] h c w m = refl
  list_back n [] (v ∷ vs) h c w m = absurd m
  list_back n (t ∷ ts) [] h c w m = absurd m
  list_back zero (t ∷ ts) (v ∷ vs) h c w m = absurd (omega arith)
  list_back (suc n) (t ∷ ts) (v ∷ vs) h c w m =
      ap (λ (l : List Sign). byte 91 ∷ (l ++ more (opener (shape k)) (write (shape k)) n ts)) (back t v c.0 w.0 m.0)
      ∙ ap (λ (l : List Sign). byte 91 ∷ (map byte (canon k v) ++ l)) (later_back n ts vs (omega arith) c.1 w.1 m.1)
      ∙ ap (λ (l : List Sign). byte 91 ∷ l) (sym (map-append byte (canon k v) (flat_map (comma (canon k)) vs ++ (93 ∷ []))))

mutual
  back : (k : Kind) → Back k
  back text t v c w m =
      ap (λ (l : List ℕ). byte 34 ∷ (map byte l ++ (byte 34 ∷ []))) (string_back t c)
      ∙ ap (λ (l : List Sign). byte 34 ∷ l) (sym (map-append byte (flat_map spells (meaning t)) (34 ∷ [])))
      ∙ ap (λ (l : List ℕ). map byte (quoted l)) (sym m)
  back (entry ks) t v c w m = ap (λ (l : List Sign). byte 40 ∷ l) (backs ks t v c w m)
  back (ordered n k) t v c w m = list_back k (back k) n t v w.0 c w.1 m
  back (rising n k) t v c w m =
      let e = one_rising (key k) m.0 v (along_rises (Means k) (tree_key k) (key k) (means_key k) t m.0 m.1.0 c.0) m.1.1.rises m.1.1.same in
      list_back k (back k) n t v w.0 c.1 w.1 (subst (λ (l : List (Value k)). Along (Means k) t l) e m.1.0)

  backs : (ks : Kinds) (t : Trees (shapes ks)) (v : Values ks) → AllCanonical ks t → WithinAll (shapes ks) t → MeansAll ks t v → writes (shapes ks) t ≡ map byte (canons ks v)
  backs (one k) t v c w m = ap (λ (l : List Sign). l ++ (byte 41 ∷ [])) (back k t v c w m) ∙ sym (map-append byte (canon k v) (41 ∷ []))
  backs (also k ks) t v c w m =
      ap (λ (l : List Sign). l ++ (byte 44 ∷ writes (shapes ks) t.1)) (back k t.0 v.0 c.0 w.0 m.0)
      ∙ ap (λ (l : List Sign). map byte (canon k v.0) ++ (byte 44 ∷ l)) (backs ks t.1 v.1 c.1 w.1 m.1)
      ∙ sym (map-append byte (canon k v.0) (44 ∷ canons ks v.1))

pub signs_once : (a b : List ℕ) → signs a ≡ signs b → a ≡ b
signs_once [] [] e = refl
signs_once [] (y ∷ b) e = absurd cc
signs_once (x ∷ a) [] e = absurd cc
signs_once (x ∷ a) (y ∷ b) e =
    let h : x ≡ y = head_byte e in
    let r = signs_once a b (tail_eq e) in
    λ i. h i ∷ r i

pub keeps_limits : (bytes : List ℕ) (t : Tree derivation) → signs bytes ≡ whole t → Within derivation t
keeps_limits bytes t e = within derivation t (clear_left (write derivation t) (end ∷ []) (clear_right (map byte word) (write derivation t ++ end ∷ []) (subst Clear e (clear_signs bytes))))

pub written_back : (bytes : List ℕ) (t : Tree derivation) (m : Meaning) → signs bytes ≡ whole t → Canonical a_derivation t → Means a_derivation t m → bytes ≡ canonical m
written_back bytes t m e c p =
    let b = back a_derivation t m c (keeps_limits bytes t e) p in
    signs_once bytes (canonical m)
    (e ∙ sym (signs_map (canonical m) ∙ ap (λ (l : List Sign). byte 68 ∷ byte 101 ∷ byte 114 ∷ byte 105 ∷ byte 118 ∷ byte 101 ∷ (l ++ (end ∷ []))) (sym b)))
