-- No two values have one canonical text.
use Rattle.std.proofs.Common.{◌≡◌, ℕ, List, [], ◌∷◌, ◌++◌, sym, refl, ap, ◌∙◌, append_assoc, arith}
use Rattle.std.specs.List.{flat_map}
use Rattle.canonical.specs.Strings.{escaped as spells, quoted}
use Rattle.aterm.specs.Grammar.{Char, plain, escaped, escape, raw, meaning, opener}
use Rattle.aterm.proofs.Laws.{head_eq, tail_eq}
use Rattle.aterm.proofs.Free.{not_quote, not_slash, opener_close}
use Rattle.canonical.specs.Kinds.{Kind, text, entry, ordered, rising, Kinds, one, also, shape, Value, comma, listing, canon, canons}
use Rattle.canonical.specs.Meanings.{a_derivation, Meaning, canonical}
use Rattle.canonical.proofs.Home.{spell}

abbrev Alone : {V : Type 0} → (V → List ℕ) → Type 0
Alone {V} g = (a b : V) (r s : List ℕ) → g a ++ r ≡ g b ++ s → (a ≡ b) × (r ≡ s)

raw_alone : (cs ds : List Char) (r s : List ℕ) → raw cs ++ (34 ∷ r) ≡ raw ds ++ (34 ∷ s) → (meaning cs ≡ meaning ds) × (r ≡ s)
raw_alone [] [] r s e = (refl, tail_eq e)
raw_alone [] (plain d u ∷ ds) r s e = absurd (not_quote d u (sym (head_eq e)))
raw_alone [] (escaped d ∷ ds) r s e = absurd (let z : ◌≡◌ {A = ℕ} 34 92 = head_eq e in omega arith)
raw_alone (plain c o ∷ cs) [] r s e = absurd (not_quote c o (head_eq e))
raw_alone (plain c o ∷ cs) (plain d u ∷ ds) r s e =
    let h = raw_alone cs ds r s (tail_eq e) in
    let f : c ≡ d = head_eq e in
    let g = h.0 in
    (λ i. f i ∷ g i, h.1)
raw_alone (plain c o ∷ cs) (escaped d ∷ ds) r s e = absurd (not_slash c o (head_eq e))
raw_alone (escaped c ∷ cs) [] r s e = absurd (let z : ◌≡◌ {A = ℕ} 92 34 = head_eq e in omega arith)
raw_alone (escaped c ∷ cs) (plain d u ∷ ds) r s e = absurd (not_slash d u (sym (head_eq e)))
raw_alone (escaped c ∷ cs) (escaped d ∷ ds) r s e =
    let h = raw_alone cs ds r s (tail_eq (tail_eq e)) in
    let f : escape c ≡ escape d = ap escape (head_eq (tail_eq e)) in
    let g = h.0 in
    (λ i. f i ∷ g i, h.1)

text_alone : Alone quoted
text_alone a b r s e =
    let x = spell a in
    let y = spell b in
    let f : flat_map spells a ++ (34 ∷ r) ≡ flat_map spells b ++ (34 ∷ s) =
    sym (append_assoc (flat_map spells a) (34 ∷ []) r) ∙ tail_eq e ∙ append_assoc (flat_map spells b) (34 ∷ []) s in
    let h = raw_alone x.0 y.0 r s (ap (λ (l : List ℕ). l ++ (34 ∷ r)) x.1.0 ∙ f ∙ sym (ap (λ (l : List ℕ). l ++ (34 ∷ s)) y.1.0)) in
    (x.1.1.0 ∙ h.0 ∙ sym y.1.1.0, h.1)

one_more : {V : Type 0} {v w : V} {vs ws : List V} {r s : List ℕ} → v ≡ w → (vs ≡ ws) × (r ≡ s) → (v ∷ vs ≡ w ∷ ws) × (r ≡ s)
one_more e m = let l = m.0 in (λ i. e i ∷ l i, m.1)

module _ {V : Type 0} (g : V → List ℕ) (alone : Alone g) where
  later_alone : (vs ws : List V) (r s : List ℕ) → flat_map (comma g) vs ++ (93 ∷ r) ≡ flat_map (comma g) ws ++ (93 ∷ s) → (vs ≡ ws) × (r ≡ s)
  later_alone [] [] r s e = (refl, tail_eq e)
  later_alone [] (w ∷ ws) r s e = absurd (let z : ◌≡◌ {A = ℕ} 93 44 = head_eq e in omega arith)
  later_alone (v ∷ vs) [] r s e = absurd (let z : ◌≡◌ {A = ℕ} 44 93 = head_eq e in omega arith)
  later_alone (v ∷ vs) (w ∷ ws) r s e =
      let h = alone v w (flat_map (comma g) vs ++ (93 ∷ r)) (flat_map (comma g) ws ++ (93 ∷ s))
      (sym (append_assoc (g v) (flat_map (comma g) vs) (93 ∷ r)) ∙ tail_eq e ∙ append_assoc (g w) (flat_map (comma g) ws) (93 ∷ s)) in
      one_more h.0 (later_alone vs ws r s h.1)

  module _ (o : ℕ) (first : (v : V) → (q : List ℕ) × (g v ≡ o ∷ q)) (ne : o ≡ 93 → ⊥) where
    not_first : (v : V) (l r : List ℕ) → 93 ∷ r ≡ g v ++ l → ⊥
    not_first v l r e = ne (sym (head_eq (e ∙ ap (λ (x : List ℕ). x ++ l) (first v).1)))

    tidy : (v : V) (vs : List V) (r : List ℕ) → (g v ++ (flat_map (comma g) vs ++ (93 ∷ []))) ++ r ≡ g v ++ (flat_map (comma g) vs ++ (93 ∷ r))
    tidy v vs r = append_assoc (g v) (flat_map (comma g) vs ++ (93 ∷ [])) r ∙ ap (λ (l : List ℕ). g v ++ l) (append_assoc (flat_map (comma g) vs) (93 ∷ []) r)

    listing_alone : Alone (listing g)
    listing_alone [] [] r s e = (refl, tail_eq (tail_eq e))
    listing_alone [] (w ∷ ws) r s e = absurd (not_first w _ r (tail_eq e ∙ tidy w ws s))
    listing_alone (v ∷ vs) [] r s e = absurd (not_first v _ s (sym (tail_eq e) ∙ tidy v vs r))
    listing_alone (v ∷ vs) (w ∷ ws) r s e =
        let h = alone v w (flat_map (comma g) vs ++ (93 ∷ r)) (flat_map (comma g) ws ++ (93 ∷ s)) (sym (tidy v vs r) ∙ tail_eq e ∙ tidy w ws s) in
        one_more h.0 (later_alone vs ws r s h.1)

listing_first : {V : Type 0} (g : V → List ℕ) (vs : List V) → (q : List ℕ) × (listing g vs ≡ 91 ∷ q)
listing_first g [] = (93 ∷ [], refl)
listing_first g (v ∷ vs) = (g v ++ (flat_map (comma g) vs ++ (93 ∷ [])), refl)

canon_first : (k : Kind) (v : Value k) → (q : List ℕ) × (canon k v ≡ opener (shape k) ∷ q)
canon_first text v = (flat_map spells v ++ (34 ∷ []), refl)
canon_first (entry ks) v = (canons ks v, refl)
canon_first (ordered n k) v = listing_first (canon k) v
canon_first (rising n k) v = listing_first (canon k) v

mutual
  pub canon_alone : (k : Kind) → Alone (canon k)
  canon_alone text a b r s e = text_alone a b r s e
  canon_alone (entry ks) a b r s e = canons_alone ks a b r s (tail_eq e)
  canon_alone (ordered n k) a b r s e = listing_alone (canon k) (canon_alone k) (opener (shape k)) (canon_first k) (opener_close (shape k)) a b r s e
  canon_alone (rising n k) a b r s e = listing_alone (canon k) (canon_alone k) (opener (shape k)) (canon_first k) (opener_close (shape k)) a b r s e

  canons_alone : (ks : Kinds) → Alone (canons ks)
  canons_alone (one k) a b r s e =
      let h = canon_alone k a b (41 ∷ r) (41 ∷ s) (sym (append_assoc (canon k a) (41 ∷ []) r) ∙ e ∙ append_assoc (canon k b) (41 ∷ []) s) in
      (h.0, tail_eq h.1)
  canons_alone (also k ks) a b r s e =
      let h = canon_alone k a.0 b.0 (44 ∷ (canons ks a.1 ++ r)) (44 ∷ (canons ks b.1 ++ s))
      (sym (append_assoc (canon k a.0) (44 ∷ canons ks a.1) r) ∙ e ∙ append_assoc (canon k b.0) (44 ∷ canons ks b.1) s) in
      let m = canons_alone ks a.1 b.1 r s (tail_eq h.1) in
      let f = h.0 in
      let l = m.0 in
      (λ i. (f i, l i), m.1)

pub canonical_alone : (m n : Meaning) → canonical m ≡ canonical n → m ≡ n
canonical_alone m n e =
    (canon_alone a_derivation m n [] [] (ap (λ (l : List ℕ). l ++ []) (cut_word _ _ e))).0
  where
    cut_word : (a b : List ℕ) → (68 ∷ 101 ∷ 114 ∷ 105 ∷ 118 ∷ 101 ∷ a) ≡ (68 ∷ 101 ∷ 114 ∷ 105 ∷ 118 ∷ 101 ∷ b) → a ≡ b
    cut_word a b f = cc
