-- The canonical text of a lawful meaning is written by a tree that means it.
use Rattle.std.proofs.Common.{◌≡◌, ℕ, zero, suc, ◌≤◌, eqb, List, [], ◌∷◌, ◌++◌, map, length, sym, refl, ap, ◌∙◌, subst, inl, inr, ⊎_elim, append_assoc, arith, ne_eqb}
use Rattle.std.specs.List.{AllByRecursion, flat_map}
use Rattle.std.proofs.lemmas.List.{map-append}
use Rattle.std.proofs.lemmas.Bool.{cases_eq, cond-false}
use Rattle.canonical.specs.Strings.{escaped as spells}
use Rattle.aterm.specs.Grammar.{Sign, byte, end, signs, Char, plain, escaped, Tree, Trees, Within, WithinAll, Every, raw, meaning, opener, more, rows, write, writes}
use Rattle.aterm.specs.Files.{derivation, word, whole}
use Rattle.aterm.proofs.Once.{once_write}
use Rattle.aterm.proofs.Strings.{ordinary_from}
use Rattle.canonical.specs.Order.{Along}
use Rattle.canonical.specs.Kinds.{Kind, text, entry, ordered, rising, Kinds, one, also, shape, shapes, Value, Values, key, tree_key, Means, MeansAll, Lawful, AllLawful, comma, listing, canon, canons}
use Rattle.canonical.specs.Meanings.{a_derivation, Meaning, canonical}
use Rattle.canonical.specs.Laws.{Home}
use Rattle.canonical.specs.Canonical.{Proper, Canonical, AllCanonical, CanonicalText}
use Rattle.canonical.proofs.Exist.{means_key, rises_along}
use Rattle.canonical.proofs.Members.{same_refl}
use Rattle.canonical.proofs.Unique.{each_length}

abbrev Spelt : ℕ → Type 0
Spelt b = (c : Char) × ((raw (c ∷ []) ≡ spells b) × ((meaning (c ∷ []) ≡ b ∷ []) × Proper c))

pub spell_plain : (b : ℕ) → (b ≡ 34 → ⊥) → (b ≡ 92 → ⊥) → (b ≡ 10 → ⊥) → (b ≡ 13 → ⊥) → (b ≡ 9 → ⊥) → b ∷ [] ≡ spells b
spell_plain b p q r s t =
    sym (cond-false (eqb b 34) _ _ (ne_eqb b 34 p)
    ∙ cond-false (eqb b 92) _ _ (ne_eqb b 92 q)
    ∙ cond-false (eqb b 10) _ _ (ne_eqb b 10 r)
    ∙ cond-false (eqb b 13) _ _ (ne_eqb b 13 s)
    ∙ cond-false (eqb b 9) _ _ (ne_eqb b 9 t))

spell_byte : (b : ℕ) → Spelt b
spell_byte b =
    ⊎_elim (λ e. subst Spelt (sym e) (escaped 34, (refl, (refl, inl refl))))
    (λ p. ⊎_elim (λ e. subst Spelt (sym e) (escaped 92, (refl, (refl, inr (inl refl)))))
    (λ q. ⊎_elim (λ e. subst Spelt (sym e) (escaped 110, (refl, (refl, inr (inr (inl refl))))))
    (λ r. ⊎_elim (λ e. subst Spelt (sym e) (escaped 114, (refl, (refl, inr (inr (inr (inl refl)))))))
    (λ s. ⊎_elim (λ e. subst Spelt (sym e) (escaped 116, (refl, (refl, inr (inr (inr (inr refl)))))))
    (λ t. (plain b (ordinary_from b p q), (spell_plain b p q r s t, (refl, (r, (s, t))))))
    (cases_eq b 9)) (cases_eq b 13)) (cases_eq b 10)) (cases_eq b 92)) (cases_eq b 34)

raw_cons : (c : Char) (cs : List Char) → raw (c ∷ cs) ≡ raw (c ∷ []) ++ raw cs
raw_cons (plain c o) cs = refl
raw_cons (escaped c) cs = refl

meaning_cons : (c : Char) (cs : List Char) → meaning (c ∷ cs) ≡ meaning (c ∷ []) ++ meaning cs
meaning_cons (plain c o) cs = refl
meaning_cons (escaped c) cs = refl

pub spell : (v : List ℕ) → (cs : List Char) × ((raw cs ≡ flat_map spells v) × ((v ≡ meaning cs) × AllByRecursion Proper cs))
spell [] = ([], (refl, (refl, tt)))
spell (b ∷ v) =
    let c = spell_byte b in
    let s = spell v in (
      c.0 ∷ s.0,
      (
        raw_cons c.0 s.0 ∙ ap (λ (l : List ℕ). l ++ raw s.0) c.1.0 ∙ ap (λ (l : List ℕ). spells b ++ l) s.1.0,
        (
          sym (meaning_cons c.0 s.0 ∙ ap (λ (l : List ℕ). l ++ meaning s.0) c.1.1.0 ∙ ap (λ (l : List ℕ). b ∷ l) (sym s.1.1.0)),
          (c.1.1.1, s.1.1.1),
        ),
      ),
    )

pub record Homed (k : Kind) (v : Value k) : Type 0 where
  pub tree : Tree (shape k)
  pub written : byte (opener (shape k)) ∷ write (shape k) tree ≡ map byte (canon k v)
  pub within : Within (shape k) tree
  pub means : Means k tree v
  pub proper : Canonical k tree

record AllHomed (ks : Kinds) (v : Values ks) : Type 0 where
  pub trees : Trees (shapes ks)
  pub written : writes (shapes ks) trees ≡ map byte (canons ks v)
  pub within : WithinAll (shapes ks) trees
  pub means : MeansAll ks trees v
  pub proper : AllCanonical ks trees

-- the rows of a list from the second on, with room for n
record Later (k : Kind) (n : ℕ) (vs : List (Value k)) : Type 0 where
  pub trees : List (Tree (shape k))
  pub written : more (opener (shape k)) (write (shape k)) n trees ≡ map byte (flat_map (comma (canon k)) vs ++ (93 ∷ []))
  pub within : Every (Within (shape k)) trees
  pub means : Along (Means k) trees vs
  pub proper : AllByRecursion (Canonical k) trees

module _ (k : Kind) (home : (v : Value k) → Lawful k v → Homed k v) where
  later : (n : ℕ) (vs : List (Value k)) → length vs ≤ n → AllByRecursion (Lawful k) vs → Later k n vs
  later n [] h a = record { trees = []; written = refl; within = tt; means = tt; proper = tt }
  later zero (v ∷ vs) h a = absurd (omega arith)
  later (suc n) (v ∷ vs) h a =
      let x = home v a.0 in
      let r = later n vs (omega arith) a.1 in
      record {
        trees = x.tree ∷ r.trees;
        written =
            ap (λ (l : List Sign). byte 44 ∷ (l ++ more (opener (shape k)) (write (shape k)) n r.trees)) x.written
            ∙ ap (λ (l : List Sign). byte 44 ∷ (map byte (canon k v) ++ l)) r.written
            ∙ ap (λ (l : List Sign). byte 44 ∷ l) (sym (map-append byte (canon k v) (flat_map (comma (canon k)) vs ++ (93 ∷ []))))
            ∙ ap (λ (l : List ℕ). byte 44 ∷ map byte l) (sym (append_assoc (canon k v) (flat_map (comma (canon k)) vs) (93 ∷ [])));
        within = (x.within, r.within);
        means = (x.means, r.means);
        proper = (x.proper, r.proper);
      }

  record Lists (n : ℕ) (vs : List (Value k)) : Type 0 where
    pub trees : List (Tree (shape k))
    pub written : byte 91 ∷ rows (opener (shape k)) (write (shape k)) n trees ≡ map byte (listing (canon k) vs)
    pub within : Every (Within (shape k)) trees
    pub means : Along (Means k) trees vs
    pub proper : AllByRecursion (Canonical k) trees

  lists : (n : ℕ) (vs : List (Value k)) → length vs ≤ n → AllByRecursion (Lawful k) vs → Lists n vs
  lists n [] h a = record { trees = []; written = refl; within = tt; means = tt; proper = tt }
  lists zero (v ∷ vs) h a = absurd (omega arith)
  lists (suc n) (v ∷ vs) h a =
      let x = home v a.0 in
      let r = later n vs (omega arith) a.1 in
      record {
        trees = x.tree ∷ r.trees;
        written =
            ap (λ (l : List Sign). byte 91 ∷ (l ++ more (opener (shape k)) (write (shape k)) n r.trees)) x.written
            ∙ ap (λ (l : List Sign). byte 91 ∷ (map byte (canon k v) ++ l)) r.written
            ∙ ap (λ (l : List Sign). byte 91 ∷ l) (sym (map-append byte (canon k v) (flat_map (comma (canon k)) vs ++ (93 ∷ []))));
        within = (x.within, r.within);
        means = (x.means, r.means);
        proper = (x.proper, r.proper);
      }

mutual
  pub home : (k : Kind) (v : Value k) → Lawful k v → Homed k v
  home text v a =
      let s = spell v in
      record {
        tree = s.0;
        written = ap (λ (l : List ℕ). byte 34 ∷ (map byte l ++ (byte 34 ∷ []))) s.1.0 ∙ ap (λ (l : List Sign). byte 34 ∷ l) (sym (map-append byte (flat_map spells v) (34 ∷ [])));
        within = tt;
        means = s.1.1.0;
        proper = s.1.1.1;
      }
  home (entry ks) v a =
      let x = homes ks v a in
      record { tree = x.trees; written = ap (λ (l : List Sign). byte 40 ∷ l) x.written; within = x.within; means = x.means; proper = x.proper }
  home (ordered n k) v a =
      let x = lists k (home k) n v a.0 a.1 in
      let l = each_length (Means k) x.trees v x.means in
      record { tree = x.trees; written = x.written; within = (omega (arith, a.0), x.within); means = x.means; proper = x.proper }
  home (rising n k) v a =
      let x = lists k (home k) n v a.0 a.1.0 in
      let l = each_length (Means k) x.trees v x.means in
      record { tree = x.trees; written = x.written; within = (omega (arith, a.0), x.within); means = (v, (x.means, record { same = same_refl v; rises = a.1.1 })); proper = (rises_along (Means k) (tree_key k) (key k) (means_key k) x.trees v x.means a.1.1, x.proper) }

  homes : (ks : Kinds) (v : Values ks) → AllLawful ks v → AllHomed ks v
  homes (one k) v a =
      let x = home k v a in
      record {
        trees = x.tree;
        written = ap (λ (l : List Sign). l ++ (byte 41 ∷ [])) x.written ∙ sym (map-append byte (canon k v) (41 ∷ []));
        within = x.within;
        means = x.means;
        proper = x.proper;
      }
  homes (also k ks) v a =
      let x = home k v.0 a.0 in
      let r = homes ks v.1 a.1 in
      record {
        trees = (x.tree, r.trees);
        written =
            ap (λ (l : List Sign). l ++ (byte 44 ∷ writes (shapes ks) r.trees)) x.written
            ∙ ap (λ (l : List Sign). map byte (canon k v.0) ++ (byte 44 ∷ l)) r.written
            ∙ sym (map-append byte (canon k v.0) (44 ∷ canons ks v.1));
        within = (x.within, r.within);
        means = (x.means, r.means);
        proper = (x.proper, r.proper);
      }

pub signs_map : (bs : List ℕ) → signs bs ≡ map byte bs ++ (end ∷ [])
signs_map [] = refl
signs_map (b ∷ bs) = ap (λ (l : List Sign). byte b ∷ l) (signs_map bs)

pub whole_once : (x y : Tree derivation) → whole x ≡ whole y → x ≡ y
whole_once x y e = once_write derivation x y (end ∷ []) (end ∷ []) (cut_word _ _ e)
  where
    cut_word : (a b : List Sign) → (map byte word ++ a) ≡ (map byte word ++ b) → a ≡ b
    cut_word a b f = cc

home_written : (m : Meaning) (a : Lawful a_derivation m) → signs (canonical m) ≡ whole (home a_derivation m a).tree
home_written m a =
    signs_map (canonical m)
    ∙ ap (λ (l : List Sign). byte 68 ∷ byte 101 ∷ byte 114 ∷ byte 105 ∷ byte 118 ∷ byte 101 ∷ (l ++ (end ∷ []))) (sym (home a_derivation m a).written)

pub at_home : (m : Meaning) → Lawful a_derivation m → Home m
at_home m a =
    let x = home a_derivation m a in
    let w = home_written m a in
    record { tree = x.tree; written = w; within = x.within; means = x.means; only = λ u e. whole_once u x.tree (sym e ∙ w) }

pub has_one : (m : Meaning) → Lawful a_derivation m → CanonicalText (canonical m) m
has_one m a =
    let x = home a_derivation m a in
    record { tree = x.tree; written = home_written m a; within = x.within; proper = x.proper; means = x.means }
