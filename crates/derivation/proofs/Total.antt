-- Each question is decided of each entry, so every tree is judged.
use Rattle.std.proofs.Common.{◌≡◌, ℕ, ◌<◌, ◌⊎◌, List, [], ◌∷◌, ◌++◌, length, Some, None, codes, refl, ap, subst, inl, inr}
use Rattle.std.proofs.lemmas.Bool.{cases_eq}
use Rattle.aterm.specs.Grammar.{Tree, string, raw, meaning}
use Rattle.aterm.specs.Files.{output, input, derivation}
use Rattle.store_path.specs.Names.{StorePath}
use Rattle.store_path.proofs.Deciding.{Known, both, either, like, no_longer, at_most, same_text, has, all, name, full_store_path, drv}
use Rattle.derivation.specs.declared.spot.Spot.{Spot}
use Rattle.derivation.specs.declared.question.Question.{Question}
use Rattle.derivation.specs.declared.question.Question.TheVariants.{Present, Formed, Different, Fixed, Short}
use Rattle.derivation.specs.Asked.{First, Throughout}
use Rattle.derivation.specs.Questions.{Entry, all_outputs, output_row, input_row, source_row, variable_row, entries, present, Plain, formed_output, formed_name, formed_input, formed, fresh, different, Kind, md5, sha1, sha256, sha512, spelt, digits, hex, GivenAs, hashed, FixedFile, settled, output_name, short, Yes, number}
use Rattle.derivation.specs.Judgement.{Answer}
use Rattle.derivation.specs.Total.{EveryTree}
use Rattle.derivation.proofs.Judging.{below_13, below_14, below_15, below_16, below_17, every_question}

pub filled : {X : Type 0} (x : X) (xs : List X) → x ∷ xs ≡ [] → ⊥
filled x xs e = cc

empty : {X : Type 0} (xs : List X) → Known (xs ≡ [])
empty [] = inl refl
empty (x ∷ xs) = inr (filled x xs)

throughout : {X : Type 0} (Y : List X → X → Type 0) → ((ys : List X) (x : X) → Known (Y ys x)) → (ys xs : List X) → Known (Throughout Y ys xs)
throughout Y k ys [] = inl tt
throughout Y k ys (x ∷ xs) = both (k ys x) (throughout Y k (ys ++ x ∷ []) xs)

-- 13
known_present : (e : Entry) → Known (present e)
known_present (all_outputs os) = no_longer (empty os)
known_present (output_row e) = inl tt
known_present (input_row e) = no_longer (empty e.1.1)
known_present (source_row e) = inl tt
known_present (variable_row e) = inl tt

-- 14
plain : (s : List ℕ) → Known (Plain s)
plain s = no_longer (has s 92)

plain_name : (ys : List (Tree string)) (n : Tree string) → Known (formed_name ys n)
plain_name ys n = both (plain (raw n)) (name (raw n))

plain_path : (s : List ℕ) → Known (Plain s × StorePath s)
plain_path s = both (plain s) (full_store_path s)

known_output : (ys : List (Tree output)) (x : Tree output) → Known (formed_output ys x)
known_output ys x = both (both (plain_name [] x.0) (plain_path (raw x.1.0))) (both (plain (raw x.1.1.0)) (plain (raw x.1.1.1)))

known_input : (ys : List (Tree input)) (x : Tree input) → Known (formed_input ys x)
known_input ys x = both (both (plain_path (raw x.0)) (drv (raw x.0))) (throughout formed_name plain_name [] x.1)

known_formed : (e : Entry) → Known (formed e)
known_formed (all_outputs os) = inl tt
known_formed (output_row e) = known_output e.0 e.1
known_formed (input_row e) = known_input e.0 e.1
known_formed (source_row e) = plain_path (raw e.1)
known_formed (variable_row e) = inl tt

-- 15
known_fresh : {X : Type 0} (key : X → Tree string) (ys : List X) (x : X) → Known (fresh key ys x)
known_fresh key [] x = inl tt
known_fresh key (y ∷ ys) x = both (no_longer (same_text (meaning (key y)) (meaning (key x)))) (known_fresh key ys x)

known_different : (e : Entry) → Known (different e)
known_different (all_outputs os) = inl tt
known_different (output_row e) = known_fresh (λ y. y.0) e.0 e.1
known_different (input_row e) = both (known_fresh (λ y. y.0) e.0 e.1) (throughout (fresh (λ n. n)) (known_fresh (λ n. n)) [] e.1.1)
known_different (source_row e) = known_fresh (λ y. y) e.0 e.1
known_different (variable_row e) = known_fresh (λ y. y.0) e.0 e.1

-- 16
given_as : (a h : List ℕ) (k : Kind) → Known (GivenAs k a h)
given_as a h k =
    like (λ p. record { named = p.0; long = p.1.0; each = p.1.1 }) (λ g. (g.named, (g.long, g.each)))
    (both (either (same_text a (spelt k)) (same_text a (codes "r:" ++ spelt k))) (both (cases_eq (length h) (digits k)) (all (has hex) h)))

of_kind : {P : Kind → Type 0} → ((k : Kind) → Known (P k)) → Known ((k : Kind) × P k)
of_kind {P = P} known = like to back (either (known md5) (either (known sha1) (either (known sha256) (known sha512))))
  where
    to : P md5 ⊎ (P sha1 ⊎ (P sha256 ⊎ P sha512)) → (k : Kind) × P k
    to (inl p) = (md5, p)
    to (inr (inl p)) = (sha1, p)
    to (inr (inr (inl p))) = (sha256, p)
    to (inr (inr (inr p))) = (sha512, p)

    back : (k : Kind) × P k → P md5 ⊎ (P sha1 ⊎ (P sha256 ⊎ P sha512))
    back (md5, p) = inl p
    back (sha1, p) = inr (inl p)
    back (sha256, p) = inr (inr (inl p))
    back (sha512, p) = inr (inr (inr p))

known_hashed : (x : Tree output) → Known (hashed x)
known_hashed x = both (same_text (raw x.0) (codes "out")) (of_kind (given_as (raw x.1.1.0) (raw x.1.1.1)))

known_fixed : (os : List (Tree output)) → Known (FixedFile os)
known_fixed [] = inr (λ f. none f.only f.whole)
  where
    none : (o : Tree output) → ◌≡◌ {A = List (Tree output)} [] (o ∷ []) → ⊥
    none o e = cc
known_fixed (x ∷ []) = like (λ h. record { only = x; whole = refl; given = h }) (λ f. subst hashed (same f.only f.whole) f.given) (known_hashed x)
  where
    same : (o : Tree output) → ◌≡◌ {A = List (Tree output)} (x ∷ []) (o ∷ []) → o ≡ x
    same o e = cc
known_fixed (x ∷ y ∷ os) = inr (λ f. more f.only f.whole)
  where
    more : (o : Tree output) → ◌≡◌ {A = List (Tree output)} (x ∷ y ∷ os) (o ∷ []) → ⊥
    more o e = filled y os (let h : ◌≡◌ {A = List (Tree output)} (y ∷ os) [] = cc in h)

known_settled : (os : List (Tree output)) (e : Entry) → Known (settled os e)
known_settled os (all_outputs _) = inl tt
known_settled os (output_row e) = either (known_fixed os) (both (same_text (raw e.1.1.1.0) []) (same_text (raw e.1.1.1.1) []))
known_settled os (input_row e) = inl tt
known_settled os (source_row e) = inl tt
known_settled os (variable_row e) = inl tt

-- 17
known_short : (path : List ℕ) (e : Entry) → Known (short path e)
known_short path (all_outputs os) = inl tt
known_short path (output_row e) = at_most (length (output_name path (raw e.1.0))) 211
known_short path (input_row e) = inl tt
known_short path (source_row e) = inl tt
known_short path (variable_row e) = inl tt

known : (q : Question) (path : List ℕ) (os : List (Tree output)) (e : Entry) → Known (Yes q path os e)
known Present path os e = known_present e
known Formed path os e = known_formed e
known Different path os e = known_different e
known Fixed path os e = known_settled os e
known Short path os e = known_short path e

module _ {E : Type 0} (Y : E → Type 0) where
  -- a row before the others
  row_before : (r : Spot × E) (rows : List (Spot × E)) → Known (Y r.1) → First Y rows None ⊎ ((w : Spot) × First Y rows (Some w)) → First Y (r ∷ rows) None ⊎ ((w : Spot) × First Y (r ∷ rows) (Some w))
  row_before r rows (inr n) rest = inr (r.0, record { before = []; row = r.1; after = rows; whole = refl; clean = tt; refused = n })
  row_before r rows (inl y) (inl a) = inl (y, a)
  row_before r rows (inl y) (inr f) = inr (
    f.0,
    record {
      before = r ∷ f.1.before;
      row = f.1.row;
      after = f.1.after;
      whole = ap (λ l. r ∷ l) f.1.whole;
      clean = (y, f.1.clean);
      refused = f.1.refused;
    },
  )

  -- what is decided of each row has an answer
  pub first : ((e : E) → Known (Y e)) → (rows : List (Spot × E)) → First Y rows None ⊎ ((w : Spot) × First Y rows (Some w))
  first k [] = inl tt
  first k (r ∷ rows) = row_before r rows (k r.1) (first k rows)

module _ (path : List ℕ) (x : Tree derivation) where
  abbrev Clear : Question → Type 0
  Clear q = Answer path x q None

  abbrev Stops : Question → Type 0
  Stops q = (w : Spot) × Answer path x q (Some w)

  answered : (q : Question) → Clear q ⊎ Stops q
  answered q = first (Yes q path x.0) (known q path x.0) (entries x)

  in_order : Clear Present ⊎ Stops Present → Clear Formed ⊎ Stops Formed → Clear Different ⊎ Stops Different → Clear Fixed ⊎ Stops Fixed → Clear Short ⊎ Stops Short → ((q : Question) → Clear q) ⊎ ((q : Question) × (w : Spot) × ((p : Question) → number p < number q → Clear p) × Answer path x q (Some w))
  in_order (inr s) b c d e = inr (Present, s.0, below_13 Clear, s.1)
  in_order (inl a) (inr s) c d e = inr (Formed, s.0, below_14 Clear a, s.1)
  in_order (inl a) (inl b) (inr s) d e = inr (Different, s.0, below_15 Clear a b, s.1)
  in_order (inl a) (inl b) (inl c) (inr s) e = inr (Fixed, s.0, below_16 Clear a b c, s.1)
  in_order (inl a) (inl b) (inl c) (inl d) (inr s) = inr (Short, s.0, below_17 Clear a b c d, s.1)
  in_order (inl a) (inl b) (inl c) (inl d) (inl e) = inl (every_question Clear a b c d e)

pub every_tree : EveryTree
every_tree path x = in_order path x (answered path x Present) (answered path x Formed) (answered path x Different) (answered path x Fixed) (answered path x Short)
