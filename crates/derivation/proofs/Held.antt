-- What a row that is held says of its tree.
use Rattle.std.proofs.Common.{◌≡◌, ◌≢◌, ℕ, ◌+◌, ◌-◌, ◌≤◌, Bool, true, false, cond, not, T, eqb, leb, ◌⊎◌, List, [], ◌∷◌, ◌++◌, length, drop, codes, is_some, Some, None, Option, Decides, sym, refl, ap, ◌∙◌, SomeIff, ◌<◌, subst, inl, inr, ⊎_elim, arith, length-append, length-drop, length-take}
use Rattle.std.proofs.lemmas.Bool.Decides.{Decides-eqb, Decides-not, Decides-at, Decides-like, leb_tells}
use Rattle.aterm.specs.Grammar.{Shape, Tree, Char}
use Rattle.aterm.specs.Reads.{Each, Spans}
use Rattle.aterm.specs.declared.rows.Placed.{Placed}
use Rattle.std.specs.Borrow.{Bor}
use Rattle.std.specs.Option.{MatchOption, option_map, unwrap_or}
use Rattle.std.proofs.lemmas.List.{append_cancel_left, nil_from_length}
use Rattle.std.specs.List.{ContainsAt as Has, AllByRecursion}
use Rattle.std.specs.Str.{bytes_eq}
use Rattle.std.proofs.lemmas.Bool.{false≢true, false_from_ne_true}
use Rattle.std.proofs.lemmas.Slice.Eq.{slice_eq-Decides, bytes_eq-Decides}
use Rattle.derivation.specs.Asked.{Throughout}
use Rattle.aterm.specs.Files.{output}
use Rattle.derivation.specs.Questions.{Kind, md5, sha1, sha256, sha512, spelt, digits, hex, Given, name_length, output_name, stem, FixedFile, hashed}
use Rattle.derivation.proofs.Scan.{each_length}

-- whether a list of bytes is empty
pub decides_empty : {X : Type 0} (xs : List X) (r : Bool) → r ≡ eqb (length xs) 0 → Decides r (xs ≡ [])
decides_empty xs r e = Decides-like r (nil_from_length xs) (ap length) (Decides-at r (eqb (length xs) 0) e (Decides-eqb (length xs) 0))

-- a string that was cut out is empty
pub cut_empty : (bytes s : List ℕ) → bytes ≡ s → (r : Bool) → r ≡ eqb (length bytes) 0 → Decides r (s ≡ [])
cut_empty bytes s e r q = decides_empty s r (q ∙ ap (λ l. eqb (length l) 0) e)

pub span_in_order : {t : List ℕ} {at i j : ℕ} {cs : List Char} → Spans t at i j cs → i ≤ j
span_in_order s = omega (arith, s.from, s.to)

pub held_empty : {V : Type 0} (s : Shape) (H : ℕ → V → Tree s → Type 0) (from : ℕ) (vs : List (Placed V)) (xs : List (Tree s)) → Each s H from vs xs → (r : Bool) → r ≡ eqb (length vs) 0 → Decides r (xs ≡ [])
held_empty s H from vs xs a r e =
    Decides-like r
    (λ p. nil_from_length xs (sym (each_length s H from vs xs a) ∙ p))
    (λ p. each_length s H from vs xs a ∙ ap length p)
    (Decides-at r (eqb (length vs) 0) e (Decides-eqb (length vs) 0))

pub decides_some : {V : Type 0} (s : Shape) (H : ℕ → V → Tree s → Type 0) (from : ℕ) (vs : List (Placed V)) (xs : List (Tree s)) → Each s H from vs xs → (r : Bool) → r ≡ eqb (length vs) 0 → Decides (not r) (xs ≡ [] → ⊥)
decides_some s H from vs xs a r e = Decides-not r (held_empty s H from vs xs a r e)

pub decides_is : (b : Bool) → Decides b (T b)
decides_is true = (λ _. tt, λ _. refl)
decides_is false = (λ e. absurd (false≢true e), λ t. absurd t)

pub decides_leb : (a b : ℕ) → Decides (leb a b) (a ≤ b)
decides_leb a b = ⊎_elim (λ p. (λ _. p.1, λ _. p.0)) (λ p. (λ t. absurd (false≢true (sym p.0 ∙ t)), λ h. absurd (omega (arith, p.1)))) (leb_tells a b)

-- the digits by the name, so two kinds of one name have as many
digits_by : List ℕ → ℕ
digits_by s = cond (bytes_eq s (codes "md5")) 32 (cond (bytes_eq s (codes "sha1")) 40 (cond (bytes_eq s (codes "sha256")) 64 128))

by_spelt : (k : Kind) → digits_by (spelt k) ≡ digits k
unfolding digits_by
by_spelt md5 = refl
by_spelt sha1 = refl
by_spelt sha256 = refl
by_spelt sha512 = refl

same_digits : (j k : Kind) → spelt j ≡ spelt k → digits j ≡ digits k
same_digits j k e = sym (by_spelt j) ∙ ap digits_by e ∙ by_spelt k

-- an algorithm's name, from what is left of it without the `r:` that may stand before it
spelt_from_bare : (a : Bor (List ℕ)) (o : Option (Bor (List ℕ))) → MatchOption o ((rest : List ℕ) → a.now ≢ codes "r:" ++ rest) (λ x. a.now ≡ codes "r:" ++ x.now)
    → (k : Kind) → (unwrap_or o a).now ≡ spelt k → (a.now ≡ spelt k) ⊎ (a.now ≡ codes "r:" ++ spelt k)
spelt_from_bare a None m k e = inl e
spelt_from_bare a (Some x) m k e = inr (m ∙ ap (λ l. codes "r:" ++ l) e)

abbrev first_byte : List ℕ → ℕ
first_byte [] = 0
first_byte (b ∷ bs) = b

unmarked : (k : Kind) (rest : List ℕ) → spelt k ≡ codes "r:" ++ rest → ⊥
unmarked md5 rest e = let z : ◌≡◌ {A = ℕ} 109 114 = ap first_byte e in omega arith
unmarked sha1 rest e = let z : ◌≡◌ {A = ℕ} 115 114 = ap first_byte e in omega arith
unmarked sha256 rest e = let z : ◌≡◌ {A = ℕ} 115 114 = ap first_byte e in omega arith
unmarked sha512 rest e = let z : ◌≡◌ {A = ℕ} 115 114 = ap first_byte e in omega arith

-- what is left without the `r:`, from the name
bare_from_spelt : (a : Bor (List ℕ)) (o : Option (Bor (List ℕ))) → MatchOption o ((rest : List ℕ) → a.now ≢ codes "r:" ++ rest) (λ x. a.now ≡ codes "r:" ++ x.now)
    → (k : Kind) → (a.now ≡ spelt k) ⊎ (a.now ≡ codes "r:" ++ spelt k) → (unwrap_or o a).now ≡ spelt k
bare_from_spelt a None m k (inl e) = e
bare_from_spelt a None m k (inr e) = absurd (m (spelt k) e)
bare_from_spelt a (Some x) m k (inl e) = absurd (unmarked k x.now (sym e ∙ m))
bare_from_spelt a (Some x) m k (inr e) = append_cancel_left (codes "r:") x.now (spelt k) (sym m ∙ e)

-- a hash of so many digits, where the algorithm is one of four
pub given_by : (a : Bor (List ℕ)) (o : Option (Bor (List ℕ))) → MatchOption o ((rest : List ℕ) → a.now ≢ codes "r:" ++ rest) (λ x. a.now ≡ codes "r:" ++ x.now)
    → (h bare : List ℕ) → (unwrap_or o a).now ≡ bare → (d : Option ℕ) → MatchOption d ((k : Kind) → bare ≢ spelt k) (λ n. (k : Kind) × (bare ≡ spelt k) × (n ≡ digits k))
    → (r : Bool) (P : ℕ → Type 0) → MatchOption d (r ≡ false) P → ((n : ℕ) → P n → Decides r ((length h ≡ n) × AllByRecursion (Has hex) h)) → Decides r (Given a.now h)
given_by a o m h bare b None none r P f g = (λ t. absurd (false≢true (sym f ∙ t)), λ y. absurd (none y.0 (sym b ∙ bare_from_spelt a o m y.0 y.1.named)))
given_by a o m h bare b (Some n) (k, e, w) r P f g = (
  λ t. let z = (g n f).0 t in (k, record { named = spelt_from_bare a o m k (b ∙ e); long = z.0 ∙ w; each = z.1 }),
  λ y. (g n f).1 (y.1.long ∙ same_digits y.0 k (sym (bare_from_spelt a o m y.0 y.1.named) ∙ b ∙ e) ∙ sym w, y.1.each),
)

-- what `==` says of the bytes of a name
pub called_out : (s out : List ℕ) → s ≡ out → (r : Bool) → r ≡ bytes_eq s (codes "out") → Decides r (out ≡ codes "out")
called_out s out e r m = subst (λ b. Decides r (b ≡ codes "out")) e (slice_eq-Decides Decides-eqb s (codes "out") r m)

pub name_out : (n : ℕ) (out : List ℕ) → out ≡ codes "out" → name_length n out ≡ n
name_out n out e = ap (λ b. cond b n (n + (1 + length out))) ((bytes_eq-Decides out (codes "out")).1 e)

pub name_other : (n : ℕ) (out : List ℕ) → (out ≡ codes "out" → ⊥) → name_length n out ≡ n + (1 + length out)
name_other n out ne = ap (λ b. cond b n (n + (1 + length out))) (false_from_ne_true (bytes_eq out (codes "out")) (λ t. ne ((bytes_eq-Decides out (codes "out")).0 t)))

pub flip : (a b : Bool) → a ≡ not b → b ≡ not a
flip a true e = sym (ap not e)
flip a false e = sym (ap not e)

pub is_some_map : {A B : Type 0} (f : A → B) (o : Option A) → is_some o ≡ is_some (option_map f o)
is_some_map f None = refl
is_some_map f (Some x) = refl

pub fixed_from : (xs : List (Tree output)) → (length xs ≡ 1) × Throughout (λ ys x. hashed x) [] xs → FixedFile xs
fixed_from [] p = absurd (omega (arith, p.0))
fixed_from (x ∷ []) p = record { only = x; whole = refl; given = p.1.0 }
fixed_from (x ∷ y ∷ xs) p = absurd (omega (arith, p.0))

pub fixed_to : (xs : List (Tree output)) → FixedFile xs → (length xs ≡ 1) × Throughout (λ ys x. hashed x) [] xs
fixed_to xs f = (ap length f.whole, subst (Throughout (λ ys x. hashed x) []) (sym f.whole) (f.given, tt))

same : (x o : Tree output) → ◌≡◌ {A = List (Tree output)} (x ∷ []) (o ∷ []) → o ≡ x
same x o e = cc

-- whether the only output is `out`, with a hash
pub fixed_only : {V : Type 0} (H : ℕ → V → Tree output → Type 0) (from : ℕ) (vs : List (Placed V)) (xs : List (Tree output)) → length vs < 2 → 1 ≤ length vs → Each output H from vs xs
    → (v : V) → ((p : Placed V) → vs ≡ p ∷ [] → v ≡ p.value) → (r : Bool) → ((at : ℕ) (x : Tree output) → H at v x → Decides r (hashed x)) → Decides r (FixedFile xs)
fixed_only H from [] xs l m a v w r d = absurd (omega arith)
fixed_only H from (p ∷ q ∷ vs) xs l m a v w r d = absurd (omega arith)
fixed_only H from (p ∷ []) [] l m a v w r d = absurd a
fixed_only H from (p ∷ []) (x ∷ y ∷ xs) l m a v w r d = absurd a.1
fixed_only H from (p ∷ []) (x ∷ []) l m a v w r d =
    Decides-like r (λ h. record { only = x; whole = refl; given = h }) (λ f. subst hashed (same x f.only f.whole) f.given)
    (d (from + 1) x (subst (λ u. H (from + 1) u x) (sym (w p refl)) a.0.1))

-- no only output, where the outputs are not one
pub not_fixed : {V : Type 0} (H : ℕ → V → Tree output → Type 0) (from : ℕ) (vs : List (Placed V)) (xs : List (Tree output)) → 2 ≤ length vs → Each output H from vs xs → FixedFile xs → ⊥
not_fixed H from vs xs l a f = let n = each_length output H from vs xs a in let m : length xs ≡ 1 = ap length f.whole in absurd (omega arith)

name_by : (b : Bool) (s out : List ℕ) (n : ℕ) → length s ≡ n → length (cond b s (s ++ 45 ∷ out)) ≡ cond b n (n + (1 + length out))
name_by true s out n e = e
name_by false s out n e = length-append s (45 ∷ out) ∙ omega arith

pub name_lengths : (path out : List ℕ) → length (output_name path out) ≡ name_length (length path - 48) out
name_lengths path out = name_by (bytes_eq out (codes "out")) (stem path) out (length path - 48) (let a = length-take (length path - 48) (drop 44 path) in let b = length-drop 44 path in omega arith)

-- a length that is taken from a bound, where it fits
pub under : (b m n : ℕ) (o : Option ℕ) → SomeIff o (m ≤ b) (b - m) → (r : Bool) (P : ℕ → Type 0) → MatchOption o (r ≡ false) P → ((k : ℕ) → P k → r ≡ leb n k) → Decides r (n + m ≤ b)
under b m n None i r P f g = (λ t. absurd (false≢true (sym f ∙ t)), λ y. absurd (i (omega arith)))
under b m n (Some k) i r P f g = Decides-like r (λ p. omega (arith, i.0, i.1)) (λ p. omega (arith, i.0, i.1)) (Decides-at r (leb n k) (g k f) (decides_leb n k))
