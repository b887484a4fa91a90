-- Strings that need no escape: their canonical rendering is their bytes.
use Rattle.std.proofs.Common.{◌≡◌, ℕ, Bool, true, false, cond, ◌||◌, eqb, ◌⊎◌, List, [], ◌∷◌, ◌++◌, codes, sym, refl, ap, subst, inl, inr}
use Rattle.std.proofs.ByRecursion.{All-append, all-has, All-weaker}
use Rattle.std.proofs.lemmas.Bool.{true≢false}
use Rattle.std.specs.List.{ContainsAt as Has, AllByRecursion}
use Rattle.aterm.specs.Grammar.{Char, plain, escaped, escape, raw, meaning}
use Rattle.store_path.specs.Names.{Name, Based, StorePath, name_bytes, digits_32}
use Rattle.derivation.specs.Questions.{Plain, Kind, md5, sha1, sha256, sha512, spelt, GivenAs, hex}
use Rattle.canonical.specs.Canonical.{Proper}

-- the bytes that the canonical text escapes
abbrev pub special : ℕ → Bool
special c = eqb c 34 || (eqb c 92 || (eqb c 10 || (eqb c 13 || eqb c 9)))

abbrev pub Clean : List ℕ → Type 0
Clean v = AllByRecursion (λ c. special c ≡ false) v

-- a table of bytes of which none is special, by a test of the whole
abbrev none_special : List ℕ → Bool
none_special [] = true
none_special (c ∷ cs) = cond (special c) false (none_special cs)

tested : (cs : List ℕ) → none_special cs ≡ true → Clean cs
tested [] t = tt
tested (c ∷ cs) t = step (special c) refl t (tested cs)
  where
    step : (b : Bool) → special c ≡ b → cond b false (none_special cs) ≡ true → (none_special cs ≡ true → Clean cs) → Clean (c ∷ cs)
    step true e u next = absurd (true≢false (sym u))
    step false e u next = (e, next u)

needless : (c : ℕ) → Proper (escaped c) → special (escape c) ≡ false → ⊥
needless c (inl e) z = true≢false (subst (λ (x : ℕ). special (escape x) ≡ false) e z)
needless c (inr (inl e)) z = true≢false (subst (λ (x : ℕ). special (escape x) ≡ false) e z)
needless c (inr (inr (inl e))) z = true≢false (subst (λ (x : ℕ). special (escape x) ≡ false) e z)
needless c (inr (inr (inr (inl e)))) z = true≢false (subst (λ (x : ℕ). special (escape x) ≡ false) e z)
needless c (inr (inr (inr (inr e)))) z = true≢false (subst (λ (x : ℕ). special (escape x) ≡ false) e z)

pub raw_clean : (cs : List Char) → AllByRecursion Proper cs → Clean (meaning cs) → raw cs ≡ meaning cs
raw_clean [] p c = refl
raw_clean (plain b o ∷ cs) p c = ap (λ (l : List ℕ). b ∷ l) (raw_clean cs p.1 c.1)
raw_clean (escaped b ∷ cs) p c = absurd (needless b p.0 c.0)

pub clean_plain : (s : List ℕ) → Clean s → Plain s
clean_plain s c h = true≢false (all-has (λ b. special b ≡ false) s 92 c h)

clean_from : (table s : List ℕ) → Clean table → AllByRecursion (Has table) s → Clean s
clean_from table s c a = All-weaker (Has table) (λ b. special b ≡ false) (λ b h. all-has (λ x. special x ≡ false) table b c h) s a

pub clean_name : (s : List ℕ) → Name s → Clean s
clean_name s n = clean_from name_bytes s (tested name_bytes refl) n.bytes

clean_based : (s : List ℕ) → Based s → Clean s
clean_based s b =
    subst Clean (sym b.whole) (All-append (λ c. special c ≡ false) b.digits (45 ∷ b.name) (clean_from digits_32 b.digits (tested digits_32 refl) b.each) (refl, clean_name b.name b.named))

pub clean_store : (s : List ℕ) → StorePath s → Clean s
clean_store s p =
    subst Clean (sym p.whole) (All-append (λ c. special c ≡ false) (codes "/nix/store/") p.rest (tested (codes "/nix/store/") refl) (clean_based p.rest p.based))

spelt_clean : (k : Kind) → Clean (spelt k)
spelt_clean md5 = tested (codes "md5") refl
spelt_clean sha1 = tested (codes "sha1") refl
spelt_clean sha256 = tested (codes "sha256") refl
spelt_clean sha512 = tested (codes "sha512") refl

pub clean_algorithm : (k : Kind) (a h : List ℕ) → GivenAs k a h → Clean a
clean_algorithm k a h g = way g.named
  where
    way : (a ≡ spelt k) ⊎ (a ≡ codes "r:" ++ spelt k) → Clean a
    way (inl e) = subst Clean (sym e) (spelt_clean k)
    way (inr e) = subst Clean (sym e) (All-append (λ c. special c ≡ false) (codes "r:") (spelt k) (tested (codes "r:") refl) (spelt_clean k))

pub clean_hash : (k : Kind) (a h : List ℕ) → GivenAs k a h → Clean h
clean_hash k a h g = clean_from hex h (tested hex refl) g.each
