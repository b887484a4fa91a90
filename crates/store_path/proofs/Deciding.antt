-- Of every string it is decided whether it is a name, a store path, or ends in `.drv`.
use Rattle.std.proofs.Common.{◌≡◌, ℕ, zero, suc, ◌-◌, ◌<◌, ◌≤◌, ◌⊎◌, List, [], ◌∷◌, ◌++◌, length, get_or, take, drop, codes, sym, ap, ◌∙◌, inl, inr, arith, length-append}
use Rattle.std.proofs.lemmas.Slice.Eq.{bytes_eq-Decides}
use Rattle.std.proofs.lemmas.List.Prefix.{front_rest}
use Rattle.std.proofs.lemmas.List.{take_at}
use Rattle.std.proofs.lemmas.Bool.{cases_eq, cases_lt, cases_Bool}
use Rattle.std.proofs.lemmas.Bool.Decides.{not_from_Decides}
use Rattle.std.specs.List.{ContainsAt as Has, AllByRecursion}
use Rattle.std.specs.Str.{bytes_eq}
use Rattle.store_path.specs.Names.{Name, Based, StorePath, Drv, name_bytes, digits_32}
use Rattle.store_path.proofs.Paths.{joined_from, based_long, based_hyphen, based_digits, based_name, store_rest}

-- it holds, or it does not
abbrev pub Known : Type 0 → Type 0
Known P = P ⊎ (P → ⊥)

pub both : {P Q : Type 0} → Known P → Known Q → Known (P × Q)
both (inl p) (inl q) = inl (p, q)
both (inl p) (inr q) = inr (λ x. q x.1)
both (inr p) q = inr (λ x. p x.0)

pub either : {P Q : Type 0} → Known P → Known Q → Known (P ⊎ Q)
either (inl p) q = inl (inl p)
either (inr n) (inl q) = inl (inr q)
either (inr n) (inr k) = inr (λ s. elim s [ inl p ↦ n p | inr q ↦ k q ])

pub like : {P Q : Type 0} → (P → Q) → (Q → P) → Known P → Known Q
like f g (inl p) = inl (f p)
like f g (inr n) = inr (λ q. n (g q))

pub no_longer : {P : Type 0} → Known P → Known (P → ⊥)
no_longer (inl p) = inr (λ n. n p)
no_longer (inr n) = inl n

pub at_most : (m n : ℕ) → Known (m ≤ n)
at_most m n = elim (cases_lt n m) [ inl h ↦ inr (λ k. omega arith) | inr h ↦ inl h ]

pub same_text : (a b : List ℕ) → Known (a ≡ b)
same_text a b =
    let d = bytes_eq-Decides a b in
    elim (cases_Bool (bytes_eq a b)) [ inl t ↦ inl (d.0 t) | inr f ↦ inr (not_from_Decides (bytes_eq a b) d f) ]

pub has : (xs : List ℕ) (x : ℕ) → Known (Has xs x)
has [] x = inr none
  where
    none : Has [] x → ⊥
    none (k, h, at) = omega arith
has (y ∷ ys) x =
    elim (cases_eq y x) [
      | inl e ↦ inl (0, omega arith, λ d. e)
      | inr n ↦ elim (has ys x) [ inl h ↦ inl (suc h.0, omega (arith, h.1), h.2) | inr m ↦ inr (λ h. nowhere y ys x n m h.0 h.1 h.2) ]
    ]
  where
    nowhere : (y : ℕ) (ys : List ℕ) (x : ℕ) → (y ≡ x → ⊥) → (Has ys x → ⊥) → (k : ℕ) → k < length (y ∷ ys) → ((d : ℕ) → get_or (y ∷ ys) k d ≡ x) → ⊥
    nowhere y ys x n m zero h at = n (at 0)
    nowhere y ys x n m (suc k) h at = m (k, omega arith, at)

pub all : {P : ℕ → Type 0} → ((x : ℕ) → Known (P x)) → (xs : List ℕ) → Known (AllByRecursion P xs)
all known [] = inl tt
all known (x ∷ xs) = both (known x) (all known xs)

pub name : (s : List ℕ) → Known (Name s)
name s =
    like (λ p. record { some = p.0; most = p.1.0; first = p.1.1.0; bytes = p.1.1.1 }) (λ n. (n.some, (n.most, (n.first, n.bytes))))
    (both (at_most 1 (length s)) (both (at_most (length s) 211) (both (no_longer (cases_eq (get_or s 0 0) 46)) (all (has name_bytes) s))))

based : (s : List ℕ) → Known (Based s)
based s =
    like
    (λ p. let j = joined_from s p.0 p.1.0 p.1.1.0 p.1.1.1 in record { digits = take 32 s; name = drop 33 s; whole = j.whole; long = j.long; each = j.each; named = j.named })
    (λ b. (based_long s b, (based_hyphen s b, (based_digits s b, based_name s b))))
    (both (at_most 33 (length s)) (both (cases_eq (get_or s 32 0) 45) (both (all (has digits_32) (take 32 s)) (name (drop 33 s)))))

pub full_store_path : (s : List ℕ) → Known (StorePath s)
full_store_path s =
    like
    (λ p. record { rest = drop 11 s; whole = p.0; based = p.1 })
    (λ p. (p.whole ∙ ap (λ l. codes "/nix/store/" ++ l) (sym (front_rest s (codes "/nix/store/") p.rest p.whole)), store_rest s p))
    (both (same_text s (codes "/nix/store/" ++ drop 11 s)) (based (drop 11 s)))

pub drv : (s : List ℕ) → Known (Drv s)
drv s =
    like (λ e. record { stem = take (length s - 4) s; whole = e }) (λ d. again d.stem d.whole)
    (same_text s (take (length s - 4) s ++ codes ".drv"))
  where
    again : (stem : List ℕ) → s ≡ stem ++ codes ".drv" → s ≡ take (length s - 4) s ++ codes ".drv"
    again stem e =
        let long : length stem ≡ length s - 4 = omega (arith, ap length e, length-append stem (codes ".drv")) in
        e ∙ ap (λ l. l ++ codes ".drv") (sym (ap (take (length s - 4)) e ∙ take_at stem (codes ".drv") (length s - 4) long))
