-- A store path by its bytes.
use Rattle.std.proofs.Common.{◌≡◌, ℕ, ◌≤◌, Bool, List, [], ◌∷◌, ◌++◌, length, get_or, take, drop, is_some, Some, None, codes, Decides, Option, MatchOption, sym, refl, ap, ◌∙◌, subst, arith, length-append, take-append-drop, length-take-le, drop-cons}
use Rattle.std.specs.List.{ContainsAt as Has, AllByRecursion}
use Rattle.std.proofs.lemmas.Bool.{false≢true}
use Rattle.std.proofs.lemmas.List.{get_or_at, take_at, drop_at}
use Rattle.std.proofs.lemmas.List.Prefix.{front_rest}
use Rattle.store_path.specs.Names.{Name, Based, Joined, StorePath, Apart, digits_32}

pub joined_from : (s : List ℕ) → 33 ≤ length s → get_or s 32 0 ≡ 45 → AllByRecursion (Has digits_32) (take 32 s) → Name (drop 33 s) → Joined s (take 32 s) (drop 33 s)
joined_from s h e a n = record {
  whole = sym (take-append-drop 32 s) ∙ ap (λ l. take 32 s ++ l) (drop-cons s 32 0 (omega arith) ∙ ap (λ c. c ∷ drop 33 s) e);
  long = length-take-le 32 s (omega arith);
  each = a;
  named = n;
}

module _ (s : List ℕ) (b : Based s) where
  pub based_long : 33 ≤ length s
  based_long = let l = length-append b.digits (45 ∷ b.name) in omega (arith, ap length b.whole, b.long)

  pub based_hyphen : get_or s 32 0 ≡ 45
  based_hyphen = ap (λ l. get_or l 32 0) b.whole ∙ get_or_at b.digits 45 b.name 0 32 b.long

  pub based_tail : drop 32 s ≡ 45 ∷ drop 33 s
  based_tail = drop-cons s 32 0 (omega (arith, based_long)) ∙ ap (λ c. c ∷ drop 33 s) based_hyphen

  pub based_digits : AllByRecursion (Has digits_32) (take 32 s)
  based_digits = subst (AllByRecursion (Has digits_32)) (sym (ap (take 32) b.whole ∙ take_at b.digits (45 ∷ b.name) 32 b.long)) b.each

  pub based_name : Name (drop 33 s)
  based_name = subst Name (sym tail) b.named
    where
      tail : drop 33 s ≡ b.name
      tail = ap (drop 33) (b.whole ∙ joined b.digits b.name) ∙ drop_at (b.digits ++ 45 ∷ []) b.name 33 (let l = length-append b.digits (45 ∷ []) in omega (arith, b.long))
        where
          joined : (d n : List ℕ) → d ++ 45 ∷ n ≡ (d ++ 45 ∷ []) ++ n
          joined [] n = refl
          joined (x ∷ d) n = ap (λ l. x ∷ l) (joined d n)

pub store_rest : (s : List ℕ) (p : StorePath s) → Based (drop 11 s)
store_rest s p = subst Based (sym (front_rest s (codes "/nix/store/") p.rest p.whole)) p.based

store_apart : (s rest digits name : List ℕ) → s ≡ codes "/nix/store/" ++ rest → Joined rest digits name → Apart s digits name
store_apart s rest digits name e j = record {
  whole = e ∙ ap (λ l. codes "/nix/store/" ++ l) j.whole;
  long = j.long;
  each = j.each;
  named = j.named;
}

apart_store : (s digits name : List ℕ) → Apart s digits name → StorePath s
apart_store s digits name a = record {
  rest = digits ++ 45 ∷ name;
  whole = a.whole;
  based = record { digits = digits; name = name; whole = refl; long = a.long; each = a.each; named = a.named };
}

-- what is told of the rest is told of the path
module _ {X : Type 0} (s : List ℕ) (digits name : X → List ℕ) where
  pub apart_from : (rest : List ℕ) (o : Option X) → s ≡ codes "/nix/store/" ++ drop 11 s → rest ≡ drop 11 s
      → MatchOption o (Based rest → ⊥) (λ p. Joined rest (digits p) (name p)) → MatchOption o (StorePath s → ⊥) (λ p. Apart s (digits p) (name p))
  apart_from rest None front same told = λ p. told (subst Based (sym same) (store_rest s p))
  apart_from rest (Some p) front same told = store_apart s (drop 11 s) (digits p) (name p) front (subst (λ l. Joined l (digits p) (name p)) same told)

  pub some_decides : (o : Option X) (r : Bool) → r ≡ is_some o → MatchOption o (StorePath s → ⊥) (λ p. Apart s (digits p) (name p)) → Decides r (StorePath s)
  some_decides None r is told = (λ t. absurd (false≢true (sym is ∙ t)), λ p. absurd (told p))
  some_decides (Some p) r is told = (λ t. apart_store s (digits p) (name p) told, λ _. is)
