-- Rows that are changed one after the other, and the test whether a name is an output's.
use Rattle.std.proofs.Common.{◌≡◌, ℕ, ◌<◌, Bool, true, false, List, [], ◌∷◌, map, length, Ordering, Equal, Decides, sym, refl, ◌∙◌}
use Rattle.std.specs.Bool.{MatchBool}
use Rattle.std.specs.List.{AllWithin, AllZip, HoldsAt}
use Rattle.std.specs.Str.{bytes_eq}
use Rattle.std.proofs.lemmas.Bool.{false≢true}
use Rattle.std.proofs.lemmas.Bool.Decides.{Decides-by_or, same_from_decides}
use Rattle.std.proofs.lemmas.List.Folds.{none_from_all_within}
use Rattle.std.proofs.lemmas.Slice.Eq.{bytes_eq-Decides}
use Rattle.aterm.specs.declared.rows.Placed.{Placed}
use Rattle.canonical.specs.Files.{values}
use Rattle.canonical.specs.Kinds.{Value}
use Rattle.canonical.specs.Meanings.{an_output}
use Rattle.canonical.specs.Order.{Compared}
use Rattle.canonical.proofs.Orders.{compared_is}
use Rattle.hash_modulo.specs.Paths.{is_output}

-- rows that are changed one by one are those of the changed list
pub changed : {X Y : Type 0} (f : X → Y) (mask : Y → Y) {R : Placed X → Placed X → Type 0} → ((v w : Placed X) → R v w → f w.value ≡ mask (f v.value)) → (vs ws : List (Placed X)) → AllZip R vs ws
    → values f ws ≡ map mask (values f vs)
changed f mask each [] [] a = refl
changed f mask each [] (w ∷ ws) a = absurd a
changed f mask each (v ∷ vs) [] a = absurd a
changed f mask each (v ∷ vs) (w ∷ ws) a = let e = each v w a.0 in let r = changed f mask each vs ws a.1 in cc

-- whether some output has a name
module _ {X : Type 0} (f : X → Value an_output) (n : List ℕ) where
  abbrev named : X → Type 0
  named x = (f x).0 ≡ n

  found : (xs : List X) (r : Bool) → MatchBool r ((k : ℕ) × (k < length xs) × HoldsAt named xs k) (AllWithin (λ x. named x → ⊥) xs 0 (length xs)) → Decides r ((k : ℕ) × (k < length xs) × HoldsAt named xs k)
  found xs true m = (λ _. m, λ _. refl)
  found xs false m = (λ e. absurd (false≢true e), λ w. absurd (none_from_all_within named xs m w))

  pub named_any : (xs : List X) (r : Bool) → MatchBool r ((k : ℕ) × (k < length xs) × HoldsAt named xs k) (AllWithin (λ x. named x → ⊥) xs 0 (length xs)) → r ≡ is_output (map f xs) n
  named_any xs r m =
      same_from_decides r (is_output (map f xs) n) (found xs r m)
      (Decides-by_or (λ x. bytes_eq (f x).0 n) named (λ ys. is_output (map f ys) n) (λ x. bytes_eq-Decides (f x).0 n) refl (λ _ _. refl) xs)

-- two strings whose order is not `Equal` differ
pub not_equal : {a b : List ℕ} (o : Ordering) → Compared a b o → (o ≡ Equal → ⊥) → a ≡ b → ⊥
not_equal {a} {b} o c n e = n (compared_is a b o c ∙ sym (compared_is a b Equal e))
