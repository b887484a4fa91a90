-- The name of an output, by whether it is `out`.
use Rattle.std.proofs.Common.{◌≡◌, ℕ, ◌-◌, ◌≤◌, min, Bool, cond, List, ◌∷◌, ◌++◌, length, take, drop, codes, sym, ap, ◌∙◌, arith}
use native.Mathlib.Decide.{dec_le}
use Rattle.std.specs.Str.{bytes_eq}
use Rattle.std.proofs.lemmas.Bool.{false_from_ne_true}
use Rattle.std.proofs.lemmas.Slice.Eq.{bytes_eq-Decides}
use Rattle.std.proofs.lemmas.List.{take_all, drop_all, length-drop}
use Rattle.derivation.specs.Questions.{stem, output_name}

pub name_out : (path out : List ℕ) → out ≡ codes "out" → stem path ≡ output_name path out
name_out path out e = sym (ap (λ (b : Bool). cond b (stem path) (stem path ++ 45 ∷ out)) ((bytes_eq-Decides out (codes "out")).1 e))

pub name_other : (path out : List ℕ) → (out ≡ codes "out" → ⊥) → stem path ++ 45 ∷ out ≡ output_name path out
name_other path out ne = sym (ap (λ (b : Bool). cond b (stem path) (stem path ++ 45 ∷ out)) (false_from_ne_true (bytes_eq out (codes "out")) (λ t. ne ((bytes_eq-Decides out (codes "out")).0 t))))

-- what follows the first n bytes, or nothing where there are not so many
pub after_front : (path : List ℕ) (n at : ℕ) → at ≡ min (length path) n → take (length path - at) (drop at path) ≡ drop n path
after_front path n at e = take_all (length path - at) (drop at path) (omega (arith, length-drop at path)) ∙ way (dec_le (length path) n)
  where
    way : Dec (length path ≤ n) → drop at path ≡ drop n path
    way (yes h) = drop_all at path (omega arith) ∙ sym (drop_all n path h)
    way (no h) = ap (λ (k : ℕ). drop k path) (omega arith)
