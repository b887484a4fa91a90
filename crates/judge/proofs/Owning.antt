-- A store path beside one with other digits and its own name.
use Rattle.std.proofs.Common.{◌≡◌, ℕ, Bool, List, [], ◌∷◌, ◌++◌, length, drop, codes, Some, None, MatchOption, Decides, Option, false, sym, ap, ◌∙◌, append_assoc, arith, length-append}
use Rattle.std.proofs.lemmas.List.{drop_at, append_cancel_left, append_cancel_right}
use Rattle.hash_modulo.specs.Paths.{file_name}
use Rattle.right_paths.specs.Worked.{full_store_path}
use Rattle.store_path.specs.Names.{Apart, StorePath}
use Rattle.store_path.specs.declared.names.Parts.{Parts}

name_apart : (path digits name : List ℕ) → Apart path digits name → file_name path ≡ name
name_apart path digits name a =
    let front = codes "/nix/store/" ++ (digits ++ (45 ∷ [])) in
    let regroup : codes "/nix/store/" ++ (digits ++ (45 ∷ name)) ≡ front ++ name = ap (λ (l : List ℕ). codes "/nix/store/" ++ l) (sym (append_assoc digits (45 ∷ []) name)) in
    let long : length front ≡ 44 = (let l = length-append digits (45 ∷ []) in let k = a.long in omega arith) in
    ap (drop 44) (a.whole ∙ regroup) ∙ drop_at front name 44 long

pub own_decided : (path digits name own : List ℕ) (r : Bool) → Apart path digits name → Decides r (digits ≡ own) → Decides r (path ≡ full_store_path own (file_name path))
own_decided path digits name own r a d =
    let e = name_apart path digits name a in (
      λ t. a.whole ∙ (λ i. full_store_path (d.0 t i) (sym e i)),
      λ q. d.1 (append_cancel_right digits own (45 ∷ name) (append_cancel_left (codes "/nix/store/") _ _ (sym a.whole ∙ q ∙ ap (full_store_path own) e))),
    )

-- the same of a path that is taken apart
pub own_taken : {Q : Parts → Type 0} (path own : List ℕ) (o : Option Parts) (r : Bool) → StorePath path → MatchOption o (StorePath path → ⊥) (λ p. Apart path p.digits.now p.name.now)
    → MatchOption o (r ≡ false) Q → ((p : Parts) → Q p → Decides r (p.digits.now ≡ own)) → Decides r (path ≡ full_store_path own (file_name path))
own_taken path own None r s a q decides = absurd (a s)
own_taken path own (Some p) r s a q decides = own_decided path p.digits.now p.name.now own r a (decides p q)
