-- The strings of store paths, from the parts in which they are written.
use Rattle.std.proofs.Common.{◌≡◌, ℕ, List, [], ◌∷◌, ◌++◌, codes, ap, ◌∙◌, append_assoc}
use Rattle.canonical.specs.Kinds.{Value}
use Rattle.canonical.specs.Meanings.{an_output}
use Rattle.hash_modulo.specs.Hashes.{fixed_string}
use Rattle.hash_modulo.specs.Paths.{path_string, inner_string}

-- a type, the part with the hash, a name
pub three_parts : (type hash name : List ℕ) → type ++ ((codes ":sha256:" ++ (hash ++ codes ":/nix/store:")) ++ name) ≡ path_string type hash name
three_parts type hash name =
    ap (λ (v : List ℕ). type ++ v) (append_assoc (codes ":sha256:") (hash ++ codes ":/nix/store:") name ∙ ap (λ (v : List ℕ). codes ":sha256:" ++ v) (append_assoc hash (codes ":/nix/store:") name))

pub inner_and_path : (o : Value an_output) → inner_string o ++ o.1.0 ≡ fixed_string o
inner_and_path o =
    append_assoc (codes "fixed:out:") (o.1.1.0 ++ (58 ∷ (o.1.1.1 ++ (58 ∷ [])))) o.1.0
    ∙ ap (λ (v : List ℕ). codes "fixed:out:" ++ v) (append_assoc o.1.1.0 (58 ∷ (o.1.1.1 ++ (58 ∷ []))) o.1.0)
    ∙ ap (λ (v : List ℕ). codes "fixed:out:" ++ (o.1.1.0 ++ (58 ∷ v))) (append_assoc o.1.1.1 (58 ∷ []) o.1.0)
