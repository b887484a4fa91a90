-- The references of a file: the paths of its inputs and its sources, rising, each once.
-- Source: this project's own rule (docs/FORMATS.md, "Right paths").
use Rattle.std.specs.Prelude.{ℕ, true, false, List, [], ◌∷◌, map}
use Rattle.aterm.specs.declared.file.Input.{Input}
use Rattle.aterm.specs.declared.part.Span.{Span}
use Rattle.aterm.specs.declared.rows.Placed.{Placed}
use Rattle.canonical.specs.Files.{said_in, values, input_value}
use Rattle.canonical.specs.Meanings.{Meaning}
use Rattle.hash_rows.specs.Order.{before}
use Rattle.hash_modulo.specs.Sets.{Bytes, Row}
use Rattle.right_paths.specs.declared.references.References.{References}

-- x among the paths ys, where `rest` merges the paths after x with what is left of ys
abbrev pub among : Bytes → (List Bytes → List Bytes) → List Bytes → List Bytes
among x rest [] = x ∷ rest []
among x rest (y ∷ ys) = elim (before x y) [
  | true ↦ x ∷ rest (y ∷ ys)
  | false ↦ elim (before y x) [ true ↦ y ∷ among x rest ys | false ↦ x ∷ rest ys ]
]

-- two rising lists of paths as one; a path of both once
abbrev pub merged : List Bytes → List Bytes → List Bytes
merged [] ys = ys
merged (x ∷ xs) ys = among x (merged xs) ys

abbrev pub references_of : Meaning → List Bytes
references_of m = merged (map (λ (r : Row). r.0) m.1.0) m.1.1.0

-- the references in some rows of inputs and of sources
abbrev pub references_in : List ℕ → List (Placed Input) → List (Placed Span) → List Bytes
references_in t inputs sources = merged (map (λ (r : Row). r.0) (values (input_value t) inputs)) (values (said_in t) sources)

-- those that are still to come
abbrev pub references_left : References → List Bytes
references_left r = references_in r.text.now r.inputs.now r.sources.now
