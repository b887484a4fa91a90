-- The meaning of a derivation, and its canonical text.
-- Source: E. Dolstra, The Purely Functional Software Deployment Model (2006), section 5.4; the Nix manual, "Derivations".
use Rattle.std.specs.Prelude.{ℕ, List, ◌∷◌}
use Rattle.canonical.specs.Kinds.{Kind, text, entry, ordered, rising, one, also, Value, canon}

-- name; path, algorithm, hash
abbrev pub an_output : Kind
an_output = entry (also text (also text (also text (one text))))

-- path; set of names
abbrev pub an_input : Kind
an_input = entry (also text (one (rising 16 text)))

-- name; value
abbrev pub a_variable : Kind
a_variable = entry (also text (one text))

-- outputs, inputs, set of sources, system, builder, arguments, environment
abbrev pub a_file : Kind → Kind → Kind → Kind
a_file outputs inputs environment = entry (also outputs (also inputs (also (rising 64 text) (also text (also text (also (ordered 64 text) (one environment)))))))

-- outputs by name, inputs by path, environment by name
abbrev pub a_derivation : Kind
a_derivation = a_file (rising 16 an_output) (rising 64 an_input) (rising 128 a_variable)

abbrev pub Meaning : Type 0
Meaning = Value a_derivation

-- `Derive` and the rows
abbrev pub derive : (k : Kind) → Value k → List ℕ
derive k v = 68 ∷ 101 ∷ 114 ∷ 105 ∷ 118 ∷ 101 ∷ canon k v

abbrev pub canonical : Meaning → List ℕ
canonical m = derive a_derivation m
