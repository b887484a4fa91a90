-- A question that is put to rows in their order, and the first row of which the answer is no.
-- Source: this project's own rule (docs/CALLS.md).
use Rattle.std.specs.Prelude.{◌≡◌, ℕ, ◌+◌, Bool, List, [], ◌∷◌, ◌++◌, length, Some, None, Decides, Option, option_map}
use Rattle.std.specs.Borrow.{Bor}
use Rattle.std.specs.List.{AllByRecursion}
use Rattle.aterm.specs.declared.part.Span.{Span}
use Rattle.aterm.specs.declared.file.Output.{Output}
use Rattle.aterm.specs.declared.file.Input.{Input}
use Rattle.aterm.specs.Grammar.{Shape, string, Tree}
use Rattle.aterm.specs.Files.{output, input, in_output, in_input, span}
use Rattle.aterm.specs.Reads.{Each, past}
use Rattle.aterm.specs.declared.rows.Placed.{Placed}
use Rattle.derivation.specs.declared.field.Field.{Field}
use Rattle.derivation.specs.declared.field.Field.TheVariants.{Outputs, Inputs, Sources, Environment}
use Rattle.derivation.specs.declared.spot.Spot.{Spot}

-- the number of a field in which rows stand
abbrev pub field_number : Field → ℕ
field_number Outputs = 1
field_number Inputs = 2
field_number Sources = 3
field_number Environment = 7

-- the shape of rows, and what a row holds of a text
pub record Holding (V : Type 0) : Type 1 where
  pub shape : Shape
  pub holds : List ℕ → ℕ → V → Tree shape → Type 0

abbrev pub of_outputs : Holding Output
of_outputs = record { shape = output; holds = in_output }

abbrev pub of_inputs : Holding Input
of_inputs = record { shape = input; holds = in_input }

abbrev pub of_strings : Holding Span
of_strings = record { shape = string; holds = λ text at v cs. span text v at cs }

-- Of the rows, each with where it stands, the first of which the answer is no stands at `w`.
pub record FirstNo {E : Type 0} (Yes : E → Type 0) (rows : List (Spot × E)) (w : Spot) : Type 0 where
  pub before : List (Spot × E)
  pub row : E
  pub after : List (Spot × E)
  pub whole : rows ≡ before ++ (w, row) ∷ after
  pub clean : AllByRecursion (λ e. Yes e.1) before
  pub refused : Yes row → ⊥

-- the answer is yes of every row, or `w` is where the first no is
abbrev pub First : {E : Type 0} → (E → Type 0) → List (Spot × E) → Option Spot → Type 0
First Yes rows None = AllByRecursion (λ e. Yes e.1) rows
First Yes rows (Some w) = FirstNo Yes rows w

module _ (s : Shape) (field : Field) where
  -- the rows of a list, the first of which begins at `at`: each with where it stands, and with the rows before it
  abbrev pub rows_at : ℕ → List (Tree s) → List (Tree s) → List (Spot × (List (Tree s) × Tree s))
  rows_at at earlier [] = []
  rows_at at earlier (x ∷ xs) = (record { field = field_number field; row = length earlier + 1; place = at }, (earlier, x)) ∷ rows_at (past s at x) (earlier ++ x ∷ []) xs

module _ {V : Type 0} (s : Shape) (H : ℕ → V → Tree s → Type 0) where
  -- r says whether the answer is yes of the row v, after the rows vs
  abbrev pub Says : (List (Tree s) → Tree s → Type 0) → List (Placed V) → V → Bool → Type 0
  Says Yes vs v r = (from : ℕ) (xs : List (Tree s)) (at : ℕ) (x : Tree s) → Each s H from vs xs → H at v x → Decides r (Yes xs x)

  abbrev pub Scans : (List (Tree s) → Tree s → Type 0) → Field → List (Placed V) → Option Spot → Type 0
  Scans Yes field vs r = (from : ℕ) (xs : List (Tree s)) → Each s H from vs xs → First (λ e. Yes e.0 e.1) (rows_at s field from [] xs) r

  -- the same of a row and how many come before it, whatever the field
  abbrev pub Finds : (List (Tree s) → Tree s → Type 0) → List (Placed V) → Option (ℕ × Bor (Placed V)) → Type 0
  Finds Yes vs r = (field : Field) → Scans Yes field vs (option_map (λ p. record { field = field_number field; row = p.0 + 1; place = p.1.now.place }) r)

-- the answer is yes of each row, after those before it
abbrev pub Throughout : {X : Type 0} → (List X → X → Type 0) → List X → List X → Type 0
Throughout Yes ys [] = Unit {0}
Throughout Yes ys (x ∷ xs) = Yes ys x × Throughout Yes (ys ++ x ∷ []) xs
