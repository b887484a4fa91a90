-- A row of a list and the spot at which it stands, for a search of what was read.
use Rattle.std.proofs.Common.{◌≡◌, ℕ, List, [], ◌∷◌, take, sym, refl, subst, inl}
use Rattle.aterm.specs.Files.{output, in_output}
use Rattle.aterm.specs.Grammar.{Shape, Tree, meaning}
use Rattle.aterm.specs.declared.file.Output.{Output}
use Rattle.aterm.specs.declared.rows.Placed.{Placed}
use Rattle.canonical.specs.Files.{said_in}
use Rattle.canonical.specs.Order.{Member}
use Rattle.canonical.proofs.Spans.{span_means}
use Rattle.derivation.specs.Asked.{rows_at}
use Rattle.derivation.specs.declared.field.Field.{Field}
use Rattle.derivation.specs.declared.spot.Spot.{Spot}
use Rattle.hash_modulo.proofs.Paths.{member_right}
use Rattle.derivation.proofs.Scan.{Split, spot, rows_after, all_rows}

-- what stands for a row that is not there
abbrev pub blank_output : Placed Output
blank_output = record { place = 0; value = record { name = record { start = 0; end = 0 }; path = record { start = 0; end = 0 }; algorithm = record { start = 0; end = 0 }; hash = record { start = 0; end = 0 } } }

module _ {V : Type 0} (s : Shape) (H : ℕ → V → Tree s → Type 0) (field : Field) (from : ℕ) (vs : List (Placed V)) (xs : List (Tree s)) (i : ℕ) (v : Placed V) (r : Split s H from vs xs i v) where
  pub row_stands : Member (spot s H field from vs xs i v r, (take i xs, r.x)) (rows_at s field from [] xs)
  row_stands =
      subst (Member {X = Spot × (List (Tree s) × Tree s)} (spot s H field from vs xs i v r, (take i xs, r.x))) (sym (all_rows s H field from vs xs i v r))
      (member_right (spot s H field from vs xs i v r, (take i xs, r.x)) (rows_at s field from [] (take i xs)) ((spot s H field from vs xs i v r, (take i xs, r.x)) ∷ rows_after s H field from vs xs i v r) (inl refl))

-- what an output row says
module _ (text : List ℕ) (from : ℕ) (vs : List (Placed Output)) (xs : List (Tree output)) (i : ℕ) (v : Placed Output) (r : Split output (in_output text) from vs xs i v) where
  pub output_name_there : said_in text v.value.name ≡ meaning r.x.0
  output_name_there = span_means text _ v.value.name r.x.0 r.held.0

  pub output_path_there : said_in text v.value.path ≡ meaning r.x.1.0
  output_path_there = span_means text _ v.value.path r.x.1.0 r.held.1.0
