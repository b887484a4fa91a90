-- The questions 13 to 17 to a file that is read, and what each asks of a row.
-- Source: this project's own rule (docs/CALLS.md). What outputs, inputs and fixed hashes are: E. Dolstra, The Purely Functional Software Deployment Model (2006), section 5.4, and the Nix manual, "Derivations".
use Rattle.std.specs.Prelude.{◌≡◌, ℕ, ◌+◌, ◌-◌, ◌≤◌, cond, ◌⊎◌, List, [], ◌∷◌, ◌++◌, length, take, drop, codes, Option, ◌≢◌}
use Rattle.std.specs.List.{ContainsAt as Has, AllByRecursion}
use Rattle.std.specs.Str.{bytes_eq}
use Rattle.aterm.specs.Grammar.{string, list, Tree, raw, meaning}
use Rattle.aterm.specs.Reads.{past}
use Rattle.aterm.specs.Files.{output, input, variable, derivation, in_derivation}
use Rattle.aterm.specs.declared.file.Derivation.{Derivation}
use Rattle.derivation.specs.declared.field.Field.TheVariants.{Outputs, Inputs, Sources, Environment}
use Rattle.derivation.specs.declared.spot.Spot.{Spot}
use Rattle.derivation.specs.declared.question.Question.{Question}
use Rattle.derivation.specs.declared.question.Question.TheVariants.{Present, Formed, Different, Fixed, Short}
use Rattle.store_path.specs.Names.{Name, StorePath, Drv}
use Rattle.derivation.specs.Asked.{field_number, First, rows_at, Throughout}

-- What a question is put to: the outputs as a whole, or a row of the fields 1, 2, 3 or 7 after the rows before it.
pub data Entry : Type 0 where
  all_outputs : List (Tree output) → Entry
  output_row : List (Tree output) × Tree output → Entry
  input_row : List (Tree input) × Tree input → Entry
  source_row : List (Tree string) × Tree string → Entry
  variable_row : List (Tree variable) × Tree variable → Entry

abbrev pub tagged : {E : Type 0} → (E → Entry) → List (Spot × E) → List (Spot × Entry)
tagged f [] = []
tagged f (e ∷ es) = (e.0, f e.1) ∷ tagged f es

-- the places where the fields begin; the first begins after `Derive(`
abbrev pub place_2 : Tree derivation → ℕ
place_2 x = past (list 16 output) 7 x.0

abbrev pub place_3 : Tree derivation → ℕ
place_3 x = past (list 64 input) (place_2 x) x.1.0

abbrev pub place_4 : Tree derivation → ℕ
place_4 x = past (list 64 string) (place_3 x) x.1.1.0

abbrev pub place_5 : Tree derivation → ℕ
place_5 x = past string (place_4 x) x.1.1.1.0

abbrev pub place_6 : Tree derivation → ℕ
place_6 x = past string (place_5 x) x.1.1.1.1.0

abbrev pub place_7 : Tree derivation → ℕ
place_7 x = past (list 64 string) (place_6 x) x.1.1.1.1.1.0

abbrev pub output_rows : Tree derivation → List (Spot × (List (Tree output) × Tree output))
output_rows x = rows_at output Outputs 8 [] x.0

abbrev pub input_rows : Tree derivation → List (Spot × (List (Tree input) × Tree input))
input_rows x = rows_at input Inputs (place_2 x + 1) [] x.1.0

abbrev pub source_rows : Tree derivation → List (Spot × (List (Tree string) × Tree string))
source_rows x = rows_at string Sources (place_3 x + 1) [] x.1.1.0

abbrev pub variable_rows : Tree derivation → List (Spot × (List (Tree variable) × Tree variable))
variable_rows x = rows_at variable Environment (place_7 x + 1) [] x.1.1.1.1.1.1

-- all that the questions are put to, in text order
abbrev pub entries : Tree derivation → List (Spot × Entry)
entries x = (record { field = field_number Outputs; row = 0; place = 0 }, all_outputs x.0) ∷ (tagged output_row (output_rows x) ++ (tagged input_row (input_rows x) ++ (tagged source_row (source_rows x) ++ tagged variable_row (variable_rows x))))

-- 13: an output, and a name in each input row
abbrev pub named : List (Tree input) → Tree input → Type 0
named ys x = x.1 ≡ [] → ⊥

abbrev pub present : Entry → Type 0
present (all_outputs os) = os ≡ [] → ⊥
present (output_row e) = Unit {0}
present (input_row e) = named e.0 e.1
present (source_row e) = Unit {0}
present (variable_row e) = Unit {0}

-- 14: no backslash, and names and paths well formed
abbrev pub Plain : List ℕ → Type 0
Plain s = Has s 92 → ⊥

abbrev pub formed_output : List (Tree output) → Tree output → Type 0
formed_output ys x = ((Plain (raw x.0) × Name (raw x.0)) × (Plain (raw x.1.0) × StorePath (raw x.1.0))) × (Plain (raw x.1.1.0) × Plain (raw x.1.1.1))

abbrev pub formed_name : List (Tree string) → Tree string → Type 0
formed_name ys n = Plain (raw n) × Name (raw n)

abbrev pub formed_input : List (Tree input) → Tree input → Type 0
formed_input ys x = ((Plain (raw x.0) × StorePath (raw x.0)) × Drv (raw x.0)) × Throughout formed_name [] x.1

abbrev pub formed_source : List (Tree string) → Tree string → Type 0
formed_source ys x = Plain (raw x) × StorePath (raw x)

abbrev pub formed : Entry → Type 0
formed (all_outputs os) = Unit {0}
formed (output_row e) = formed_output e.0 e.1
formed (input_row e) = formed_input e.0 e.1
formed (source_row e) = formed_source e.0 e.1
formed (variable_row e) = Unit {0}

-- 15: keys different, by what they mean, and the names of an input row too
abbrev pub fresh : {X : Type 0} → (X → Tree string) → List X → X → Type 0
fresh key ys x = AllByRecursion (λ y. meaning (key y) ≢ meaning (key x)) ys

abbrev pub different_output : List (Tree output) → Tree output → Type 0
different_output = fresh (λ y. y.0)

abbrev pub different_input : List (Tree input) → Tree input → Type 0
different_input ys x = fresh (λ y. y.0) ys x × Throughout (fresh (λ n. n)) [] x.1

abbrev pub different_source : List (Tree string) → Tree string → Type 0
different_source = fresh (λ y. y)

abbrev pub different_variable : List (Tree variable) → Tree variable → Type 0
different_variable = fresh (λ y. y.0)

abbrev pub different : Entry → Type 0
different (all_outputs os) = Unit {0}
different (output_row e) = different_output e.0 e.1
different (input_row e) = different_input e.0 e.1
different (source_row e) = different_source e.0 e.1
different (variable_row e) = different_variable e.0 e.1

-- 16: the file is fixed, or both columns are empty
pub data Kind : Type 0 where
  md5 : Kind
  sha1 : Kind
  sha256 : Kind
  sha512 : Kind

abbrev pub spelt : Kind → List ℕ
spelt md5 = codes "md5"
spelt sha1 = codes "sha1"
spelt sha256 = codes "sha256"
spelt sha512 = codes "sha512"

abbrev pub digits : Kind → ℕ
digits md5 = 32
digits sha1 = 40
digits sha256 = 64
digits sha512 = 128

abbrev pub hex : List ℕ
hex = codes "0123456789abcdef"

-- an algorithm, perhaps after `r:`, with a hash of so many digits
pub record GivenAs (k : Kind) (algorithm hash : List ℕ) : Type 0 where
  pub named : (algorithm ≡ spelt k) ⊎ (algorithm ≡ codes "r:" ++ spelt k)
  pub long : length hash ≡ digits k
  pub each : AllByRecursion (Has hex) hash

abbrev pub Given : List ℕ → List ℕ → Type 0
Given algorithm hash = (k : Kind) × GivenAs k algorithm hash

-- the only output is `out`, with a hash
abbrev pub hashed : Tree output → Type 0
hashed x = (raw x.0 ≡ codes "out") × Given (raw x.1.1.0) (raw x.1.1.1)

pub record FixedFile (os : List (Tree output)) : Type 0 where
  pub only : Tree output
  pub whole : os ≡ only ∷ []
  pub given : hashed only

abbrev pub blank : Tree output → Type 0
blank x = (raw x.1.1.0 ≡ []) × (raw x.1.1.1 ≡ [])

abbrev pub settled : List (Tree output) → Entry → Type 0
settled all (all_outputs os) = Unit {0}
settled all (output_row e) = FixedFile all ⊎ blank e.1
settled all (input_row e) = Unit {0}
settled all (source_row e) = Unit {0}
settled all (variable_row e) = Unit {0}

-- 17: each output's name has at most 211 bytes
-- the file's name without `.drv`: its path without `/nix/store/`, 32 digits and a hyphen
abbrev pub stem : List ℕ → List ℕ
stem path = take (length path - 48) (drop 44 path)

abbrev pub output_name : List ℕ → List ℕ → List ℕ
output_name path out = cond (bytes_eq out (codes "out")) (stem path) (stem path ++ 45 ∷ out)

-- its length, after a stem of so many bytes
abbrev pub name_length : ℕ → List ℕ → ℕ
name_length n out = cond (bytes_eq out (codes "out")) n (n + (1 + length out))

abbrev pub short : List ℕ → Entry → Type 0
short path (all_outputs os) = Unit {0}
short path (output_row e) = length (output_name path (raw e.1.0)) ≤ 211
short path (input_row e) = Unit {0}
short path (source_row e) = Unit {0}
short path (variable_row e) = Unit {0}

-- whether the answer is yes, of the file at `path` with the outputs `all`
abbrev pub Yes : Question → List ℕ → List (Tree output) → Entry → Type 0
Yes Present path all = present
Yes Formed path all = formed
Yes Different path all = different
Yes Fixed path all = settled all
Yes Short path all = short path

abbrev pub number : Question → ℕ
number Present = 13
number Formed = 14
number Different = 15
number Fixed = 16
number Short = 17

-- r is where the first no is, in the tree that d holds
abbrev pub Answered : (Tree derivation → Entry → Type 0) → List ℕ → Derivation → Option Spot → Type 0
Answered Ask text d r = (x : Tree derivation) → in_derivation text 7 d x → First (Ask x) (entries x) r
