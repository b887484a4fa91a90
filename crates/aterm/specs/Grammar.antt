-- Trees of strings, rows and lists; what each writes in a text; what a string means; the limits of lists.
-- Source: E. Dolstra, The Purely Functional Software Deployment Model (2006), section 5.4 (derivations in ATerm form), and the Nix manual, "Derivations".
-- That a text has limits, and that its end is a place, is this project's own rule (docs/CALLS.md).
use Rattle.std.specs.Prelude.{ℕ, zero, suc, pred, ◌≤◌, Bool, cond, not, ◌&&◌, T, List, [], ◌∷◌, ◌++◌, map, length, ◌==◌}

-- What stands at a place of a text: a byte, or its end. `over` is the first byte of a row beyond its list's limit: the writing of a
-- tree has it there, and a text never does.
pub data Sign : Type 0 where
  byte : ℕ → Sign
  over : ℕ → Sign
  end : Sign

abbrev pub signs : List ℕ → List Sign
signs [] = end ∷ []
signs (b ∷ bs) = byte b ∷ signs bs

-- A byte that means itself within a string: neither a quote nor a backslash.
abbrev pub ordinary : ℕ → Bool
ordinary c = not (c == 34) && not (c == 92)

pub data Char : Type 0 where
  plain : (c : ℕ) → T (ordinary c) → Char
  escaped : ℕ → Char

-- What a field may be: a string; a row of fields; a list of rows, with its limit.
mutual
  pub data Shape : Type 0 where
    string : Shape
    row : Fields → Shape
    list : ℕ → Shape → Shape

  pub data Fields : Type 0 where
    last : Shape → Fields
    field : Shape → Fields → Fields

abbrev mutual
  pub Tree : Shape → Type 0
  Tree string = List Char
  Tree (row fs) = Trees fs
  Tree (list n s) = List (Tree s)

  pub Trees : Fields → Type 0
  Trees (last s) = Tree s
  Trees (field s fs) = Tree s × Trees fs

-- Each list within its limit.
abbrev pub Every : {X : Type 0} → (X → Type 0) → List X → Type 0
Every P [] = Unit {0}
Every P (x ∷ xs) = P x × Every P xs

abbrev mutual
  pub Within : (s : Shape) → Tree s → Type 0
  Within string cs = Unit {0}
  Within (row fs) t = WithinAll fs t
  Within (list n s) ts = (length ts ≤ n) × Every (Within s) ts

  pub WithinAll : (fs : Fields) → Trees fs → Type 0
  WithinAll (last s) t = Within s t
  WithinAll (field s fs) t = Within s t.0 × WithinAll fs t.1

-- What a string means.
abbrev pub escape : ℕ → ℕ
escape c = cond (c == 110) 10 (cond (c == 114) 13 (cond (c == 116) 9 c))

abbrev pub meaning : List Char → List ℕ
meaning [] = []
meaning (plain c o ∷ cs) = c ∷ meaning cs
meaning (escaped c ∷ cs) = escape c ∷ meaning cs

-- Each shape has a first byte of its own: a quote, `(` or `[`.
abbrev pub opener : Shape → ℕ
opener string = 34
opener (row fs) = 40
opener (list n s) = 91

-- a string's bytes between its quotes, as they stand in the text
abbrev pub raw : List Char → List ℕ
raw [] = []
raw (plain c o ∷ cs) = c ∷ raw cs
raw (escaped c ∷ cs) = 92 ∷ c ∷ raw cs

-- the first byte of a row, with room for so many rows still
abbrev pub begin : ℕ → ℕ → Sign
begin zero b = over b
begin (suc n) b = byte b

module _ {X : Type 0} (o : ℕ) (write : X → List Sign) where
  abbrev pub more : ℕ → List X → List Sign
  more n [] = byte 93 ∷ []
  more n (x ∷ xs) = byte 44 ∷ begin n o ∷ write x ++ more (pred n) xs

  abbrev pub rows : ℕ → List X → List Sign
  rows n [] = byte 93 ∷ []
  rows n (x ∷ xs) = begin n o ∷ write x ++ more (pred n) xs

-- What is written after the first byte.
abbrev mutual
  pub write : (s : Shape) → Tree s → List Sign
  write string cs = map byte (raw cs) ++ byte 34 ∷ []
  write (row fs) t = writes fs t
  write (list n s) ts = rows (opener s) (write s) n ts

  pub writes : (fs : Fields) → Trees fs → List Sign
  writes (last s) t = byte (opener s) ∷ write s t ++ byte 41 ∷ []
  writes (field s fs) t = byte (opener s) ∷ write s t.0 ++ byte 44 ∷ writes fs t.1
