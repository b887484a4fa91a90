-- What a reader answers: the tree that is written from one place of the text to another, or the first place at which no tree goes on.
-- Source: this project's own rule (docs/CALLS.md).
use Rattle.std.specs.Prelude.{◌≡◌, ℕ, ◌+◌, ◌-◌, ◌<◌, ◌≤◌, List, [], ◌∷◌, ◌++◌, map, length, take, drop, Ok, Err, Result, ◌≢◌, slice_index, OnErr}
use Rattle.aterm.specs.declared.fault.Cause.{Cause}
use Rattle.aterm.specs.declared.fault.Cause.TheVariants.{Byte, Row}
use Rattle.aterm.specs.declared.fault.Fault.{Fault}
use Rattle.aterm.specs.declared.reader.Reader.{Reader}
use Rattle.aterm.specs.declared.rows.Placed.{Placed}
use Rattle.aterm.specs.Grammar.{Sign, byte, over, end, signs, Shape, Tree, opener, write, begin, Char, raw}

-- the same sign at the beginning of a row beyond its list's limit
abbrev pub beyond : Sign → Sign
beyond (byte b) = over b
beyond (over b) = over b
beyond end = end

module _ {X : Type 0} (write : X → List Sign) where
  -- after p, c may stand: some tree is written so
  abbrev pub Allowed : List Sign → Sign → Type 0
  Allowed p c = (x : X) × (q : List Sign) × (write x ≡ p ++ c ∷ q)

  abbrev pub Because : List Sign → Sign → Cause → Type 0
  Because p c Byte = Allowed p (beyond c) → ⊥
  Because p c Row = Allowed p (beyond c)

  -- Of the signs s, which begin at the place `from`, the first that may not stand is at `place`.
  pub record Stops (s : List Sign) (from place : ℕ) (cause : Cause) : Type 0 where
    pub before : List Sign
    pub sign : Sign
    pub after : List Sign
    pub whole : s ≡ before ++ sign ∷ after
    pub at : from + length before ≡ place
    pub viable : (c : Sign) × Allowed before c
    pub stops : Allowed before sign → ⊥
    pub because : Because before sign cause

  -- From the place `from` of the text to `next` a tree is written, of which H holds.
  pub record Written (H : X → Type 0) (text : List ℕ) (from next : ℕ) : Type 0 where
    pub tree : X
    pub whole : drop from (signs text) ≡ write tree ++ drop next (signs text)
    pub inside : next ≤ length text
    pub held : H tree

  abbrev pub Answers : {V : Type 0} → (V → X → Type 0) → List ℕ → ℕ → Result (V × ℕ) Fault → Type 0
  Answers H text from (Ok v) = Written (H v.0) text from v.1
  Answers H text from (Err f) = Stops (drop from (signs text)) from f.place f.cause

-- whether b stands at the place `at`
abbrev pub Next : ℕ → List ℕ → ℕ → Result ℕ Fault → Type 0
Next b text at (Ok next) = (next ≡ at + 1) × (at < length text) × (slice_index text at ≡ b)
Next b text at (Err f) = (f.place ≡ at) × (f.cause ≡ Byte) × (at < length text → slice_index text at ≢ b)

-- whether the text begins with a word
abbrev pub Passes : List ℕ → List ℕ → Result ℕ Fault → Type 0
Passes word text (Ok next) = (next ≤ length text) × (signs text ≡ map byte word ++ drop next (signs text))
Passes word text (Err f) = Stops {X = Unit {0}} (λ _. map byte word) (signs text) 0 f.place f.cause

-- what a reader answered, with the place to which it came
abbrev pub came : {V : Type 0} → Result V Fault → ℕ → Result (V × ℕ) Fault
came (Ok v) at = Ok (v, at)
came (Err f) at = Err f

abbrev pub moved : Result (Unit {0}) Fault → ℕ → Result ℕ Fault
moved (Ok u) at = Ok at
moved (Err f) at = Err f

abbrev pub begun : Result Reader Fault → Result ℕ Fault
begun (Ok r) = Ok r.at
begun (Err f) = Err f

-- a reader of a text goes on in it
abbrev pub Goes : {X V : Type 0} → (X → List Sign) → (List ℕ → ℕ → V → X → Type 0) → Reader → Result V Fault → Reader → Type 0
Goes w H old r new = (text : List ℕ) → old.text.now ≡ text → (new.text.now ≡ text) × Answers w (H text old.at) text old.at (came r new.at)

-- a reader passes a byte, or stays where it is
abbrev pub Meets : ℕ → Reader → Result (Unit {0}) Fault → Reader → Type 0
Meets b old r new = (text : List ℕ) → old.text.now ≡ text → (new.text.now ≡ text) × (Next b text old.at (moved r new.at) × OnErr r (new.at ≡ old.at))

-- a field, with the byte that closes it
abbrev pub written_field : (s : Shape) → ℕ → Tree s → List Sign
written_field s closing x = byte (opener s) ∷ write s x ++ byte closing ∷ []

-- a row of a list that has room for so many rows still
abbrev pub written_row : (s : Shape) → ℕ → Tree s → List Sign
written_row s room x = begin room (opener s) ∷ write s x

-- the bytes of the text from one place to another are the string's, whose first byte stands at `at`
pub record Spans (text : List ℕ) (at start stop : ℕ) (cs : List Char) : Type 0 where
  pub from : start ≡ at
  pub to : stop ≡ at + length (raw cs)
  pub inside : stop ≤ length text
  pub cut : take (stop - start) (drop start text) ≡ raw cs

-- the place after a field or a row that begins at `at`, and after the byte that parts it from the next
abbrev pub past : (s : Shape) → ℕ → Tree s → ℕ
past s at x = at + length (written_field s 44 x)

-- each row begins at its place, and its value holds the tree there; the first row begins at `at`
abbrev pub Each : {V : Type 0} (s : Shape) → (ℕ → V → Tree s → Type 0) → ℕ → List (Placed V) → List (Tree s) → Type 0
Each s H at [] [] = Unit {0}
Each s H at [] (x ∷ xs) = ⊥
Each s H at (v ∷ vs) [] = ⊥
Each s H at (v ∷ vs) (x ∷ xs) = ((v.place ≡ at) × H (at + 1) v.value x) × Each s H (past s at x) vs xs

-- a field that begins at `at`, the last one or one before others
abbrev pub Last : {X : Type 0} → (ℕ → X → Type 0) → ℕ → X → Type 0
Last A at x = A (at + 1) x

abbrev pub Both : (s : Shape) {Y : Type 0} → (ℕ → Tree s → Type 0) → (ℕ → Y → Type 0) → ℕ → Tree s × Y → Type 0
Both s A B at z = A (at + 1) z.0 × B (past s at z.0) z.1
