-- How the lines that are left go on.
use Rattle.std.proofs.Common.{◌≡◌, ℕ, ◌<◌, ◌==◌, List, [], ◌∷◌, length, Option, None, Some, IfSome, Ok, Result, refl, sym, subst, if◌then◌else◌}
use denote.Ref.{Bor}
use Rattle.std.specs.Fn.{Mut, CalledAt}
use Rattle.std.specs.Io.KnownBytes.{prepend_known, IsAtEnd}
use Rattle.std.specs.Io.Buffered.{reader_buffer, reader_capacity, reader_remaining}
use Rattle.std.specs.Io.BufRead.{first_line, drop_through}
use Rattle.std.specs.Io.Iter.{YieldsKnownPiece}
use Rattle.std.specs.declared.io.buffered.BufReader.{BufReader}
use Rattle.test_input.specs.Lines.{LinesTaken}

held : (room : ℕ) (buffer : List ℕ) (known : Option (List ℕ)) (text : List ℕ)
    → room ≡ 8192 → buffer ≡ [] → known ≡ Some text → (if room == 0 then None else prepend_known buffer known) ≡ Some text
held room buffer known text r b k = rw r (rw b (rw k refl))

-- what a reader that was just begun has still to give is what the one inside it has
pub begun : {T A : Type 0} (remaining : T → Option (List ℕ)) (reader : BufReader T A) (from : T) (text : List ℕ)
    → reader.inner ≡ from → reader_buffer reader ≡ [] → reader_capacity reader ≡ 8192 → remaining from ≡ Some text → reader_remaining remaining reader ≡ Some text
begun remaining reader from text i b c k = held _ _ _ text c b (subst (λ x. remaining x ≡ Some text) (sym i) k)

pub if_known : (P : List ℕ → Type 0) (known : Option (List ℕ)) → ((text : List ℕ) → known ≡ Some text → P text) → IfSome known P
if_known P None k = tt
if_known P (Some text) k = k text refl

pub line_came : {X E : Type 0} (bytes : X → List ℕ) (old new : Option (List ℕ)) (item : Result X E) (x : X) (text : List ℕ)
    → item ≡ Ok x → old ≡ Some text → YieldsKnownPiece bytes first_line 10 old (Some item) new
    → (0 < length text) × (bytes x ≡ first_line text) × (new ≡ Some (drop_through 10 text))
line_came {X} {E} bytes old new item x text is known y =
    let at : YieldsKnownPiece {E = E} bytes first_line 10 (Some text) (Some item) new = subst (λ o. YieldsKnownPiece {E = E} bytes first_line 10 o (Some item) new) known y in
    let of : YieldsKnownPiece {E = E} bytes first_line 10 (Some text) (Some (Ok x)) new = subst (λ i. YieldsKnownPiece {E = E} bytes first_line 10 (Some text) (Some i) new) is at in
    (of.0.0, of.0.1, of.1)

pub none_came : (old : Option (List ℕ)) (text : List ℕ) → old ≡ Some text → IsAtEnd old → text ≡ []
none_came old text known at = subst IsAtEnd known at

pub line_goes : {F E : Type 0} (g : Mut F (Bor (List ℕ) × Unit {0}) (Result (Unit {0}) E)) (f mid : F) (text line : List ℕ)
    → 0 < length text → line ≡ first_line text → CalledAt g f line (Ok tt) mid → LinesTaken g mid (drop_through 10 text) → LinesTaken g f text
line_goes g f mid text line some is called (lines, last, of, folds) = (line ∷ lines, last, (some, is, of), (mid, called, folds))

pub lines_end : {F E : Type 0} (g : Mut F (Bor (List ℕ) × Unit {0}) (Result (Unit {0}) E)) (f : F) (text : List ℕ)
    → text ≡ [] → LinesTaken g f text
lines_end g f text e = ([], f, e, refl)
