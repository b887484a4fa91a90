-- Rows by number: the last row of each hash, with the names of the input that it numbers.
use Rattle.std.proofs.Common.{◌≡◌, ℕ, suc, ◌+◌, ◌<◌, List, [], ◌∷◌, ◌++◌, map, length, get_or, sym, refl, ap, ◌∙◌, subst, inl, inr, arith}
use Rattle.std.specs.List.{enumerate_from}
use Rattle.canonical.proofs.Members.{member_at}
use Rattle.hash_rows.specs.Keyed as keyed
use Rattle.hash_rows.specs.Keyed.{In}
use Rattle.hash_rows.specs.Rows.{key, row_of, no_row, Rising, Gathered}
use Rattle.hash_rows.specs.declared.hash.Hash.{Hash}
use Rattle.hash_rows.specs.declared.hash.HashRow.{HashRow}
use Rattle.sink.specs.Numerals.{hex}
use Rattle.hash_modulo.specs.Hashes.{path_of}
use Rattle.hash_modulo.specs.Sets.{Bytes, Row}
use Rattle.hash_modulo.proofs.Paths.{member_right}
use Rattle.right_paths.specs.Inputs.{Aligned, RowsRight}
use Rattle.right_paths.specs.Numbered.{named}
use Rattle.right_paths.proofs.HexOrder.{hex_under, hex_apart}
use Rattle.right_paths.proofs.Carrying.{rising_there, gathered_there}

-- each hash with the number of its row, counted from n
abbrev pub number : ℕ × Hash → HashRow
number p = row_of p.1 p.0

abbrev pub numbered : ℕ → List Hash → List HashRow
numbered n hs = map number (enumerate_from n hs)

pub numbered_push : (n : ℕ) (hs : List Hash) (h : Hash) (i : ℕ) → n + length hs ≡ i → numbered n (hs ++ h ∷ []) ≡ numbered n hs ++ row_of h i ∷ []
numbered_push n [] h i e = let f : n ≡ i = omega arith in ap (λ (k : ℕ). row_of h k ∷ []) f
numbered_push n (x ∷ hs) h i e = ap (λ (v : List HashRow). row_of x n ∷ v) (numbered_push (n + 1) hs h i (omega arith))

number_below : (n : ℕ) (hs : List Hash) (x : HashRow) → In x (numbered n hs) → x.row < n + length hs
number_below n [] x m = absurd m
number_below n (h ∷ hs) x (inl e) = let f = ap (λ (z : HashRow). z.row) e in omega arith
number_below n (h ∷ hs) x (inr m) = omega (arith, number_below (n + 1) hs x m)

-- the row at a place is numbered as all rows are
pub number_at : (xs : List HashRow) (n : ℕ) → ((x : HashRow) → In x xs → x.row < n) → (i : ℕ) (x : HashRow) → i < length xs → x ≡ get_or xs i no_row → x.row < n
number_at xs n all i x l e = all x (subst (λ (y : HashRow). In y xs) (sym e) (member_at xs i no_row l))

-- a row that is gathered has the number of some hash
pub row_below : (hs : List Hash) (xs : List HashRow) → Gathered (numbered 0 hs) xs → (x : HashRow) → In x xs → x.row < length hs
row_below hs xs g x m =
    let w = (g.last x).0 m in
    let i : In x (numbered 0 hs) = subst (In x) (sym w.2) (member_right x w.0 (x ∷ w.1) (inl refl)) in
    omega (arith, number_below 0 hs x i)

-- the numbered hashes with their names are the input rows with their hashes
named_all : (g : Bytes → Bytes) (all : List Row) (n : ℕ) (rows : List Row) (hs : List Hash) → ((i : ℕ) → i < length rows → get_or all (n + i) ([], []) ≡ get_or rows i ([], [])) → Aligned g rows hs
    → map (named all) (numbered n hs) ≡ map (λ (r : Row). (hex (g r.0), r.1)) rows
named_all g all n [] [] at e = refl
named_all g all n [] (h ∷ hs) at e = let z : ◌≡◌ {A = ℕ} 0 1 = cc in absurd (omega arith)
named_all g all n (r ∷ rows) [] at e = let z : ◌≡◌ {A = ℕ} 0 1 = cc in absurd (omega arith)
named_all g all n (r ∷ rows) (h ∷ hs) at e =
    let z : n + 0 ≡ n = omega arith in
    let here : get_or all n ([], []) ≡ r = ap (λ (k : ℕ). get_or all k ([], [])) (sym z) ∙ at 0 (omega arith) in
    let hash : h.bytes ≡ g r.0 = cc in
    let rest = named_all g all (n + 1) rows hs (λ i l. let s : n + 1 + i ≡ n + suc i = omega arith in ap (λ (k : ℕ). get_or all k ([], [])) s ∙ at (suc i) (omega arith)) (cc) in
    cc

pub rows_right : (g : Bytes → Bytes) (inputs : List Row) (hs : List Hash) (xs : List HashRow) (rows : List Row)
    → Rising xs → Gathered (numbered 0 hs) xs → rows ≡ map (named inputs) xs → Aligned g inputs hs → RowsRight g inputs rows
rows_right g inputs hs xs rows r w e aligned =
    let all = named_all g inputs 0 inputs hs (λ i l. let s : 0 + i ≡ i = omega arith in ap (λ (k : ℕ). get_or inputs k ([], [])) s) aligned in
    record {
      rises = subst (keyed.Rising path_of) (sym e) (rising_there (named inputs) key path_of (λ x z. hex_under (key x) (key z)) xs r);
      gathered = subst (keyed.Gathered path_of (map (λ (r : Row). (hex (g r.0), r.1)) inputs)) (sym e)
          (subst (λ (v : List Row). keyed.Gathered path_of v (map (named inputs) xs)) all
          (gathered_there (named inputs) key path_of (λ x z. ap hex) (λ x z. hex_apart (key x) (key z)) (numbered 0 hs) xs w));
    }
