-- Every string that is digested for a file within the limits is shorter than 1,048,576 bytes.
use Rattle.std.proofs.Common.{◌≡◌, ℕ, ◌+◌, ◌-◌, ◌*◌, ◌<◌, ◌≤◌, eqb, ◌⊎◌, List, [], ◌∷◌, ◌++◌, map, length, drop, codes, sym, refl, ap, subst, inl, inr, ⊎_elim, arith, length-append, length-drop, length-take}
use Rattle.std.specs.List.{flat_map, AllByRecursion}
use Rattle.std.specs.Str.{bytes_eq}
use Rattle.std.proofs.lemmas.Bool.{cond_both}
use Rattle.canonical.specs.Kinds.{Value, comma, listing, canon}
use Rattle.canonical.specs.Meanings.{an_output, an_input, a_variable, Meaning, canonical}
use Rattle.canonical.specs.Order.{Under, Member, Rising}
use Rattle.canonical.specs.Strings.{escaped, quoted}
use Rattle.canonical.proofs.Bound.{spells_short, wide, joined_length, listing_length}
use Rattle.canonical.proofs.Members.{member_all, total, total_rising}
use Rattle.derivation.specs.Questions.{stem, output_name}
use Rattle.hash_rows.specs.Keyed as keyed
use Rattle.sink.specs.Numerals.{hex}
use Rattle.sink.proofs.Hexing.{length_hex}
use Rattle.hash_modulo.specs.Hashes.{Digest, Fixed, fixed_string, path_of, hashed_rows, with_inputs, HashString}
use Rattle.hash_modulo.specs.Laws.{Wide}
use Rattle.hash_modulo.specs.Paths.{path_string, file_name, References, own_type, is_output, mask_output, mask_variable, masked, MaskedString, inner_string}
use Rattle.hash_modulo.specs.Sets.{Bytes, Row, Names}
use Rattle.hash_modulo.specs.Strings.{own_strings, fixed_strings, output_string, FileStrings, of_fixed, of_text, Limits}
use Rattle.hash_modulo.proofs.Paths.{member_left, member_right, paths, path_there}

-- ---- strings between quotes

escaped_long : (b : ℕ) → 1 ≤ length (escaped b)
escaped_long b =
    let P : List ℕ → Type 0 = λ l. 1 ≤ length l in
    cond_both (eqb b 34) _ _ P (λ _. omega arith) (λ _.
    cond_both (eqb b 92) _ _ P (λ _. omega arith) (λ _.
    cond_both (eqb b 10) _ _ P (λ _. omega arith) (λ _.
    cond_both (eqb b 13) _ _ P (λ _. omega arith) (λ _.
    cond_both (eqb b 9) _ _ P (λ _. omega arith) (λ _. omega arith)))))

inside_most : (v : Bytes) → length (flat_map escaped v) ≤ 2 * length v
inside_most [] = omega arith
inside_most (b ∷ v) = let h = inside_most v in let s = spells_short b in let l = length-append (escaped b) (flat_map escaped v) in omega arith

inside_least : (v : Bytes) → length v ≤ length (flat_map escaped v)
inside_least [] = omega arith
inside_least (b ∷ v) = let h = inside_least v in let s = escaped_long b in let l = length-append (escaped b) (flat_map escaped v) in omega arith

quoted_most : (v : Bytes) → length (quoted v) ≤ 2 * length v + 2
quoted_most v = let h = inside_most v in let l = length-append (flat_map escaped v) (34 ∷ []) in omega arith

quoted_least : (v : Bytes) → length v + 2 ≤ length (quoted v)
quoted_least v = let h = inside_least v in let l = length-append (flat_map escaped v) (34 ∷ []) in omega arith

pub hex_length : (h : Bytes) → length (hex h) ≡ 2 * length h
hex_length h = length_hex h

-- ---- sums over lists

module _ {X : Type 0} where
  total_append : (f : X → ℕ) (xs ys : List X) → total f (xs ++ ys) ≡ total f xs + total f ys
  total_append f [] ys = omega arith
  total_append f (x ∷ xs) ys = let h = total_append f xs ys in omega arith

  total_least : (f g : X → ℕ) → ((x : X) → f x ≤ g x) → (xs : List X) → total f xs ≤ total g xs
  total_least f g h [] = omega arith
  total_least f g h (x ∷ xs) = let a = h x in let b = total_least f g h xs in omega arith

  total_one : (f : X → ℕ) (xs : List X) (x : X) → Member x xs → f x ≤ total f xs
  total_one f [] x m = absurd m
  total_one f (y ∷ xs) x (inl e) = let h : f x ≡ f y = ap f e in omega arith
  total_one f (y ∷ xs) x (inr m) = let h = total_one f xs x m in omega arith

-- rows between brackets
module _ {X : Type 0} (g : X → Bytes) where
  listing_least : (xs : List X) → 1 + total (wide g) xs ≤ length (listing g xs)
  listing_least [] = omega arith
  listing_least (x ∷ xs) =
      let h = joined_length g xs in
      let l = length-append (g x) (flat_map (comma g) xs ++ (93 ∷ [])) in
      let k = length-append (flat_map (comma g) xs) (93 ∷ []) in
      omega arith

-- ---- the canonical text, field by field

-- seven fields between brackets
seven : (a b c d e f g : Bytes)
    → length (40 ∷ (a ++ (44 ∷ (b ++ (44 ∷ (c ++ (44 ∷ (d ++ (44 ∷ (e ++ (44 ∷ (f ++ (44 ∷ (g ++ (41 ∷ [])))))))))))))))
    ≡ 8 + (length a + (length b + (length c + (length d + (length e + (length f + length g))))))
seven a b c d e f g =
    let h₇ = length-append g (41 ∷ []) in
    let h₆ = length-append f (44 ∷ (g ++ (41 ∷ []))) in
    let h₅ = length-append e (44 ∷ (f ++ (44 ∷ (g ++ (41 ∷ []))))) in
    let h₄ = length-append d (44 ∷ (e ++ (44 ∷ (f ++ (44 ∷ (g ++ (41 ∷ []))))))) in
    let h₃ = length-append c (44 ∷ (d ++ (44 ∷ (e ++ (44 ∷ (f ++ (44 ∷ (g ++ (41 ∷ []))))))))) in
    let h₂ = length-append b (44 ∷ (c ++ (44 ∷ (d ++ (44 ∷ (e ++ (44 ∷ (f ++ (44 ∷ (g ++ (41 ∷ []))))))))))) in
    let h₁ = length-append a (44 ∷ (b ++ (44 ∷ (c ++ (44 ∷ (d ++ (44 ∷ (e ++ (44 ∷ (f ++ (44 ∷ (g ++ (41 ∷ []))))))))))))) in
    omega arith

-- the fields that are maps and sets, and the others
abbrev sets : Meaning → ℕ
sets m =
    length (listing (canon an_output) m.0)
    + (length (listing (canon an_input) m.1.0) + (length (listing quoted m.1.1.0) + length (listing (canon a_variable) m.1.1.1.1.1.1)))

abbrev others : Meaning → ℕ
others m = length (quoted m.1.1.1.0) + (length (quoted m.1.1.1.1.0) + length (listing quoted m.1.1.1.1.1.0))

fields : (m : Meaning) → length (canonical m) ≡ 14 + (sets m + others m)
fields m =
    let e = m.1.1.1 in
    let os = listing (canon an_output) m.0 in
    let is = listing (canon an_input) m.1.0 in
    let vs = listing (canon a_variable) e.1.1.1 in
    let h = seven os is (listing quoted m.1.1.0) (quoted e.0) (quoted e.1.0) (listing quoted e.1.1.0) vs in
    omega arith

-- each row is no longer than the whole text
outputs_inside : (m : Meaning) → total (wide (canon an_output)) m.0 ≤ length (canonical m)
outputs_inside m = let f = fields m in let l = listing_least (canon an_output) m.0 in omega arith

output_inside : (m : Meaning) (o : Value an_output) → Member o m.0 → length (canon an_output o) ≤ length (canonical m)
output_inside m o i = let a = outputs_inside m in let b = total_one (wide (canon an_output)) m.0 o i in omega arith

four : (a b c d : Bytes) → length (40 ∷ (a ++ (44 ∷ (b ++ (44 ∷ (c ++ (44 ∷ (d ++ (41 ∷ []))))))))) ≡ 5 + (length a + (length b + (length c + length d)))
four a b c d =
    let h₄ = length-append d (41 ∷ []) in
    let h₃ = length-append c (44 ∷ (d ++ (41 ∷ []))) in
    let h₂ = length-append b (44 ∷ (c ++ (44 ∷ (d ++ (41 ∷ []))))) in
    let h₁ = length-append a (44 ∷ (b ++ (44 ∷ (c ++ (44 ∷ (d ++ (41 ∷ []))))))) in
    omega arith

two : (a b : Bytes) → length (40 ∷ (a ++ (44 ∷ (b ++ (41 ∷ []))))) ≡ 3 + (length a + length b)
two a b =
    let h₂ = length-append b (41 ∷ []) in
    let h₁ = length-append a (44 ∷ (b ++ (41 ∷ []))) in
    omega arith

output_length : (o : Value an_output)
    → length (canon an_output o) ≡ 5 + (length (quoted o.0) + (length (quoted o.1.0) + (length (quoted o.1.1.0) + length (quoted o.1.1.1))))
output_length o = four (quoted o.0) (quoted o.1.0) (quoted o.1.1.0) (quoted o.1.1.1)

input_length : (r : Row) → length (canon an_input r) ≡ 3 + (length (quoted r.0) + length (listing quoted r.1))
input_length r = two (quoted r.0) (listing quoted r.1)

variable_length : (v : Value a_variable) → length (canon a_variable v) ≡ 3 + (length (quoted v.0) + length (quoted v.1))
variable_length v = two (quoted v.0) (quoted v.1)

-- the columns of an output stand in the text
output_columns : (m : Meaning) (o : Value an_output) → Member o m.0 → length o.1.0 + (length o.1.1.0 + length o.1.1.1) ≤ length (canonical m)
output_columns m o i =
    let a = output_inside m o i in
    let b = output_length o in
    let q₁ = quoted_least o.1.0 in
    let q₂ = quoted_least o.1.1.0 in
    let q₃ = quoted_least o.1.1.1 in
    omega arith

-- ---- names

file_name_short : (path : Bytes) → length path ≤ 255 → length (file_name path) ≤ 255
file_name_short path h = omega (arith, length-drop 44 path)

stem_short : (path : Bytes) → length path ≤ 255 → length (stem path) ≤ 255
stem_short path h = omega (arith, length-take (length path - 48) (drop 44 path), length-drop 44 path)

output_name_short : (path o : Bytes) → length path ≤ 255 → length o ≤ 211 → length (output_name path o) ≤ 467
output_name_short path o h k =
    let s = stem_short path h in
    let l = length-append (stem path) (45 ∷ o) in
    cond_both (bytes_eq o (codes "out")) (stem path) (stem path ++ 45 ∷ o) (λ n. length n ≤ 467) (λ _. omega arith) (λ _. omega arith)

path_string_length : (type h name : Bytes) → length (path_string type h name) ≡ 20 + (length type + (length h + length name))
path_string_length type h name =
    let l₁ = length-append type (codes ":sha256:" ++ (h ++ (codes ":/nix/store:" ++ name))) in
    let l₂ = length-append (codes ":sha256:") (h ++ (codes ":/nix/store:" ++ name)) in
    let l₃ = length-append h (codes ":/nix/store:" ++ name) in
    let l₄ = length-append (codes ":/nix/store:") name in
    omega arith

-- ---- for the file's own path

pub canonical_short : {path : Bytes} {m : Meaning} → Limits path m → length (canonical m) < 1048576
canonical_short {path} {m} l = omega arith

abbrev colon : Bytes → ℕ
colon p = 1 + length p

own_type_length : (rs : List Bytes) → length (own_type rs) ≡ 4 + total colon rs
own_type_length rs = let h = refs rs in let l = length-append (codes "text") (flat_map (λ p. 58 ∷ p) rs) in omega arith
  where
    refs : (rs : List Bytes) → length (flat_map (λ p. 58 ∷ p) rs) ≡ total colon rs
    refs [] = refl
    refs (r ∷ rs) = let h = refs rs in let l = length-append (58 ∷ r) (flat_map (λ p. 58 ∷ p) rs) in omega arith

paths_inside : (rows : List Row) → total colon (paths rows) ≤ total (wide (canon an_input)) rows
unfolding paths
paths_inside [] = omega arith
paths_inside (r ∷ rows) = let h = paths_inside rows in let a = input_length r in let q = quoted_least r.0 in omega arith

reference_there : (m : Meaning) (rs : List Bytes) → References m rs → (p : Bytes) → Member p rs → Member p (paths m.1.0 ++ m.1.1.0)
reference_there m rs x p i =
    let ins = paths m.1.0 in
    ⊎_elim (λ z. member_left p ins m.1.1.0 (subst (λ (q : Bytes). Member q ins) z.2 (path_there m.1.0 z.0 z.1)))
    (λ n. member_right p ins m.1.1.0 n)
    (x.there p i)

-- no path stands twice among the references, and each stands in the text
references_inside : (m : Meaning) (rs : List Bytes) → References m rs → total colon rs ≤ length (canonical m)
references_inside m rs x =
    let ins = paths m.1.0 in
    let a = total_rising (λ p. p) colon rs (ins ++ m.1.1.0) x.rises (reference_there m rs x) in
    let b = total_append colon ins m.1.1.0 in
    let c = paths_inside m.1.0 in
    let d = total_least colon (wide quoted) (λ p. omega (arith, quoted_least p)) m.1.1.0 in
    let e = listing_least (canon an_input) m.1.0 in
    let g = listing_least quoted m.1.1.0 in
    let f = fields m in
    omega arith

pub own_short : {path : Bytes} {m : Meaning} {rs : List Bytes} → Limits path m → References m rs → (h : Bytes) → length h ≤ 64
    → length (path_string (own_type rs) h (file_name path)) < 1048576
own_short {path} {m} {rs} l x h w =
    let a = references_inside m rs x in
    let b = own_type_length rs in
    let c = file_name_short path l.path in
    let e = path_string_length (own_type rs) h (file_name path) in
    let t : length (canonical m) ≤ 524288 = l.text in
    omega arith

-- ---- for outputs

pub output_short : {path : Bytes} {m : Meaning} → Limits path m → (o : Value an_output) → Member o m.0 → (h : Bytes) → length h ≤ 64
    → length (path_string (codes "output:" ++ o.0) h (output_name path o.0)) < 1048576
output_short {path} {m} l o i h w =
    let s : length o.0 ≤ 211 = member_all (λ (x : Value an_output). length x.0 ≤ 211) m.0 o l.outputs i in
    let n = output_name_short path o.0 l.path s in
    let k = length-append (codes "output:") o.0 in
    let e = path_string_length (codes "output:" ++ o.0) h (output_name path o.0) in
    omega arith

only_there : {m : Meaning} (f : Fixed m) → Member f.only m.0
only_there f = subst (Member f.only) (sym f.whole) (inl refl)

pub fixed_short : {path : Bytes} {m : Meaning} → Limits path m → (f : Fixed m) → length (fixed_string f.only) < 1048576
fixed_short {path} {m} l f =
    let o = f.only in
    let c = output_columns m o (only_there f) in
    let t : length (canonical m) ≤ 524288 = l.text in
    let l₁ = length-append (codes "fixed:out:") (o.1.1.0 ++ (58 ∷ (o.1.1.1 ++ (58 ∷ o.1.0)))) in
    let l₂ = length-append o.1.1.0 (58 ∷ (o.1.1.1 ++ (58 ∷ o.1.0))) in
    let l₃ = length-append o.1.1.1 (58 ∷ o.1.0) in
    omega arith

pub inner_short : {path : Bytes} {m : Meaning} → Limits path m → (f : Fixed m) → length (inner_string f.only) < 1048576
inner_short {path} {m} l f =
    let o = f.only in
    let c = output_columns m o (only_there f) in
    let t : length (canonical m) ≤ 524288 = l.text in
    let l₁ = length-append (codes "fixed:out:") (o.1.1.0 ++ (58 ∷ (o.1.1.1 ++ (58 ∷ [])))) in
    let l₂ = length-append o.1.1.0 (58 ∷ (o.1.1.1 ++ (58 ∷ []))) in
    let l₃ = length-append o.1.1.1 (58 ∷ []) in
    omega arith

pub fixed_path_short : {path : Bytes} {m : Meaning} → Limits path m → (f : Fixed m) → (type : Bytes) → length type ≤ 10 → (h : Bytes)
    → (length h ≤ 64) ⊎ (h ≡ f.only.1.1.1) → length (path_string type h (output_name path f.only.0)) < 1048576
fixed_path_short {path} {m} l f type k h w =
    let o = f.only in
    let i = only_there f in
    let c = output_columns m o i in
    let t : length (canonical m) ≤ 524288 = l.text in
    let s : length o.0 ≤ 211 = member_all (λ (x : Value an_output). length x.0 ≤ 211) m.0 o l.outputs i in
    let n = output_name_short path o.0 l.path s in
    let e = path_string_length type h (output_name path o.0) in
    let b : length h ≤ 524288 = ⊎_elim (λ a. omega arith) (λ a. omega (arith, ap length a)) w in
    omega arith

-- ---- the text of a hash

member_in : {X : Type 0} (x : X) (xs : List X) → Member x xs → keyed.In x xs
member_in x [] i = absurd i
member_in x (y ∷ xs) (inl e) = inl e
member_in x (y ∷ xs) (inr i) = inr (member_in x xs i)

above_all : (h : Bytes) (rows : List Row) → keyed.Above path_of h rows → AllByRecursion (λ (y : Row). Under h y.0) rows
above_all h [] a = tt
above_all h (x ∷ rows) a = (a.0, above_all h rows a.1)

rising_too : (rows : List Row) → keyed.Rising path_of rows → Rising path_of rows
rising_too [] r = tt
rising_too (x ∷ rows) r = (above_all x.0 rows r.0, rising_too rows r.1)

gathered_there : (ps rows : List Row) → keyed.Gathered path_of ps rows → (x : Row) → Member x rows → Member x ps
gathered_there ps rows k x i =
    let z = (k.last x).0 (member_in x rows i) in
    subst (Member x) (sym z.2) (member_right x z.0 (x ∷ z.1) (inl refl))

hashed_total : (g : Bytes → Bytes) (rows : List Row) → ((r : Row) → Member r rows → length (g r.0) ≡ 32)
    → total (wide (canon an_input)) (map {B = Row} (λ (r : Row). (hex (g r.0), r.1)) rows) ≤ total (wide (canon an_input)) rows + 128 * length rows
hashed_total g [] h = omega arith
hashed_total g (r ∷ rows) h =
    let k = hashed_total g rows (λ x i. h x (inr i)) in
    let a = input_length r in
    let b = input_length (hex (g r.0), r.1) in
    let q = quoted_least r.0 in
    let p = quoted_most (hex (g r.0)) in
    let e = hex_length (g r.0) in
    let w = h r (inl refl) in
    omega arith

-- an output or a variable only gets shorter
masked_outputs : (os : List (Value an_output)) → total (wide (canon an_output)) (map {B = Value an_output} mask_output os) ≤ total (wide (canon an_output)) os
masked_outputs [] = omega arith
masked_outputs (o ∷ os) =
    let h = masked_outputs os in
    let a = output_length o in
    let b = output_length (mask_output o) in
    let q = quoted_least o.1.0 in
    let n : length (quoted []) ≡ 2 = refl in
    omega arith

masked_value : (os : List (Value an_output)) (v : Value a_variable) → length (quoted (mask_variable os v).1) ≤ length (quoted v.1)
masked_value os v =
    let q = quoted_least v.1 in
    cond_both (is_output os v.0) [] v.1 (λ x. length (quoted x) ≤ length (quoted v.1)) (λ _. omega arith) (λ _. omega arith)

masked_variables : (os : List (Value an_output)) (vs : List (Value a_variable))
    → total (wide (canon a_variable)) (map {B = Value a_variable} (mask_variable os) vs) ≤ total (wide (canon a_variable)) vs
masked_variables os [] = omega arith
masked_variables os (v ∷ vs) =
    let h = masked_variables os vs in
    let a = variable_length v in
    let b = variable_length (mask_variable os v) in
    let q = masked_value os v in
    omega arith

module _ {path : Bytes} {m : Meaning} {rows : List Row} where
  -- the rows of the text are at most so much longer than the input rows
  rows_short : (g : Bytes → Bytes) → Limits path m → keyed.Rising path_of rows → keyed.Gathered path_of (hashed_rows g m) rows
      → ((r : Row) → Names m r → length (g r.0) ≡ 32) → length (listing (canon an_input) rows) ≤ length (listing (canon an_input) m.1.0) + 8193
  rows_short g l r k h =
      let a = total_rising path_of (wide (canon an_input)) rows (hashed_rows g m) (rising_too rows r) (gathered_there (hashed_rows g m) rows k) in
      let b = hashed_total g m.1.0 h in
      let c = listing_length (canon an_input) rows in
      let d = listing_least (canon an_input) m.1.0 in
      let i : length m.1.0 ≤ 64 = l.inputs in
      omega arith

  pub hash_text_short : (g : Bytes → Bytes) → Limits path m → keyed.Rising path_of rows → keyed.Gathered path_of (hashed_rows g m) rows
      → ((r : Row) → Names m r → length (g r.0) ≡ 32) → length (canonical (with_inputs m rows)) < 1048576
  hash_text_short g l r k h =
      let a = rows_short g l r k h in
      let b = fields m in
      let c = fields (with_inputs m rows) in
      let t : length (canonical m) ≤ 524288 = l.text in
      omega arith

  pub masked_text_short : (g : Bytes → Bytes) → Limits path m → keyed.Rising path_of rows → keyed.Gathered path_of (hashed_rows g m) rows
      → ((r : Row) → Names m r → length (g r.0) ≡ 32) → length (canonical (with_inputs (masked m) rows)) < 1048576
  masked_text_short g l r k h =
      let a = rows_short g l r k h in
      let b = fields m in
      let c = fields (with_inputs (masked m) rows) in
      let o = masked_outputs m.0 in
      let o₁ = listing_length (canon an_output) (map {B = Value an_output} mask_output m.0) in
      let o₂ = listing_least (canon an_output) m.0 in
      let v = masked_variables m.0 m.1.1.1.1.1.1 in
      let v₁ = listing_length (canon a_variable) (map {B = Value a_variable} (mask_variable m.0) m.1.1.1.1.1.1) in
      let v₂ = listing_least (canon a_variable) m.1.1.1.1.1.1 in
      let t : length (canonical m) ≤ 524288 = l.text in
      omega arith

pub hash_string_short : {path : Bytes} {m : Meaning} {s : Bytes} (g : Bytes → Bytes) → Limits path m
    → ((r : Row) → Names m r → length (g r.0) ≡ 32) → HashString g m s → length s < 1048576
hash_string_short g l h (HashString.of_fixed f e) = omega (arith, ap length e, fixed_short l f)
hash_string_short g l h (HashString.of_text n rows r k e) = omega (arith, ap length e, hash_text_short g l r k h)

pub masked_string_short : {path : Bytes} {m : Meaning} {s : Bytes} (g : Bytes → Bytes) → Limits path m
    → ((r : Row) → Names m r → length (g r.0) ≡ 32) → MaskedString g m s → length s < 1048576
masked_string_short g l h x = omega (arith, ap length x.is, masked_text_short g l x.rises x.gathered h)

-- ---- all strings of a file

hex_short : (d : Digest) → Wide d → (s : Bytes) → length (hex (d s)) ≤ 64
hex_short d w s = omega (arith, hex_length (d s), w s)

abbrev Short : Bytes → Type 0
Short s = length s < 1048576

own_all : {path : Bytes} {m : Meaning} {rs : List Bytes} (d : Digest) → Wide d → Limits path m → References m rs → (ss : List Bytes)
    → AllByRecursion Short ss → AllByRecursion Short (own_strings d path m rs ++ ss)
own_all {path} {m} {rs} d w l x ss a = (canonical_short l, (own_short l x (hex (d (canonical m))) (hex_short d w (canonical m)), a))

fixed_all : {path : Bytes} {m : Meaning} (d : Digest) → Wide d → Limits path m → (f : Fixed m) → AllByRecursion Short (fixed_strings d path f.only)
fixed_all {path} {m} d w l f =
    let o = f.only in
    cond_both (bytes_eq o.1.1.0 (codes "r:sha256")) _ _ (λ ss. AllByRecursion Short ss)
    (λ _. (fixed_path_short l f (codes "source") (omega arith) o.1.1.1 (inr refl), tt))
    (λ _. (inner_short l f, (fixed_path_short l f (codes "output:out") (omega arith) (hex (d (inner_string o))) (inl (hex_short d w (inner_string o))), tt)))

outputs_all : {path : Bytes} {m : Meaning} (d : Digest) → Wide d → Limits path m → (t : Bytes) (os : List (Value an_output))
    → ((o : Value an_output) → Member o os → Member o m.0) → AllByRecursion Short (map (output_string d path t) os)
outputs_all d w l t [] i = tt
outputs_all d w l t (o ∷ os) i = (output_short l o (i o (inl refl)) (hex (d t)) (hex_short d w t), outputs_all d w l t os (λ x j. i x (inr j)))

pub strings_short_at : {path : Bytes} {m : Meaning} {g : Bytes → Bytes} {ss : List Bytes} (d : Digest) → Wide d → Limits path m
    → ((r : Row) → Names m r → length (g r.0) ≡ 32) → FileStrings d path g m ss → AllByRecursion (λ (s : Bytes). length s < 1048576) ss
strings_short_at {path} {m} {g} d w l h (of_fixed f rs x e) =
    subst (λ (ss : List Bytes). AllByRecursion Short ss) (sym e) (own_all d w l x (fixed_string f.only ∷ fixed_strings d path f.only) (fixed_short l f, fixed_all d w l f))
strings_short_at {path} {m} {g} d w l h (of_text n rs x s p t q e) =
    subst (λ (ss : List Bytes). AllByRecursion Short ss) (sym e)
    (own_all d w l x (s ∷ t ∷ map (output_string d path t) m.0) (hash_string_short g l h p, (masked_string_short g l h q, outputs_all d w l t m.0 (λ o i. i))))
