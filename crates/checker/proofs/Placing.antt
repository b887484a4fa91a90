-- A right path in a buffer: how long it is, and that it is put where there is room; and what is worked out for one right path.
use Rattle.std.proofs.Common.{◌≡◌, ℕ, zero, suc, ◌<◌, ◌≤◌, List, [], ◌∷◌, ◌++◌, map, length, get_or, codes, Ok, Err, Result, sym, refl, ap, ◌∙◌, subst, inl, inr, arith, length-append}
use Rattle.std.specs.Result.{IsOk}
use Rattle.std.specs.Str.{bytes_eq}
use Rattle.std.proofs.lemmas.List.{get_or-map, length-map}
use Rattle.canonical.specs.Kinds.{Value}
use Rattle.canonical.specs.Meanings.{an_output, Meaning}
use Rattle.canonical.specs.Order.{Member}
use Rattle.derivation.specs.Questions.{output_name}
use Rattle.hash_modulo.specs.Hashes.{Fixed}
use Rattle.hash_modulo.specs.Paths.{path_string, file_name, MaskedString}
use Rattle.hash_modulo.specs.Sets.{Bytes}
use Rattle.hash_modulo.specs.Strings.{fixed_strings, output_string, no_output}
use Rattle.right_paths.specs.Pouring.{Pours}
use Rattle.right_paths.specs.Worked.{full_store_path, PoursAll, LocatedBy, OwnWorked, FixedWorked}
use Rattle.right_paths.proofs.Pourings.{pours_one, pours_then, holds_last}
use Rattle.sink.specs.Numerals.{hex}
use Rattle.sink.specs.Write as sinks
use Rattle.store_path.specs.Base32.{base32, fold}
use Rattle.checker.specs.Calls.{Kind, D, Holds, Written}
use Rattle.checker.specs.Locating.{path_length, PathPut, FileLocated, OwnLocated, OutputLocated, of_fixed, of_masked, KeptHashes}
use Rattle.checker.specs.Views.{View}
use Rattle.checker.specs.declared.refused.CallRefusal.{CallRefusal}
use Rattle.checker.proofs.Locating.{Begun, one_or_two}

pub long : (digits name : Bytes) → length digits ≡ 32 → length (full_store_path digits name) ≡ path_length name
long digits name e =
    let a = length-append (codes "/nix/store/") (digits ++ (45 ∷ name)) in
    let b = length-append digits (45 ∷ name) in
    omega arith

pub put_ok : (bs out : List ℕ) (r : Result ℕ CallRefusal) (after : List ℕ) → length bs ≤ length out → Written bs out r after → IsOk r
put_ok bs out (Ok n) after l w = refl
put_ok bs out (Err e) after l (inl (n, x), same) = absurd (n l)
put_ok bs out (Err e) after l (inr (y, done), same) = absurd done

module _ (kind : Kind) (p : Bytes) (m : Meaning) (before after : sinks.Meaning) where
  pub own_located : (digits : List ℕ) (n : ℕ) → OwnWorked kind.step kind.start kind.capacity kind.answer p m before digits n after
      → OwnLocated kind p m before (full_store_path digits (file_name p)) after
  own_located digits n w = record { references = w.references; right = w.right; own = w.own; holds = holds_last _ _ w.pours }

-- the only output of a fixed file is each output of it
pub only_output : (m : Meaning) (o : Value an_output) (x : Fixed m) → Member o m.0 → x.only ≡ o
only_output m o x i = way (subst (Member o) x.whole i)
  where
    way : Member o (x.only ∷ []) → x.only ≡ o
    way (inl e) = sym e
    way (inr z) = absurd z

module _ (kind : Kind) (v : View) (p : Bytes) (m : Meaning) (o : Value an_output) (before after : sinks.Meaning) (digits : List ℕ) where
  abbrev All : List Bytes → ℕ → Type 0
  All ss n = PoursAll kind.step kind.start kind.capacity kind.answer before ss n after

  held_all : (ss : List Bytes) (n : ℕ) → Begun ss → All ss n → Holds kind before ss after
  held_all ss n b w = subst (λ (ts : List Bytes). Holds kind before ts after) (sym b.whole) (holds_last b.first b.others (subst (λ (ts : List Bytes). All ts n) b.whole w))

  pub fixed_located : (n : ℕ) → Fixed m → FixedWorked kind.step kind.start kind.capacity kind.answer p o before digits n after
      → OutputLocated kind v p m o before (full_store_path digits (output_name p o.0)) after
  fixed_located n x w = of_fixed x w.right (held_all (fixed_strings (D kind) p o) n (one_or_two (bytes_eq o.1.1.0 (codes "r:sha256")) _ _ _) w.pours)

  abbrev string : Bytes → Bytes
  string h = path_string (codes "output:" ++ o.0) (hex h) (output_name p o.0)

  pub masked_located : (Fixed m → ⊥) → (g : Bytes → Bytes) → KeptHashes v m g → (t : Bytes) → MaskedString g m t → (h : Bytes) (a b : ℕ) (middle : sinks.Meaning)
      → Pours kind.step kind.start kind.capacity kind.answer before t h a middle
      → LocatedBy kind.step kind.start kind.capacity kind.answer middle (string h) digits b after
      → OutputLocated kind v p m o before (full_store_path digits (output_name p o.0)) after
  masked_located none g known t masked h a b middle first l =
      let e : h ≡ D kind t = first.hash in
      let second : PoursAll kind.step kind.start kind.capacity kind.answer middle (output_string (D kind) p t o ∷ []) b after =
      subst (λ (z : Bytes). PoursAll kind.step kind.start kind.capacity kind.answer middle (string z ∷ []) b after) e l.pours in
      of_masked none g known t masked
      (ap (λ (z : List ℕ). full_store_path z (output_name p o.0)) (l.located ∙ ap (λ (x : Bytes). base32 (fold (D kind (string x)))) e))
      (holds_last t (output_string (D kind) p t o ∷ []) (pours_then (pours_one first) second))

member_at : {X Y : Type 0} (F : X → Y) (xs : List X) (i : ℕ) (d : X) → i < length xs → Member (F (get_or xs i d)) (map F xs)
member_at F [] i d l = absurd (omega arith)
member_at F (x ∷ xs) zero d l = inl refl
member_at F (x ∷ xs) (suc i) d l = inr (member_at F xs i d (omega arith))

-- the output of a row, which is x
module _ {X : Type 0} (F : X → Value an_output) (m : Meaning) (xs : List X) (i : ℕ) (x : X) (rows : m.0 ≡ map F xs) (less : i < length xs) (here : x ≡ get_or xs i x) where
  pub output_there : Member (F x) m.0
  output_there = subst (λ (o : Value an_output). Member o m.0) (sym (ap F here)) (subst (Member (F (get_or xs i x))) (sym rows) (member_at F xs i x less))

  pub output_located : (kind : Kind) (v : View) (p : Bytes) (out : List ℕ) (before : sinks.Meaning) (r : Result ℕ CallRefusal) (after : List ℕ) (sink : sinks.Meaning)
      → PathPut (path_length (output_name p (F x).0)) (OutputLocated kind v p m (F x) before) out before r after sink → (j : ℕ) → j ≡ suc i
      → FileLocated kind v p m j out before r after sink
  output_located kind v p out before r after sink w j e =
      let same : F x ≡ get_or m.0 i no_output = ap F here ∙ sym (get_or-map F xs i x no_output less) ∙ ap (λ (os : List (Value an_output)). get_or os i no_output) (sym rows) in
      let long = ap length rows ∙ length-map xs F in
      subst (λ (k : ℕ). FileLocated kind v p m k out before r after sink) (sym e)
      (inl (
        omega (arith, less, long),
        subst (λ (o : Value an_output). PathPut (path_length (output_name p o.0)) (OutputLocated kind v p m o before) out before r after sink) same w,
      ))
