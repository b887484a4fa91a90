-- The string and the two files of the table.
use Rattle.std.proofs.Common.{◌≡◌, ℕ, suc, Bool, true, false, ◌&&◌, ◌||◌, T, eqb, List, [], ◌∷◌, codes, sym, refl, subst, inl, inr, arith, lit≤, eqb→eq, Ok, Err}
use Rattle.std.specs.List.{ContainsAt as Has, AllByRecursion}
use Rattle.aterm.specs.Files.{output, variable, derivation, whole}
use Rattle.aterm.specs.Grammar.{Char, plain, escaped, ordinary, Tree, Within, signs}
use Rattle.canonical.specs.Kinds as kinds
use Rattle.canonical.specs.Kinds.{Value, rising}
use Rattle.canonical.specs.Meanings.{an_output, a_variable, Meaning, canonical}
use Rattle.canonical.proofs.Members.{same_refl}
use Rattle.derivation.specs.Asked.{field_number, Throughout}
use Rattle.derivation.specs.Questions.{different_variable, md5, sha1, sha256, sha512, Given}
use Rattle.derivation.specs.declared.field.Field.TheVariants.{Environment}
use Rattle.derivation.specs.declared.spot.Spot.{Spot}
use Rattle.file_meaning.specs.Reads.{Reads}
use Rattle.file_meaning.proofs.Clean.{clean_plain, clean_name, clean_store}
use Rattle.file_meaning.proofs.Trees.{Passes, answers}
use Rattle.hash_modulo.specs.Hashes.{Fixed, path_of, hashed_rows, with_inputs}
use Rattle.hash_modulo.specs.Paths.{OwnPath, masked, OutputPath, of_masked}
use Rattle.hash_modulo.specs.Sets.{Bytes, Files, Means}
use Rattle.hash_rows.proofs.Fixing.{rows_fixed}
use Rattle.store_path.specs.Base32.{base32, fold}
use Rattle.store_path.specs.Names.{Name, StorePath, name_bytes, digits_32}
use Rattle.verdict.specs.Judged.{Judged, hashed, right, wrong_variable, nowhere}
use Rattle.verdict.specs.declared.fault.Fault.TheVariants.{Unhashed, WrongVariable}
use Rattle.verdict.specs.Verdicts.{Verdict}
use Rattle.verdict.proofs.One.{one_verdict}
use Rattle.samples_of_verdicts.specs.Samples.{Said, VerdictIs, only_file, path, right_text, bare_text}
use Rattle.samples.specs.Zeros.{zero_answer}

pub needless : Said (codes "\"\\a\"") (codes "a") (codes "\"a\"")
needless = record { string = escaped 97 ∷ []; written = refl; meant = refl; read = refl; again = refl }

-- ---- tests that antt computes

both_left : (a b : Bool) → T (a && b) → T a
both_left true b t = tt
both_left false b t = t

both_right : (a b : Bool) → T (a && b) → T b
both_right true b t = t
both_right false b t = absurd t

-- each byte of a string is in a table
abbrev in_table : List ℕ → ℕ → Bool
in_table [] c = false
in_table (b ∷ table) c = eqb b c || in_table table c

abbrev all_in : List ℕ → List ℕ → Bool
all_in table [] = true
all_in table (c ∷ cs) = in_table table c && all_in table cs

has_byte : (table : List ℕ) (c : ℕ) → T (in_table table c) → Has table c
has_byte [] c t = absurd t
has_byte (b ∷ table) c t = way (eqb b c) refl t (has_byte table c)
  where
    way : (r : Bool) → eqb b c ≡ r → T (r || in_table table c) → (T (in_table table c) → Has table c) → Has (b ∷ table) c
    way true e u next = (0, omega arith, λ d. eqb→eq b c (subst T (sym e) tt))
    way false e u next = let h = next u in (suc h.0, omega (arith, h.1), h.2)

has_all : (table s : List ℕ) → T (all_in table s) → AllByRecursion (Has table) s
has_all table [] t = tt
has_all table (c ∷ cs) t = (has_byte table c (both_left (in_table table c) (all_in table cs) t), has_all table cs (both_right (in_table table c) (all_in table cs) t))

-- a string without escapes
abbrev all_ordinary : List ℕ → Bool
all_ordinary [] = true
all_ordinary (c ∷ cs) = ordinary c && all_ordinary cs

abbrev chars : (s : List ℕ) → T (all_ordinary s) → List Char
chars [] t = []
chars (c ∷ cs) t = plain c (both_left (ordinary c) (all_ordinary cs) t) ∷ chars cs (both_right (ordinary c) (all_ordinary cs) t)

-- ---- the files, but for their environments

abbrev out_path : Bytes
out_path = codes "/nix/store/00000000000000000000000000000000-a"

abbrev out_row : Tree output
out_row = (chars (codes "out") tt, (chars out_path tt, ([], [])))

abbrev tree : List (Tree variable) → Tree derivation
tree vs = (out_row ∷ [], ([], ([], (chars (codes "s") tt, (chars (codes "b") tt, ([], vs))))))

abbrev an_out : Value an_output
an_out = (codes "out", (out_path, ([], [])))

abbrev meant_by : List (Value a_variable) → Meaning
meant_by env = (an_out ∷ [], ([], ([], (codes "s", (codes "b", ([], env))))))

named_out : Name (codes "out")
named_out = record { some = lit≤ tt; most = lit≤ tt; first = λ e. omega arith; bytes = has_all name_bytes (codes "out") tt }

named_a : Name (codes "a")
named_a = record { some = lit≤ tt; most = lit≤ tt; first = λ e. omega arith; bytes = has_all name_bytes (codes "a") tt }

store : StorePath out_path
store = record {
  rest = codes "00000000000000000000000000000000-a";
  whole = refl;
  based = record {
    digits = codes "00000000000000000000000000000000";
    name = codes "a";
    whole = refl;
    long = refl;
    each = has_all digits_32 (codes "00000000000000000000000000000000") tt;
    named = named_a;
  };
}

some_output : (o : Tree output) → o ∷ [] ≡ [] → ⊥
some_output o e = cc

passes : (vs : List (Tree variable)) → Throughout different_variable [] vs → Passes path (tree vs)
unfolding path
passes vs new = record {
  some = some_output out_row;
  names = tt;
  outputs = (
    (
      ((clean_plain (codes "out") (clean_name (codes "out") named_out), named_out), (clean_plain out_path (clean_store out_path store), store)),
      (clean_plain [] tt, clean_plain [] tt),
    ),
    tt,
  );
  inputs = tt;
  sources = tt;
  new_outputs = (tt, tt);
  new_inputs = tt;
  new_sources = tt;
  new_variables = new;
  fixed = inr ((refl, refl), tt);
  brief = (lit≤ tt, tt);
}

module _ (text : Bytes) (vs : List (Tree variable)) (env : List (Value a_variable)) (written : signs text ≡ whole (tree vs))
    (new : Throughout different_variable [] vs) (within : Within (kinds.shape (rising 128 a_variable)) vs) (meant : kinds.Means (rising 128 a_variable) vs env) where
  reads : Reads path text (meant_by env)
  reads = record {
    tree = tree vs;
    written = written;
    within = ((lit≤ tt, ((tt, (tt, (tt, tt))), tt)), ((lit≤ tt, tt), ((lit≤ tt, tt), (tt, (tt, ((lit≤ tt, tt), within))))));
    passed = answers path (tree vs) (passes vs new);
    means = (
      (an_out ∷ [], (((refl, (refl, (refl, refl))), tt), record { same = same_refl (an_out ∷ []); rises = (tt, tt) })),
      (
        ([], (tt, record { same = same_refl []; rises = tt })),
        (([], (tt, record { same = same_refl []; rises = tt })), (refl, (refl, (tt, meant)))),
      ),
    );
  }

-- ---- their right paths, where every digest is 32 zeros

own : (env : List (Value a_variable)) → OwnPath zero_answer path (meant_by env) path
unfolding path base32 fold
own env = record {
  references = [];
  right = record { rises = tt; there = λ p i. absurd i; inputs = λ r i. absurd i; sources = λ p i. absurd i };
  is = refl;
}

only_out : (o : Value an_output) → an_out ∷ [] ≡ o ∷ [] → an_out ≡ o
only_out o e = cc

not_given : Given [] [] → ⊥
not_given (md5, g) = omega (arith, g.long)
not_given (sha1, g) = omega (arith, g.long)
not_given (sha256, g) = omega (arith, g.long)
not_given (sha512, g) = omega (arith, g.long)

not_fixed : (env : List (Value a_variable)) → Fixed (meant_by env) → ⊥
not_fixed env f = not_given (subst (λ (o : Value an_output). Given o.1.1.0 o.1.1.1) (sym (only_out f.only f.whole)) f.given)

output_right : (env : List (Value a_variable)) (g : Bytes → Bytes) → OutputPath zero_answer path g (meant_by env) an_out out_path
unfolding path base32 fold
output_right env g =
    let w = (rows_fixed path_of ([], []) (hashed_rows g (meant_by env))).some in
    of_masked (not_fixed env) (canonical (with_inputs (masked (meant_by env)) w.0)) (record { rows = w.0; rises = w.1; gathered = w.2; is = refl }) refl

-- ---- their verdicts

unhashed_not : (s : Spot) → ◌≡◌ {A = Verdict} (Ok tt) (Err (Unhashed s)) → ⊥
unhashed_not s e = cc

variable_not : (s t : Spot) → ◌≡◌ {A = Verdict} (Err (WrongVariable s)) (Err (Unhashed t)) → ⊥
variable_not s t e = cc

-- a verdict that is not 20 is the only one
only : (set : Files) (p : Bytes) (v : Verdict) → ((s : Spot) → v ≡ Err (Unhashed s) → ⊥) → Judged set zero_answer p v → VerdictIs set p v
only set p v other j = record { judged = j; only = λ w k. elim (one_verdict set zero_answer p w v k j) [ inl e ↦ e | inr b ↦ absurd (other b.two b.second) ] }

-- with an environment that has the output
abbrev variable_row : Tree variable
variable_row = (chars (codes "out") tt, chars out_path tt)

abbrev a_row : Value a_variable
a_row = (codes "out", out_path)

right_means : Means (only_file path right_text) path (meant_by (a_row ∷ []))
unfolding path right_text
right_means = record {
  text = right_text;
  at = refl;
  reads =
      reads right_text (variable_row ∷ []) (a_row ∷ []) refl (tt, tt) (lit≤ tt, ((tt, tt), tt))
      (a_row ∷ [], (((refl, refl), tt), record { same = same_refl (a_row ∷ []); rises = (tt, tt) }));
}

pub accepted : VerdictIs (only_file path right_text) path (Ok tt)
unfolding right_text right_means reads
accepted =
    let env : List (Value a_variable) = a_row ∷ [] in
    let o : OutputPath zero_answer path (λ _. []) (meant_by env) an_out out_path = output_right env (λ _. []) in
    only (only_file path right_text) path (Ok tt) unhashed_not
    (hashed (meant_by env) right_means tt tt (λ _. []) (λ r i. absurd i) (right (own env) (o, tt) ((variable_row, inl refl, refl, o), tt) refl refl))

bare_means : Means (only_file path bare_text) path (meant_by [])
unfolding path bare_text
bare_means = record { text = bare_text; at = refl; reads = reads bare_text [] [] refl tt (lit≤ tt, tt) ([], (tt, record { same = same_refl []; rises = tt })) }

pub wrong : VerdictIs (only_file path bare_text) path (Err (WrongVariable (record { field = field_number Environment; row = 0; place = 0 })))
unfolding bare_means reads
wrong =
    let w : Spot = record { field = field_number Environment; row = 0; place = 0 } in
    let o : OutputPath zero_answer path (λ _. []) (meant_by []) an_out out_path = output_right [] (λ _. []) in
    only (only_file path bare_text) path (Err (WrongVariable w)) (variable_not w)
    (hashed (meant_by []) bare_means tt tt (λ _. []) (λ r i. absurd i)
    (wrong_variable (own []) (o, tt) _ (record { before = []; row = ([], out_row); after = []; whole = refl; clean = tt; refused = λ z. z.1 })
    w (nowhere (λ v i. absurd i) refl) refl))
