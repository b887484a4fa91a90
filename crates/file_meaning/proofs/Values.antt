-- To pass the questions is a property of the meaning: a canonical tree of the same meaning passes them too.
use Rattle.std.proofs.Common.{◌≡◌, ℕ, ◌≤◌, ◌⊎◌, List, [], ◌∷◌, length, codes, sym, refl, ap, ◌∙◌, subst, inl, inr}
use Rattle.std.proofs.ByRecursion.{All-weaker}
use Rattle.std.specs.List.{AllByRecursion}
use Rattle.aterm.specs.Files.{output, input, variable, derivation}
use Rattle.aterm.specs.Grammar.{Tree, string, raw, meaning}
use Rattle.store_path.specs.Names.{Name, StorePath, Drv}
use Rattle.derivation.specs.Asked.{Throughout}
use Rattle.derivation.specs.Questions.{named, Plain, formed_output, formed_name, formed_input, formed_source, fresh, different_input, Given, hashed, FixedFile, blank, output_name}
use Rattle.derivation.proofs.Meant.{plain_means}
use Rattle.derivation.proofs.Total.{filled}
use Rattle.canonical.specs.Canonical.{Proper, Canonical}
use Rattle.canonical.specs.Kinds.{Kind, text, rising, shape, Value, key, tree_key, Sorts, Means, Apart}
use Rattle.canonical.specs.Meanings.{an_output, an_input, a_variable, a_derivation, Meaning}
use Rattle.canonical.specs.Order.{Under, Along, Rising, Member}
use Rattle.canonical.proofs.Exist.{means_key}
use Rattle.canonical.proofs.Members.{member_all, all_from_member, one_rising}
use Rattle.file_meaning.proofs.Clean.{Clean, raw_clean, clean_plain, clean_name, clean_store, clean_algorithm, clean_hash}
use Rattle.file_meaning.proofs.Lists.{each_row, rows_each, through_map, through_both, different, new_from_rising, along_there, along_back_with}
use Rattle.file_meaning.proofs.Trees.{Passes}

-- ---- lists of rows and of values

-- what holds of each row holds of each value of a map or set
module _ (k : Kind) (n : ℕ) (P : Tree (shape k) → Type 0) (Q : Value k → Type 0) (f : (t : Tree (shape k)) (v : Value k) → Means k t v → P t → Q v) where
  values_all : (ts : List (Tree (shape k))) (vs : List (Value k)) → Means (rising n k) ts vs → AllByRecursion P ts → AllByRecursion Q vs
  values_all ts vs (ws, (a, s)) p =
      let q : AllByRecursion Q ws = along_there (Means k) P Q f ts ws a p in
      all_from_member Q vs (λ v m. member_all Q ws v q (s.same.back v m))

-- rising rows stand beside the values in their order
module _ (k : Kind) (n : ℕ) where
  rising_values : (ts : List (Tree (shape k))) (ws : List (Value k)) → Along (Means k) ts ws → Rising (tree_key k) ts → Rising (key k) ws
  rising_values [] [] a r = tt
  rising_values [] (w ∷ ws) a r = absurd a
  rising_values (t ∷ ts) [] a r = absurd a
  rising_values (t ∷ ts) (w ∷ ws) a r = (
    along_there (Means k) (λ u. Under (tree_key k t) (tree_key k u)) (λ v. Under (key k w) (key k v))
        (λ u v m h. subst (λ (b : List ℕ). Under (key k w) b) (sym (means_key k u v m)) (subst (λ (b : List ℕ). Under b (tree_key k u)) (sym (means_key k t w a.0)) h))
        ts ws a.1 r.0,
    rising_values ts ws a.1 r.1,
  )

  aligned : (ts : List (Tree (shape k))) (vs : List (Value k)) → Means (rising n k) ts vs → Rising (tree_key k) ts → Along (Means k) ts vs
  aligned ts vs (ws, (a, s)) r = subst (Along (Means k) ts) (one_rising (key k) ws vs (rising_values ts ws a r) s.rises s.same) a

-- a list is empty exactly where its values are
no_values : (k : Kind) (n : ℕ) (ts : List (Tree (shape k))) (vs : List (Value k)) → Means (rising n k) ts vs → vs ≡ [] → ts ≡ []
no_values k n [] vs m e = refl
no_values k n (t ∷ ts) vs ([], (a, s)) e = absurd a
no_values k n (t ∷ ts) vs (w ∷ ws, (a, s)) e = absurd (subst (Member w) e (s.same.there w (inl refl)))

along_none : {X Y : Type 0} (R : X → Y → Type 0) (xs : List X) (ys : List Y) → Along R xs ys → xs ≡ [] → ys ≡ []
along_none R [] [] a e = refl
along_none R [] (y ∷ ys) a e = absurd a
along_none R (x ∷ xs) [] a e = absurd a
along_none R (x ∷ xs) (y ∷ ys) a e = absurd (filled x xs e)

-- ---- what is asked of the values

abbrev pub FormedOutput : Value an_output → Type 0
FormedOutput o = Name o.0 × StorePath o.1.0

abbrev pub FormedInput : Value an_input → Type 0
FormedInput i = (StorePath i.0 × Drv i.0) × AllByRecursion Name i.1

abbrev pub HashedOutput : Value an_output → Type 0
HashedOutput o = (o.0 ≡ codes "out") × Given o.1.1.0 o.1.1.1

abbrev pub BlankOutput : Value an_output → Type 0
BlankOutput o = (o.1.1.0 ≡ []) × (o.1.1.1 ≡ [])

pub record FixedValue (os : List (Value an_output)) : Type 0 where
  pub only : Value an_output
  pub whole : os ≡ only ∷ []
  pub given : HashedOutput only

pub record ProperMeaning (path : List ℕ) (m : Meaning) : Type 0 where
  pub some : m.0 ≡ [] → ⊥
  pub names : AllByRecursion (λ i. i.1 ≡ [] → ⊥) m.1.0
  pub outputs : AllByRecursion FormedOutput m.0
  pub inputs : AllByRecursion FormedInput m.1.0
  pub sources : AllByRecursion StorePath m.1.1.0
  pub fixed : FixedValue m.0 ⊎ AllByRecursion BlankOutput m.0
  pub brief : AllByRecursion (λ o. length (output_name path o.0) ≤ 211) m.0

-- ---- from a tree that passes to its meaning

-- a string without backslash means its bytes
bare : (cs : Tree string) (v : List ℕ) → v ≡ meaning cs → Plain (raw cs) → raw cs ≡ v
bare cs v e p = sym (e ∙ plain_means cs p)

output_there : (t : Tree output) (v : Value an_output) → Means an_output t v → formed_output [] t → FormedOutput v
output_there t v m f = (subst Name (bare t.0 v.0 m.0 f.0.0.0) f.0.0.1, subst StorePath (bare t.1.0 v.1.0 m.1.0 f.0.1.0) f.0.1.1)

name_there : (t : Tree string) (v : List ℕ) → v ≡ meaning t → formed_name [] t → Name v
name_there t v e f = subst Name (bare t v e f.0) f.1

source_there : (t : Tree string) (v : List ℕ) → v ≡ meaning t → formed_source [] t → StorePath v
source_there t v e f = subst StorePath (bare t v e f.0) f.1

input_there : (t : Tree input) (v : Value an_input) → Means an_input t v → formed_input [] t → FormedInput v
input_there t v m f =
    let e = bare t.0 v.0 m.0 f.0.0.0 in
    ((subst StorePath e f.0.0.1, subst Drv e f.0.1), values_all text 16 (formed_name []) Name name_there t.1 v.1 m.1 (each_row (formed_name []) [] t.1 f.1))

named_there : (t : Tree input) (v : Value an_input) → Means an_input t v → named [] t → v.1 ≡ [] → ⊥
named_there t v m n e = n (no_values text 16 t.1 v.1 m.1 e)

module _ (path : List ℕ) where
  -- both facts on a row are wanted: the bytes that stand there, and what they are
  brief_there : (t : Tree output) (v : Value an_output) → Means an_output t v → formed_output [] t × (length (output_name path (raw t.0)) ≤ 211) → length (output_name path v.0) ≤ 211
  brief_there t v m (f, h) = subst (λ (b : List ℕ). length (output_name path b) ≤ 211) (bare t.0 v.0 m.0 f.0.0.0) h

blank_there : (t : Tree output) (v : Value an_output) → Means an_output t v → formed_output [] t × blank t → BlankOutput v
blank_there t v m (f, b) = (sym (bare t.1.1.0 v.1.1.0 m.1.1.0 f.1.0) ∙ b.0, sym (bare t.1.1.1 v.1.1.1 m.1.1.1 f.1.1) ∙ b.1)

hashed_there : (t : Tree output) (v : Value an_output) → Means an_output t v → formed_output [] t → hashed t → HashedOutput v
hashed_there t v m f h = (
  sym (bare t.0 v.0 m.0 f.0.0.0) ∙ h.0,
  subst (λ (a : List ℕ). Given a v.1.1.1) (bare t.1.1.0 v.1.1.0 m.1.1.0 f.1.0) (subst (Given (raw t.1.1.0)) (bare t.1.1.1 v.1.1.1 m.1.1.1 f.1.1) h.1),
)

all_both : {X : Type 0} (P Q : X → Type 0) (xs : List X) → AllByRecursion P xs → AllByRecursion Q xs → AllByRecursion (λ x. P x × Q x) xs
all_both P Q [] a b = tt
all_both P Q (x ∷ xs) a b = ((a.0, b.0), all_both P Q xs a.1 b.1)

fixed_there : (ts : List (Tree output)) (vs : List (Value an_output)) → Means (rising 16 an_output) ts vs → AllByRecursion (formed_output []) ts → FixedFile ts → FixedValue vs
fixed_there ts vs (ws, (a, s)) f x = one ws (subst (λ (l : List (Tree output)). Along (Means an_output) l ws) x.whole a) s
  where
    one : (ws : List (Value an_output)) → Along (Means an_output) (x.only ∷ []) ws → Sorts (key an_output) ws vs → FixedValue vs
    one [] b s = absurd b
    one (w ∷ []) b s = record {
      only = w;
      whole = sym (one_rising (key an_output) (w ∷ []) vs (tt, tt) s.rises s.same);
      given = hashed_there x.only w b.0 (subst (AllByRecursion (formed_output [])) x.whole f).0 x.given;
    }
    one (w ∷ u ∷ ws) b s = absurd b.1

pub proper : (path : List ℕ) (x : Tree derivation) (m : Meaning) → Means a_derivation x m → Passes path x → ProperMeaning path m
proper path x m means p = record {
  some = λ e. p.some (no_values an_output 16 x.0 m.0 means.0 e);
  names = values_all an_input 64 (named []) (λ i. i.1 ≡ [] → ⊥) named_there x.1.0 m.1.0 means.1.0 p.names;
  outputs = values_all an_output 16 (formed_output []) FormedOutput output_there x.0 m.0 means.0 p.outputs;
  inputs = values_all an_input 64 (formed_input []) FormedInput input_there x.1.0 m.1.0 means.1.0 p.inputs;
  sources = values_all text 64 (formed_source []) StorePath source_there x.1.1.0 m.1.1.0 means.1.1.0 p.sources;
  fixed = way p.fixed;
  brief =
      values_all an_output 16 (λ t. formed_output [] t × (length (output_name path (raw t.0)) ≤ 211)) (λ o. length (output_name path o.0) ≤ 211) (brief_there path) x.0 m.0 means.0
      (all_both (formed_output []) (λ t. length (output_name path (raw t.0)) ≤ 211) x.0 p.outputs p.brief);
}
  where
    way : FixedFile x.0 ⊎ AllByRecursion blank x.0 → FixedValue m.0 ⊎ AllByRecursion BlankOutput m.0
    way (inl f) = inl (fixed_there x.0 m.0 means.0 p.outputs f)
    way (inr b) = inr (values_all an_output 16 (λ t. formed_output [] t × blank t) BlankOutput blank_there x.0 m.0 means.0 (all_both (formed_output []) blank x.0 p.outputs b))

-- ---- from a meaning to its canonical tree

module _ (cs : Tree string) (v : List ℕ) (e : v ≡ meaning cs) (p : AllByRecursion Proper cs) (c : Clean v) where
  stands : raw cs ≡ v
  stands = raw_clean cs p (subst Clean e c) ∙ sym e

  unescaped : Plain (raw cs)
  unescaped = subst Plain (sym stands) (clean_plain v c)

-- the algorithm and the hash need no escape
abbrev CleanColumns : Value an_output → Type 0
CleanColumns o = Clean o.1.1.0 × Clean o.1.1.1

blank_clean : (o : Value an_output) → BlankOutput o → CleanColumns o
blank_clean o b = (subst Clean (sym b.0) tt, subst Clean (sym b.1) tt)

columns : (os : List (Value an_output)) → FixedValue os ⊎ AllByRecursion BlankOutput os → AllByRecursion CleanColumns os
columns os (inl f) =
    let g = f.given.1 in
    subst (AllByRecursion CleanColumns) (sym f.whole) ((clean_algorithm g.0 f.only.1.1.0 f.only.1.1.1 g.1, clean_hash g.0 f.only.1.1.0 f.only.1.1.1 g.1), tt)
columns os (inr b) = All-weaker BlankOutput CleanColumns blank_clean os b

abbrev OutputClean : Value an_output → Type 0
OutputClean o = FormedOutput o × CleanColumns o

output_back : (t : Tree output) (v : Value an_output) → Means an_output t v → Canonical an_output t → OutputClean v → formed_output [] t
output_back t v m c (f, k) =
    let n = stands t.0 v.0 m.0 c.0 (clean_name v.0 f.0) in
    let p = stands t.1.0 v.1.0 m.1.0 c.1.0 (clean_store v.1.0 f.1) in (
      (
        (unescaped t.0 v.0 m.0 c.0 (clean_name v.0 f.0), subst Name (sym n) f.0),
        (unescaped t.1.0 v.1.0 m.1.0 c.1.0 (clean_store v.1.0 f.1), subst StorePath (sym p) f.1),
      ),
      (unescaped t.1.1.0 v.1.1.0 m.1.1.0 c.1.1.0 k.0, unescaped t.1.1.1 v.1.1.1 m.1.1.1 c.1.1.1 k.1),
    )

name_back : (t : Tree string) (v : List ℕ) → v ≡ meaning t → AllByRecursion Proper t → Name v → formed_name [] t
name_back t v e c n = (unescaped t v e c (clean_name v n), subst Name (sym (stands t v e c (clean_name v n))) n)

source_back : (t : Tree string) (v : List ℕ) → v ≡ meaning t → AllByRecursion Proper t → StorePath v → formed_source [] t
source_back t v e c s = (unescaped t v e c (clean_store v s), subst StorePath (sym (stands t v e c (clean_store v s))) s)

input_back : (t : Tree input) (v : Value an_input) → Means an_input t v → Canonical an_input t → FormedInput v → formed_input [] t
input_back t v m c ((s, d), ns) =
    let p = stands t.0 v.0 m.0 c.0 (clean_store v.0 s) in (
      ((unescaped t.0 v.0 m.0 c.0 (clean_store v.0 s), subst StorePath (sym p) s), subst Drv (sym p) d),
      rows_each (formed_name []) [] t.1 (along_back_with (Means text) (AllByRecursion Proper) (formed_name []) Name name_back t.1 v.1 (aligned text 16 t.1 v.1 m.1 c.1.0) c.1.1 ns),
    )

named_back : (t : Tree input) (v : Value an_input) → Means an_input t v → Canonical an_input t → (v.1 ≡ [] → ⊥) → named [] t
named_back t v m c n e = n (along_none (Means text) t.1 v.1 (aligned text 16 t.1 v.1 m.1 c.1.0) e)

module _ (path : List ℕ) where
  brief_back : (t : Tree output) (v : Value an_output) → Means an_output t v → Canonical an_output t → FormedOutput v × (length (output_name path v.0) ≤ 211) → length (output_name path (raw t.0)) ≤ 211
  brief_back t v m c (f, h) = subst (λ (b : List ℕ). length (output_name path b) ≤ 211) (sym (stands t.0 v.0 m.0 c.0 (clean_name v.0 f.0))) h

blank_back : (t : Tree output) (v : Value an_output) → Means an_output t v → Canonical an_output t → BlankOutput v → blank t
blank_back t v m c b =
    let k = blank_clean v b in
    (stands t.1.1.0 v.1.1.0 m.1.1.0 c.1.1.0 k.0 ∙ b.0, stands t.1.1.1 v.1.1.1 m.1.1.1 c.1.1.1 k.1 ∙ b.1)

hashed_back : (t : Tree output) (v : Value an_output) → Means an_output t v → Canonical an_output t → OutputClean v → HashedOutput v → hashed t
hashed_back t v m c (f, k) h = (
  stands t.0 v.0 m.0 c.0 (clean_name v.0 f.0) ∙ h.0,
  subst (λ (a : List ℕ). Given a (raw t.1.1.1)) (sym (stands t.1.1.0 v.1.1.0 m.1.1.0 c.1.1.0 k.0))
      (subst (Given v.1.1.0) (sym (stands t.1.1.1 v.1.1.1 m.1.1.1 c.1.1.1 k.1)) h.1),
)

fixed_back : (ts : List (Tree output)) (vs : List (Value an_output)) → Along (Means an_output) ts vs → AllByRecursion (Canonical an_output) ts → AllByRecursion OutputClean vs → FixedValue vs → FixedFile ts
fixed_back [] vs a c k f = absurd (filled f.only [] (sym f.whole ∙ along_none (Means an_output) [] vs a refl))
fixed_back (t ∷ ts) vs a c k f =
    let b : Along (Means an_output) (t ∷ ts) (f.only ∷ []) = subst (Along (Means an_output) (t ∷ ts)) f.whole a in
    let n : AllByRecursion OutputClean (f.only ∷ []) = subst (AllByRecursion OutputClean) f.whole k in
    record { only = t; whole = ap (λ (l : List (Tree output)). t ∷ l) (none ts b.1); given = hashed_back t f.only b.0 c.0 n.0 f.given }
  where
    none : (us : List (Tree output)) → Along (Means an_output) us [] → us ≡ []
    none [] z = refl
    none (u ∷ us) z = absurd z

names_rise : (t : Tree input) → Canonical an_input t → Throughout (fresh (λ n. n)) [] t.1
names_rise t c = new_from_rising (λ n. n) t.1 c.1.0

pub again : (path : List ℕ) (x : Tree derivation) (m : Meaning) → Means a_derivation x m → Canonical a_derivation x → ProperMeaning path m → Passes path x
again path x m means c p =
    let outs = aligned an_output 16 x.0 m.0 means.0 c.0.0 in
    let ins = aligned an_input 64 x.1.0 m.1.0 means.1.0 c.1.0.0 in
    let srcs = aligned text 64 x.1.1.0 m.1.1.0 means.1.1.0 c.1.1.0.0 in
    let clean : AllByRecursion OutputClean m.0 = all_both FormedOutput CleanColumns m.0 p.outputs (columns m.0 p.fixed) in
    record {
      some = λ e. p.some (along_none (Means an_output) x.0 m.0 outs e);
      names = along_back_with (Means an_input) (Canonical an_input) (named []) (λ i. i.1 ≡ [] → ⊥) named_back x.1.0 m.1.0 ins c.1.0.1 p.names;
      outputs = along_back_with (Means an_output) (Canonical an_output) (formed_output []) OutputClean output_back x.0 m.0 outs c.0.1 clean;
      inputs = along_back_with (Means an_input) (Canonical an_input) (formed_input []) FormedInput input_back x.1.0 m.1.0 ins c.1.0.1 p.inputs;
      sources = along_back_with (Means text) (AllByRecursion Proper) (formed_source []) StorePath source_back x.1.1.0 m.1.1.0 srcs c.1.1.0.1 p.sources;
      new_outputs = new_from_rising (λ o. o.0) x.0 c.0.0;
      new_inputs =
          through_both (fresh (λ i. i.0)) (λ _ i. Throughout (fresh (λ n. n)) [] i.1) [] x.1.0 (new_from_rising (λ i. i.0) x.1.0 c.1.0.0)
          (rows_each (λ i. Throughout (fresh (λ n. n)) [] i.1) [] x.1.0 (All-weaker (Canonical an_input) (λ i. Throughout (fresh (λ n. n)) [] i.1) names_rise x.1.0 c.1.0.1));
      new_sources = new_from_rising (λ s. s) x.1.1.0 c.1.1.0.0;
      new_variables = new_from_rising (λ v. v.0) x.1.1.1.1.1.1 c.1.1.1.1.1.1.0;
      fixed = way outs clean p.fixed;
      brief =
          along_back_with (Means an_output) (Canonical an_output) (λ o. length (output_name path (raw o.0)) ≤ 211) (λ v. FormedOutput v × (length (output_name path v.0) ≤ 211)) (brief_back path) x.0 m.0 outs c.0.1
          (all_both FormedOutput (λ v. length (output_name path v.0) ≤ 211) m.0 p.outputs p.brief);
    }
  where
    way : Along (Means an_output) x.0 m.0 → AllByRecursion OutputClean m.0 → FixedValue m.0 ⊎ AllByRecursion BlankOutput m.0 → FixedFile x.0 ⊎ AllByRecursion blank x.0
    way outs clean (inl f) = inl (fixed_back x.0 m.0 outs c.0.1 clean f)
    way outs clean (inr b) = inr (along_back_with (Means an_output) (Canonical an_output) blank BlankOutput blank_back x.0 m.0 outs c.0.1 b)

-- ---- keys that differ

row_apart : (ts : List (Tree output)) → AllByRecursion (Apart an_output) ts
row_apart [] = tt
row_apart (t ∷ ts) = ((tt, (tt, (tt, tt))), row_apart ts)

variable_apart : (ts : List (Tree variable)) → AllByRecursion (Apart a_variable) ts
variable_apart [] = tt
variable_apart (t ∷ ts) = ((tt, tt), variable_apart ts)

string_apart : (ts : List (Tree string)) → AllByRecursion (Apart text) ts
string_apart [] = tt
string_apart (t ∷ ts) = (tt, string_apart ts)

input_apart : (t : Tree input) → Throughout (fresh (λ n. n)) [] t.1 → Apart an_input t
input_apart t f = (tt, (different (λ n. n) t.1 f, string_apart t.1))

pub keys_apart : (path : List ℕ) (x : Tree derivation) → Passes path x → Apart a_derivation x
keys_apart path x p = (
  (different (λ o. o.0) x.0 p.new_outputs, row_apart x.0),
  (
    (
      different (λ i. i.0) x.1.0 (through_map different_input (fresh (λ i. i.0)) (λ ys i d. d.0) [] x.1.0 p.new_inputs),
      All-weaker (λ i. Throughout (fresh (λ n. n)) [] i.1) (Apart an_input) input_apart x.1.0 (each_row (λ i. Throughout (fresh (λ n. n)) [] i.1) [] x.1.0 (through_map different_input (λ _ i. Throughout (fresh (λ n. n)) [] i.1) (λ ys i d. d.1) [] x.1.0 p.new_inputs)),
    ),
    (
      (different (λ s. s) x.1.1.0 p.new_sources, string_apart x.1.1.0),
      (tt, (tt, (string_apart x.1.1.1.1.1.0, (different (λ v. v.0) x.1.1.1.1.1.1 p.new_variables, variable_apart x.1.1.1.1.1.1)))),
    ),
  ),
)
