-- From the rows of one list to all that a question is put to.
use Rattle.std.proofs.Common.{◌≡◌, List, [], ◌∷◌, ◌++◌, Some, None, Option, sym, refl, ap, ◌∙◌, subst, append_assoc}
use Rattle.std.specs.Option.{MatchOption}
use Rattle.std.specs.List.{AllByRecursion}
use Rattle.std.proofs.ByRecursion.{All-append, All-weaker}
use Rattle.aterm.specs.Grammar.{Tree}
use Rattle.aterm.specs.Files.{derivation}
use Rattle.derivation.specs.declared.field.Field.TheVariants.{Outputs}
use Rattle.derivation.specs.declared.spot.Spot.{Spot}
use Rattle.derivation.specs.Asked.{field_number, FirstNo, First}
use Rattle.derivation.specs.Questions.{Entry, all_outputs, output_row, input_row, source_row, variable_row, tagged, output_rows, input_rows, source_rows, variable_rows, entries, named, present}

pub first_like : {E : Type 0} (Y Z : E → Type 0) → ((e : E) → Y e → Z e) → ((e : E) → Z e → Y e) → (rows : List (Spot × E)) (r : Option Spot) → First Y rows r → First Z rows r
first_like Y Z to back rows None f = All-weaker (λ e. Y e.1) (λ e. Z e.1) (λ e. to e.1) rows f
first_like Y Z to back rows (Some w) f = record {
  before = f.before;
  row = f.row;
  after = f.after;
  whole = f.whole;
  clean = All-weaker (λ e. Y e.1) (λ e. Z e.1) (λ e. to e.1) f.before f.clean;
  refused = λ z. f.refused (back f.row z);
}

module _ (Yes : Entry → Type 0) where
  abbrev pub Clear : List (Spot × Entry) → Type 0
  Clear = AllByRecursion (λ e. Yes e.1)

  module _ {E : Type 0} (f : E → Entry) where
    all_tagged : (rows : List (Spot × E)) → AllByRecursion (λ e. Yes (f e.1)) rows → Clear (tagged f rows)
    all_tagged [] a = tt
    all_tagged (e ∷ rows) a = (a.0, all_tagged rows a.1)

    pub all_free : ((e : E) → Yes (f e)) → (rows : List (Spot × E)) → Clear (tagged f rows)
    all_free h [] = tt
    all_free h (e ∷ rows) = (h e.1, all_free h rows)

    tagged_append : (xs ys : List (Spot × E)) → tagged f (xs ++ ys) ≡ tagged f xs ++ tagged f ys
    tagged_append [] ys = refl
    tagged_append (x ∷ xs) ys = ap (λ l. (x.0, f x.1) ∷ l) (tagged_append xs ys)

    pub here : (pre post : List (Spot × Entry)) (rows : List (Spot × E)) (w : Spot) → Clear pre → FirstNo (λ e. Yes (f e)) rows w → FirstNo Yes (pre ++ (tagged f rows ++ post)) w
    here pre post rows w a g = record {
      before = pre ++ tagged f g.before;
      row = f g.row;
      after = tagged f g.after ++ post;
      whole = ap (λ l. pre ++ (l ++ post)) (ap (tagged f) g.whole ∙ tagged_append g.before ((w, g.row) ∷ g.after)) ∙ ap (λ l. pre ++ l) (append_assoc (tagged f g.before) ((w, f g.row) ∷ tagged f g.after) post) ∙ sym (append_assoc pre (tagged f g.before) ((w, f g.row) ∷ (tagged f g.after ++ post)));
      clean = All-append (λ e. Yes e.1) pre (tagged f g.before) a (all_tagged g.before g.clean);
      refused = g.refused;
    }

    -- where the rows of one list stand among the rest
    pub middle : (pre post : List (Spot × Entry)) (rows : List (Spot × E)) (r : Option Spot) → Clear pre → Clear post → First (λ e. Yes (f e)) rows r → First Yes (pre ++ (tagged f rows ++ post)) r
    middle pre post rows None a b g = All-append (λ e. Yes e.1) pre (tagged f rows ++ post) a (All-append (λ e. Yes e.1) (tagged f rows) post (all_tagged rows g) b)
    middle pre post rows (Some w) a b g = here pre post rows w a g

    pub first_tagged : (rows : List (Spot × E)) (r : Option Spot) → First (λ e. Yes (f e)) rows r → First Yes (tagged f rows) r
    first_tagged rows None g = all_tagged rows g
    first_tagged rows (Some w) g = record {
      before = tagged f g.before;
      row = f g.row;
      after = tagged f g.after;
      whole = ap (tagged f) g.whole ∙ tagged_append g.before ((w, g.row) ∷ g.after);
      clean = all_tagged g.before g.clean;
      refused = g.refused;
    }

  pub first_here : (ps qs : List (Spot × Entry)) (w : Spot) → FirstNo Yes ps w → FirstNo Yes (ps ++ qs) w
  first_here ps qs w g = record {
    before = g.before;
    row = g.row;
    after = g.after ++ qs;
    whole = ap (λ l. l ++ qs) g.whole ∙ append_assoc g.before ((w, g.row) ∷ g.after) qs;
    clean = g.clean;
    refused = g.refused;
  }

  pub first_then : (ps qs : List (Spot × Entry)) (r : Option Spot) → Clear ps → First Yes qs r → First Yes (ps ++ qs) r
  first_then ps qs None a g = All-append (λ e. Yes e.1) ps qs a g
  first_then ps qs (Some w) a g = record {
    before = ps ++ g.before;
    row = g.row;
    after = g.after;
    whole = ap (λ l. ps ++ l) g.whole ∙ sym (append_assoc ps g.before ((w, g.row) ∷ g.after));
    clean = All-append (λ e. Yes e.1) ps g.before a g.clean;
    refused = g.refused;
  }

  pub first_front : (ps qs : List (Spot × Entry)) (r : Option Spot) → First Yes ps r → Clear qs → First Yes (ps ++ qs) r
  first_front ps qs None g b = All-append (λ e. Yes e.1) ps qs g b
  first_front ps qs (Some w) g b = first_here ps qs w g

  -- a second part of a list is asked only where the first has no answer
  pub first_else : (ps qs : List (Spot × Entry)) (a r : Option Spot) (P : Type 0) → First Yes ps a → MatchOption a P (λ w. r ≡ Some w) → (P → First Yes qs r) → First Yes (ps ++ qs) r
  first_else ps qs None r P f p g = first_then ps qs r f (g p)
  first_else ps qs (Some w) r P f e g = subst (First Yes (ps ++ qs)) (sym e) (first_here ps qs w f)

abbrev pub one : Tree derivation → Spot × Entry
one x = (record { field = field_number Outputs; row = 0; place = 0 }, all_outputs x.0)

module _ (x : Tree derivation) where
  abbrev pub outs : List (Spot × Entry)
  outs = tagged output_row (output_rows x)

  abbrev pub ins : List (Spot × Entry)
  ins = tagged input_row (input_rows x)

  abbrev pub srcs : List (Spot × Entry)
  srcs = tagged source_row (source_rows x)

  abbrev pub vars : List (Spot × Entry)
  vars = tagged variable_row (variable_rows x)

  -- 13
  pub present_none : x.0 ≡ [] → FirstNo present (entries x) (record { field = field_number Outputs; row = 0; place = 0 })
  present_none e = record {
    before = [];
    row = all_outputs x.0;
    after = outs ++ (ins ++ (srcs ++ vars));
    whole = refl;
    clean = tt;
    refused = λ n. n e;
  }

  pub present_inputs : (x.0 ≡ [] → ⊥) → (r : Option Spot) → First (λ e. named e.0 e.1) (input_rows x) r → First present (entries x) r
  present_inputs n r f =
      middle present input_row (one x ∷ outs) (srcs ++ vars) (input_rows x) r
      (n, all_free present output_row (λ e. tt) (output_rows x))
      (All-append (λ e. present e.1) srcs vars (all_free present source_row (λ e. tt) (source_rows x)) (all_free present variable_row (λ e. tt) (variable_rows x))) f

  -- a question to the outputs alone
  pub outputs_only : (Yes : Entry → Type 0) → Yes (all_outputs x.0) → ((e : _) → Yes (input_row e)) → ((e : _) → Yes (source_row e)) → ((e : _) → Yes (variable_row e)) → (r : Option Spot) → First (λ e. Yes (output_row e)) (output_rows x) r → First Yes (entries x) r
  outputs_only Yes a b c d r f =
      middle Yes output_row (one x ∷ []) (ins ++ (srcs ++ vars)) (output_rows x) r (a, tt)
      (All-append (λ e. Yes e.1) ins (srcs ++ vars) (all_free Yes input_row b (input_rows x)) (All-append (λ e. Yes e.1) srcs vars (all_free Yes source_row c (source_rows x)) (all_free Yes variable_row d (variable_rows x)))) f

  -- a question to each list, one after another
  pub by_lists : (Yes : Entry → Type 0) → Yes (all_outputs x.0) → (o i s v : Option Spot) (I S V : Type 0) → First (λ e. Yes (output_row e)) (output_rows x) o
      → MatchOption o I (λ w. i ≡ Some w) → (I → First (λ e. Yes (input_row e)) (input_rows x) i) → MatchOption i S (λ w. s ≡ Some w) → (S → First (λ e. Yes (source_row e)) (source_rows x) s)
      → MatchOption s V (λ w. v ≡ Some w) → (V → First (λ e. Yes (variable_row e)) (variable_rows x) v) → First Yes (entries x) v
  by_lists Yes top o i s v I S V a p b q c m d =
      subst (λ l. First Yes (one x ∷ l) v) (append_assoc (outs ++ ins) srcs vars ∙ append_assoc outs ins (srcs ++ vars))
      (first_then Yes (one x ∷ []) (((outs ++ ins) ++ srcs) ++ vars) v (top, tt)
      (first_else Yes ((outs ++ ins) ++ srcs) vars s v V
      (first_else Yes (outs ++ ins) srcs i s S
      (first_else Yes outs ins o i I (first_tagged Yes output_row (output_rows x) o a) p (λ z. first_tagged Yes input_row (input_rows x) i (b z)))
      q (λ z. first_tagged Yes source_row (source_rows x) s (c z)))
      m (λ z. first_tagged Yes variable_row (variable_rows x) v (d z))))

  -- a question that the environment is not asked
  pub by_files : (Yes : Entry → Type 0) → Yes (all_outputs x.0) → ((e : _) → Yes (variable_row e)) → (o i s : Option Spot) (I S : Type 0) → First (λ e. Yes (output_row e)) (output_rows x) o
      → MatchOption o I (λ w. i ≡ Some w) → (I → First (λ e. Yes (input_row e)) (input_rows x) i) → MatchOption i S (λ w. s ≡ Some w) → (S → First (λ e. Yes (source_row e)) (source_rows x) s)
      → First Yes (entries x) s
  by_files Yes top free o i s I S a p b q c =
      subst (λ l. First Yes (one x ∷ l) s) (append_assoc outs ins (srcs ++ vars))
      (first_then Yes (one x ∷ []) ((outs ++ ins) ++ (srcs ++ vars)) s (top, tt)
      (first_else Yes (outs ++ ins) (srcs ++ vars) i s S
      (first_else Yes outs ins o i I (first_tagged Yes output_row (output_rows x) o a) p (λ z. first_tagged Yes input_row (input_rows x) i (b z)))
      q (λ z. first_front Yes srcs vars s (first_tagged Yes source_row (source_rows x) s (c z)) (all_free Yes variable_row free (variable_rows x)))))
