-- What a derivation holds of a text says what the tree says.
use Rattle.std.proofs.Common.{◌≡◌, ℕ, ◌+◌, false, List, [], ◌∷◌, ap, ◌∙◌}
use Rattle.aterm.specs.declared.part.Span.{Span}
use Rattle.aterm.specs.declared.rows.Placed.{Placed}
use Rattle.aterm.specs.declared.file.Output.{Output}
use Rattle.aterm.specs.declared.file.Input.{Input}
use Rattle.aterm.specs.declared.file.Variable.{Variable}
use Rattle.aterm.specs.declared.file.Derivation.{Derivation}
use Rattle.aterm.specs.Grammar.{Char, meaning, Tree}
use Rattle.aterm.specs.Reads.{Each, past}
use Rattle.aterm.specs.Files.{output, input, variable, derivation, span, in_output, in_input, in_variable, in_derivation}
use Rattle.aterm.specs.Tables.{rows_of}
use Rattle.aterm.specs.Meaning.{meant}
use Rattle.aterm.proofs.Meaning.{meant_raw}
use Rattle.canonical.specs.Order.{Along}
use Rattle.canonical.specs.Kinds.{Kind, text, shape, Value, Tells}
use Rattle.canonical.specs.Meanings.{an_output, an_input, a_variable, a_derivation}
use Rattle.canonical.specs.Files.{said_in, values, output_value, input_value, variable_value, derivation_value}

pub span_means : (t : List ℕ) (at : ℕ) (v : Span) (cs : List Char) → span t v at cs → said_in t v ≡ meaning cs
span_means t at v cs h = ap (meant false) h.cut ∙ meant_raw cs

pub each_tells : {V : Type 0} (k : Kind) (H : ℕ → V → Tree (shape k) → Type 0) (f : V → Value k) → ((at : ℕ) (v : V) (x : Tree (shape k)) → H at v x → Tells k x (f v))
    → (vs : List (Placed V)) (xs : List (Tree (shape k))) (at : ℕ) → Each (shape k) H at vs xs → Along (Tells k) xs (values f vs)
each_tells k H f h [] [] at e = tt
each_tells k H f h [] (x ∷ xs) at e = absurd e
each_tells k H f h (v ∷ vs) [] at e = absurd e
each_tells k H f h (v ∷ vs) (x ∷ xs) at e = (h (at + 1) v.value x e.0.1, each_tells k H f h vs xs (past (shape k) at x) e.1)

module _ (t : List ℕ) where
  spans_tell : (vs : List (Placed Span)) (xs : List (List Char)) (at : ℕ) → Each (shape text) (λ p v. span t v p) at vs xs → Along (Tells text) xs (values (said_in t) vs)
  spans_tell = each_tells text (λ p v. span t v p) (said_in t) (λ at v x h. span_means t at v x h)

  output_tells : (at : ℕ) (v : Output) (x : Tree output) → in_output t at v x → Tells an_output x (output_value t v)
  output_tells at v x h = (
    span_means t _ v.name x.0 h.0,
    (
      span_means t _ v.path x.1.0 h.1.0,
      (span_means t _ v.algorithm x.1.1.0 h.1.1.0, span_means t _ v.hash x.1.1.1 h.1.1.1),
    ),
  )

  input_tells : (at : ℕ) (v : Input) (x : Tree input) → in_input t at v x → Tells an_input x (input_value t v)
  input_tells at v x h = (span_means t _ v.path x.0 h.0, spans_tell (rows_of v.names) x.1 _ h.1)

  variable_tells : (at : ℕ) (v : Variable) (x : Tree variable) → in_variable t at v x → Tells a_variable x (variable_value t v)
  variable_tells at v x h = (span_means t _ v.name x.0 h.0, span_means t _ v.value x.1 h.1)

  pub derivation_tells : (at : ℕ) (v : Derivation) (x : Tree derivation) → in_derivation t at v x → Tells a_derivation x (derivation_value t v)
  derivation_tells at v x h = (
    each_tells an_output (in_output t) (output_value t) output_tells (rows_of v.outputs) x.0 _ h.0,
    (
      each_tells an_input (in_input t) (input_value t) input_tells (rows_of v.inputs) x.1.0 _ h.1.0,
      (
        spans_tell (rows_of v.sources) x.1.1.0 _ h.1.1.0,
        (
          span_means t _ v.system x.1.1.1.0 h.1.1.1.0,
          (
            span_means t _ v.builder x.1.1.1.1.0 h.1.1.1.1.0,
            (
              spans_tell (rows_of v.arguments) x.1.1.1.1.1.0 _ h.1.1.1.1.1.0,
              each_tells a_variable (in_variable t) (variable_value t) variable_tells (rows_of v.environment) x.1.1.1.1.1.1 _ h.1.1.1.1.1.1,
            ),
          ),
        ),
      ),
    ),
  )
