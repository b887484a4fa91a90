-- Every file of a finite set has a verdict.
use Rattle.std.proofs.Common.{[], None, sym, refl, subst, inl, inr, Ok, Err}
use Rattle.aterm.specs.Files.{input, variable, derivation}
use Rattle.aterm.specs.Grammar.{Tree, meaning}
use Rattle.canonical.specs.Meanings.{Meaning, canonical}
use Rattle.derivation.specs.Asked.{field_number, First, FirstNo}
use Rattle.derivation.specs.Questions.{output_rows, input_rows}
use Rattle.derivation.specs.declared.field.Field.TheVariants.{Inputs, Environment}
use Rattle.derivation.specs.declared.spot.Spot.{Spot}
use Rattle.derivation.proofs.Total.{first}
use Rattle.file_meaning.proofs.Judged.{every_file}
use Rattle.hash_modulo.specs.Hashes.{Digest, Hashed, hashed as hash_of}
use Rattle.hash_modulo.specs.Sets.{Bytes, Files, Finite, Means, Row, Names, Ready, Hashable, hashable}
use Rattle.hash_modulo.specs.Strings.{InputsHashed}
use Rattle.hash_modulo.proofs.Choosing.{present?, owned?, decided}
use Rattle.hash_modulo.proofs.Hashes.{has_hash, one_meaning}
use Rattle.verdict.specs.Judged.{Behind, row_of, output_of, there, owning, UnhashedRow, right_output, in_environment, VariableAt, at, nowhere, PathsJudged, wrong_path, wrong_output, wrong_variable, not_canonical, right, Judged, unread, absent, unowned, unhashed, hashed}
use Rattle.verdict.specs.Laws.{EveryVerdict}
use Rattle.verdict.specs.declared.fault.Fault.TheVariants.{Reading, Absent, Unowned, Unhashed, WrongPath, WrongOutput, WrongVariable, NotCanonical}
use Rattle.verdict.specs.Verdicts.{Verdict}
use Rattle.verdict.proofs.Meant.{ready, input_back}
use Rattle.verdict.proofs.Paths.{own?, output?, environment?}
use Rattle.verdict.proofs.Rows.{each, keyed?, no_stands}
use Rattle.verdict.proofs.Texts.{differ?}

-- ---- questions 21 to 24

variable_at : (x : Tree derivation) (n : Bytes) → (w : Spot) × VariableAt x n w
variable_at x n = elim (keyed? variable Environment (λ v. v.0) n _ [] x.1.1.1.1.1.1) [
  | inl k ↦ (k.spot, at k.row k.stands k.has)
  | inr none ↦ (record { field = field_number Environment; row = 0; place = 0 }, nowhere none refl)
]

module _ (d : Digest) (p text : Bytes) (x : Tree derivation) (g : Bytes → Bytes) (m : Meaning) where
  some_paths : (v : Verdict) × PathsJudged d p text x g m v
  some_paths = elim (own? d p m p) [
    | inr n ↦ (Err WrongPath, wrong_path n refl)
    | inl own ↦ elim (first (right_output d p g m) (λ e. output? d p m g (output_of e.1) (meaning e.1.1.0)) (output_rows x)) [
      | inr z ↦ (Err (WrongOutput z.0), wrong_output own z.0 z.1 refl)
      | inl outs ↦ elim (first (in_environment d p g m x) (environment? d p m g x) (output_rows x)) [
        | inr z ↦ (let w = variable_at x (meaning z.1.row.1.0) in (Err (WrongVariable w.0), wrong_variable own outs z.0 z.1 w.0 w.1 refl))
        | inl env ↦ elim (differ? text (canonical m)) [
          | inr z ↦ (Err (NotCanonical z.0), not_canonical own outs env z.0 z.1 refl)
          | inl e ↦ (Ok tt, right own outs env e refl)
        ]
      ]
    ]
  ]

-- ---- questions 18 to 20

inputs_hashed : (set : Files) (d : Digest) (p : Bytes) (m : Meaning) → Means set p m → Ready set m → ((r : Row) → Names m r → Hashable set r.0)
    → (g : Bytes → Bytes) × InputsHashed set d m g
inputs_hashed set d p m f y all = of (has_hash set d (hashable m f y all)).1
  where
    of : {h : Bytes} → Hashed set d p h → (g : Bytes → Bytes) × InputsHashed set d m g
    of (hash_of n g s e k i z a) = (g, subst (λ (w : Meaning). InputsHashed set d w g) (one_meaning set p n m e f) i)

module _ (set : Files) (fin : Finite set) (d : Digest) (p : Bytes) (m : Meaning) (f : Means set p m) where
  some_verdict : (v : Verdict) × Judged set d p v
  some_verdict =
      let x = f.reads.tree in
      elim (first (there set) (λ e. present? (set (meaning e.1.0))) (input_rows x)) [
        | inr z ↦ (Err (Absent z.0), absent m f z.0 z.1 refl)
        | inl present ↦ elim (first (owning set) (λ e. owned? set (row_of e.1)) (input_rows x)) [
          | inr z ↦ (Err (Unowned z.0), unowned m f present z.0 z.1 refl)
          | inl owned ↦ elim (first Able (λ e. decided set fin (meaning e.1.0)) (input_rows x)) [
            | inr z ↦ (Err (Unhashed z.0), unhashed m f present owned z.0 (without z.0 z.1) refl)
            | inl able ↦ (let g = hashes present owned able in let z = some_paths d p f.text x g.0 m in (z.0, hashed m f present owned g.0 g.1 z.1))
          ]
        ]
      ]
    where
      Able : Behind (Tree input) → Type 0
      Able e = Hashable set (meaning e.1.0)

      without : (w : Spot) → FirstNo Able (input_rows f.reads.tree) w → UnhashedRow set f.reads.tree w
      without w z = record { row = z.row; stands = no_stands Able (input_rows f.reads.tree) w z; without = z.refused }

      hashes : First (there set) (input_rows f.reads.tree) None → First (owning set) (input_rows f.reads.tree) None → First Able (input_rows f.reads.tree) None
          → (g : Bytes → Bytes) × InputsHashed set d m g
      hashes present owned able =
          let x = f.reads.tree in
          let able_row = each input Inputs (λ t. Hashable set (meaning t.0)) _ [] x.1.0 able in
          inputs_hashed set d p m f (ready x m f.reads.means set present owned)
          (λ r i. (let w = input_back x m f.reads.means r i in subst (Hashable set) (sym w.2) (able_row w.0 w.1)))

pub every_verdict : EveryVerdict
every_verdict set fin d p z = elim (every_file p z.0) [
  | inr e ↦ (Err (Reading e.0), unread z.0 z.1 e.0 e.1 refl)
  | inl r ↦ some_verdict set fin d p r.0 (record { text = z.0; at = z.1; reads = r.1 })
]
