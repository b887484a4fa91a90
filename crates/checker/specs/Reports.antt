-- What the report of an image says: the line of its refusal, or a line a file with its verdict, and then the last line; and the calls by which
-- the verdicts are had.
-- Source: this project's own report (docs/FORMATS.md, "Report").
use Rattle.std.specs.Prelude.{◌≡◌, ℕ, zero, suc, ◌+◌, ◌-◌, ◌%◌, ◌^◌, cond, nat_lt, ◌==◌, List, [], ◌∷◌, ◌++◌, length, Some, None, Ok, Err, Option, Result, slice_index_or}
use Rattle.hash_modulo.specs.Sets.{Bytes}
use Rattle.image.specs.Layout.{file_path}
use Rattle.image.specs.Opening.{Opens, Refused}
use Rattle.image.specs.declared.refusal.Refusal.{Refusal}
use Rattle.links.specs.Sets.{set_of}
use Rattle.report.specs.Texts.{line_text, tail_text, refused_text}
use Rattle.sink.specs.Write.{Step, Held, Writes}
use Rattle.sink.specs.Write as sinks
use Rattle.verdict.specs.Verdicts.{Verdict, verdict_details}
use Rattle.checker.specs.Calls.{Kind}
use Rattle.checker.specs.Opened.{open_number, open_slot}
use Rattle.checker.specs.Theorem.{VerdictRight, Numbered, Total}
use Rattle.checker.specs.declared.call.Answer.{Answer}
use Rattle.checker.specs.declared.call.Answer.TheVariants as answers
use Rattle.checker.specs.declared.call.Call.{Call}
use Rattle.checker.specs.declared.call.Call.TheVariants as calls
use Rattle.checker.specs.declared.call.Offer.TheVariants.{LastTaken}
use Rattle.checker.specs.declared.refused.OpenRefusal.TheVariants.{Image}

-- ---- the report

-- the line of each of these verdicts, the first of which is that of the file k
abbrev pub file_lines : ℕ → List Verdict → List ℕ
file_lines k [] = []
file_lines k (w ∷ ws) = line_text k (Some (verdict_details w)) ++ file_lines (suc k) ws

-- how many of these verdicts are that the file is accepted
abbrev pub accepted_in : List Verdict → ℕ
accepted_in [] = 0
accepted_in (Ok tt ∷ ws) = suc (accepted_in ws)
accepted_in (Err f ∷ ws) = accepted_in ws

-- a line a file, and then the last line
abbrev pub report_text : List Verdict → List ℕ
report_text ws = file_lines 1 ws ++ tail_text (length ws) (accepted_in ws)

-- these are the verdicts of the n files of the image, in their order
pub record AllJudged (kind : Kind) (img : Bytes) (n : ℕ) (ws : List Verdict) : Type 0 where
  pub many : length ws ≡ n
  pub right : (k : ℕ) → Numbered n k → VerdictRight kind (set_of img n) (file_path img k) (slice_index_or ws (k - 1) (Ok tt))

-- bs is a report of the image: of 20 any row may be told whose file has no hash, so an image may have several
pub data ReportOf (kind : Kind) (img : Bytes) (bs : List ℕ) : Type 0 where
  refused : (e : Refusal) → Refused img e → bs ≡ refused_text (open_number (Image e)) (open_slot (Image e)) → ReportOf kind img bs
  judged : (n : ℕ) → Opens img n → (ws : List Verdict) → AllJudged kind img n ws → bs ≡ report_text ws → ReportOf kind img bs

-- a report of the image is written to a sink that was h, answers r and leaves k
abbrev pub Reported : {T E : Type 0} → Step → Held → Kind → Bytes → Result T E → Held → Type 0
Reported f h kind img r k = (bs : List ℕ) × ReportOf kind img bs × Writes f h bs r k

-- ---- what is digested

-- the files from 1 to n, the last of them first
abbrev pub files_to : ℕ → List ℕ
files_to zero = []
files_to (suc k) = suc k ∷ files_to k

-- the total of a digest sink rises, modulo 2 ^ 64, by as many bytes as are digested for the n files of the image, each of them once
abbrev pub AllDigested : Kind → Bytes → ℕ → (before after : sinks.Meaning) → Type 0
AllDigested kind img n before after = (r : ℕ) × Total kind img n (files_to n) r × (after.total ≡ (before.total + r) % (2 ^ 64))

-- ---- the calls

-- rounds of a take and a settle of what it took, and then these calls
abbrev pub rounds_then : ℕ → List Call → List Call
rounds_then zero cs = cs
rounds_then (suc m) cs = calls.Take ∷ calls.Settle LastTaken ∷ rounds_then m cs

-- the verdicts of m files from the file k on
abbrev pub verdicts_from : ℕ → ℕ → List Call
verdicts_from k zero = []
verdicts_from k (suc m) = calls.Verdict k ∷ verdicts_from (suc k) m

-- as many rounds as an image has files at most, and then as many verdicts
abbrev pub report_calls : List Call
report_calls = rounds_then 256 (verdicts_from 1 256)

-- the call at a place of that list
abbrev pub call_at : ℕ → Call
call_at place = cond (nat_lt place 512) (cond (place % 2 == 0) calls.Take (calls.Settle LastTaken)) (calls.Verdict (place - 511))

-- the verdict that an answer tells, if it tells one
abbrev pub told_by : Answer → Option Verdict
told_by (answers.Taken r) = None
told_by (answers.Settled r) = None
told_by (answers.PutBack r) = None
told_by (answers.Verdict (Ok o)) = o
told_by (answers.Verdict (Err e)) = None
told_by (answers.Written r) = None
told_by (answers.Circle r) = None

abbrev pub verdict_in : Option Answer → Option Verdict
verdict_in None = None
verdict_in (Some a) = told_by a

-- the verdicts that the first answers tell, as far as each tells one
abbrev pub verdicts_in : List (Option Answer) → List Verdict
verdicts_in [] = []
verdicts_in (a ∷ others) = elim (verdict_in a) [ None ↦ [] | Some w ↦ w ∷ verdicts_in others ]
