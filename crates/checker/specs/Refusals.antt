-- Why a call is refused: the first question with the answer no decides, and its number is the result.
-- Source: this project's own rule (docs/CALLS.md, "Calls").
use Rattle.std.specs.Prelude.{◌≡◌, ℕ, ◌⊎◌}
use Rattle.checker.specs.declared.refused.CallRefusal.{CallRefusal}
use Rattle.checker.specs.declared.refused.CallRefusal.TheVariants.{NotOpened, VisitOut, NonePending, NotTaken, NoFile, NoHash, NoOutput, NotRead, Short}

abbrev pub call_number : CallRefusal → ℕ
call_number NotOpened = 31
call_number VisitOut = 32
call_number NonePending = 33
call_number NotTaken = 34
call_number NoFile = 35
call_number NoHash = 36
call_number NoOutput = 37
call_number NotRead = 38
call_number Short = 39

-- a question, the refusal where its answer is no, and the questions after it: whether e is the refusal
abbrev pub Ask : Type 0 → CallRefusal → (CallRefusal → Type 0) → CallRefusal → Type 0
Ask Yes f rest e = ((Yes → ⊥) × (e ≡ f)) ⊎ (Yes × rest e)

-- no more questions: no refusal
abbrev pub Done : CallRefusal → Type 0
Done e = ⊥
