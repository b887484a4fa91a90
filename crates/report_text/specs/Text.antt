-- What a text that reports on an image is.
-- Source: this project's own report (docs/FORMATS.md, "Report").
use Rattle.std.specs.Prelude.{◌≡◌, ℕ, cond, List, [], ◌++◌, length, drop, nat_lt}
use Rattle.checker.specs.Calls.{Kind}
use Rattle.checker.specs.Reports.{ReportOf}

-- an input past 65,535 bytes counts as an empty one: an image has neither size
abbrev pub as_read : List ℕ → List ℕ
as_read bs = cond (nat_lt 65535 (length bs)) [] bs

-- the text is a report of what was read
abbrev pub IsReport : Kind → List ℕ → List ℕ → Type 0
IsReport kind img text = ReportOf kind (as_read img) text

-- such a text of n bytes stands at the start of a buffer, and later bytes stay
abbrev pub ReportPut : Kind → List ℕ → List ℕ → ℕ → List ℕ → Type 0
ReportPut kind img out n after = (text : List ℕ) × IsReport kind img text × (n ≡ length text) × (after ≡ text ++ drop n out)
