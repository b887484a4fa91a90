use Rattle.std.proofs.Common.{◌≡◌, ℕ, List, Result, MatchResult, Ok, Err, is_ok, ◌++◌, length, take, subst, ap, sym, ◌∙◌, rules}
use Rattle.std.proofs.lemmas.Bool.{false≢true}
use Rattle.std.proofs.lemmas.List.{take_at}
use Rattle.std.specs.Prelude.{IfOk}
use Rattle.checker.specs.Calls.{Kind}
use Rattle.checker.specs.Settling.{kind_of}
use Rattle.report_text.specs.Text.{IsReport, ReportPut}
use Rattle.report_text.proofs.report_of.Goals as goal

-- the first n bytes of a buffer into which a report of n bytes was written
cut_to : (kind : Kind) (img out after rest cut : List ℕ) (n m : ℕ) → ReportPut kind img out n after → length after ≡ m → cut ≡ take n (take m (after ++ rest)) → IsReport kind img cut
cut_to kind img out after rest cut n m (text, report, long, is) whole parts =
    subst (IsReport kind img) (sym (parts ∙ ap (take n) (take_at after rest m whole ∙ is) ∙ take_at text _ n (sym long))) report

abbrev count_of : {X : Type 0} → Result ℕ X → ℕ
count_of (Ok n) = n
count_of (Err _) = 0

-- a result that is Ok after `map_err` was so before
kept : {E X : Type 0} (Q : E → Type 0) (r : Result ℕ E) (s : Result ℕ X) (n : ℕ) → MatchResult r (λ m. s ≡ Ok m) Q → is_ok s ≡ is_ok r → s ≡ Ok n → r ≡ Ok n
kept Q (Ok m) s n same variant is = ap Ok (ap count_of (sym same ∙ is))
kept Q (Err e) s n other variant is = absurd (false≢true (sym variant ∙ ap is_ok is))

pub returns : goal.returns
returns g c =
    let same : c.report_into.result ≡ Ok c.in_ok-count.count = kept _ c.report_into.result c.map_err.result c.in_ok-count.count c.map_err.ensures.cases c.map_err.ensures.variant c.in_ok-count.was in
    let d = g.D.DigestSink in
    let kind = kind_of g.D.Sink.step d.start d.capacity d.answered d.wide in
    let put = subst (λ (r : Result ℕ _). IfOk r (λ n. ReportPut kind c.args.bytes.now c.deref_mut.result.now n c.report_into.new.out)) same c.report_into.ensures in
    cut_to kind c.args.bytes.now _ _ _ _ _ _ put (search rules) c.truncate.ensures.items
