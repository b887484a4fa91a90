use Rattle.std.proofs.Common.{◌≡◌, ℕ, map, refl, ◌∙◌, rules}
use Rattle.std.specs.List.{range_with_len}
use Rattle.std.proofs.lemmas.List.FromFn.{fill_by_all}
use Rattle.store_path.proofs.Made.{made}
use Rattle.checker.specs.Reports.{call_at, report_calls}
use Rattle.checker.specs.declared.call.Call.{Call}
use Rattle.checker.specs.declared.call.Call.TheVariants.{Take}
use Rattle.checker.proofs.reports.calls.Goals as goal

in_order : map call_at (range_with_len 0 768) ≡ report_calls
in_order = refl

pub returns : goal.returns
returns c =
    let each = made c.from_fn.result (λ (i : ℕ) (y : Call). y ≡ call_at i) 768 Take (λ i y q low called. (search rules, search rules)) c.from_fn.ensures.items in
    fill_by_all call_at c.from_fn.result 768 Take c.from_fn.ensures.items.long each ∙ in_order
