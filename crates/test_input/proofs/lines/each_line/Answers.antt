use Rattle.std.proofs.Common.{◌≡◌, Some, sym, subst, ◌∙◌, rules, of_calls, string_bytes}
use Rattle.std.specs.Io.Buffered.{reader_remaining}
use Rattle.std.specs.Io.Iter.{lines_known_bytes}
use Rattle.test_input.specs.Lines.{LinesTaken}
use Rattle.test_input.proofs.LineByLine.{begun, if_known, line_came, none_came, line_goes, lines_end}
use Rattle.test_input.proofs.lines.each_line.Goals as goal

pub loop-line-preserved : goal.loop-line-preserved
loop-line-preserved g c = (
  search (rules, of_calls),
  λ whole e.
      let left = c.loop-line.invariant.1 whole e in
      let came = line_came string_bytes _ _ c.in-Some.line c.in_ok-line.field-0 left.0 c.in_ok-line.was left.1 c.in-Some.ensures.steps.1 in (
        _,
        came.2,
        λ t. left.2 (line_goes g.F.FnMut _ _ _ (string_bytes c.in_ok-line.field-0) came.0 came.1
            (record { shown = _; shows = c.as_str.ensures.value; called = c.in_ok-call_mut.ensures }) t),
      ),
)

pub returns : goal.returns
returns g c = if_known (LinesTaken g.F.FnMut c.args.step) (g.R.Read.remaining c.args.from) (λ text e.
    let known = begun g.R.Read.remaining c.in_ok-new.field-0 c.args.from text c.in_ok-new.ensures.inner c.in_ok-new.ensures.empty c.in_ok-new.ensures.capacity e in
    let left = c.loop-line.invariant.1 text (subst (λ it. lines_known_bytes (reader_remaining g.R.Read.remaining) it ≡ Some text)
    (sym c.into_iter-line-iterator.ensures.into_iter_gives) (c.lines-line-items.ensures ∙ known)) in
    left.2 (lines_end g.F.FnMut _ _ (none_came _ left.0 left.1 c.in-None.ensures.steps.1)))
