use Rattle.std.proofs.Common.{◌≡◌, ◌+◌, ◌≤◌, length, get_or, drop, sym, ◌∙◌, subst, arith}
use Rattle.aterm.specs.declared.fault.Cause.TheVariants.{Byte}
use Rattle.aterm.specs.declared.part.Mode.{Mode}
use Rattle.aterm.specs.declared.part.Mode.TheVariants.{Plain, Escaped}
use Rattle.aterm.specs.Grammar.{signs, string, write}
use Rattle.aterm.specs.Reads.{Written, Stops, Spans}
use Rattle.aterm.proofs.Strings.{Sofar, by_place, closed, open_end, on_plain, on_slash, on_escaped, ordinary_from}
use Rattle.aterm.proofs.part.SpanPart.rest.Goals as goal
use Rattle.aterm.proofs.part.SpanPart.rest.Goals.{in-Plain-eq92, in-Plain-default, in-Escaped-default}

pub returns-in-Plain-eq34 : goal.returns-in-Plain-eq34
returns-in-Plain-eq34 c = λ t e.
    let u = c.args.reader.now.text.now in
    let at = c.args.reader.now.at in
    let end = at + c.loop-i.i in
    let i = c.loop-i.invariant in
    let b = by_place u at c.loop-i.i c.loop-i-test.true in
    (i.0 ∙ e, subst (λ l. Written (write string) (λ cs. Spans l at at end cs) l at (end + 1)) e (closed u at end (omega arith) b.0 (sym b.1 ∙ c.in-Plain-eq34.is-1) (subst (Sofar u at end) c.in-Plain-eq34.is-0 i.2)))

pub loop-i-preserved : goal.loop-i-preserved
loop-i-preserved c =
    let t = c.args.reader.now.text.now in
    let at = c.args.reader.now.at in
    let e = at + c.loop-i.i in
    let h : at ≤ e = omega arith in
    let next : e + 1 ≡ at + (c.loop-i.i + 1) = omega arith in
    let b = by_place t at c.loop-i.i c.loop-i-test.true in
    let i = c.loop-i.invariant in
    let back : (m : Mode) → c.loop-i.mode ≡ m → Sofar t at e m = λ m q. subst (Sofar t at e) q i.2 in
    let on : (m : Mode) → c.match-mode.mode ≡ m → Sofar t at (e + 1) m → Sofar t at (at + (c.loop-i.i + 1)) c.match-mode.mode = λ m q s. subst (λ j. Sofar t at j c.match-mode.mode) next (subst (Sofar t at (e + 1)) (sym q) s) in (
      i.0,
      i.1,
      elim c.match-mode.branch [
        | in-Plain-eq92 w ↦ on Escaped w.mode-is (on_slash t at e h b.0 (sym b.1 ∙ w.in-Plain-eq92.is-1) (back Plain w.in-Plain-eq92.is-0))
        | in-Plain-default w ↦ on Plain (w.mode-is ∙ w.in-Plain-default.is-0) (on_plain t at e h b.0 (ordinary_from (get_or t e 0) (λ q. omega (arith, b.1)) (λ q. omega (arith, b.1))) (back Plain w.in-Plain-default.is-0))
        | in-Escaped-default w ↦ on Plain w.mode-is (on_escaped t at e h b.0 (back Escaped w.in-Escaped-default.is-0))
      ],
    )

pub returns : goal.returns
returns c = λ t e.
    let u = c.args.reader.now.text.now in
    let at = c.args.reader.now.at in
    let i = c.loop-i.invariant in
    let here : at + c.loop-i.i ≡ length u = omega arith in
    (i.0 ∙ e, subst (λ l. Stops (write string) (drop at (signs l)) at (length u) Byte) e (open_end u at c.loop-i.mode c.args.reader.now.inside (subst (λ n. Sofar u at n c.loop-i.mode) here i.2)))
