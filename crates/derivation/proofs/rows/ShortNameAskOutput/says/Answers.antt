use Rattle.std.proofs.Common.{rules, tests, ◌≡◌, ◌+◌, leb, length, ap, ◌∙◌, arith}
use Rattle.std.proofs.lemmas.Bool.Decides.{Decides-like, not_from_Decides}
use Rattle.aterm.specs.Grammar.{raw}
use Rattle.derivation.specs.Questions.{name_length}
use Rattle.derivation.proofs.Held.{decides_leb, called_out, name_out, name_other, under}
use Rattle.derivation.proofs.rows.ShortNameAskOutput.says.Goals as goal

pub returns-then-eq : goal.returns-then-eq
returns-then-eq c = λ from xs at x a h.
    let n = c.args.self.now.stem in
    let cut = c.bytes-name.ensures ∙ h.0.cut in
    let d = called_out _ (raw x.0) cut c.eq.result c.eq.ensures in
    let l : name_length n (raw x.0) ≡ n = name_out n (raw x.0) (d.0 c.if-eq.true) in
    Decides-like (leb n 211) (λ p. omega arith) (λ p. omega arith) (decides_leb n 211)

pub returns : goal.returns
returns c = λ from xs at x a h.
    let n = c.args.self.now.stem in
    let cut = c.bytes-name.ensures ∙ h.0.cut in
    let d = called_out _ (raw x.0) cut c.eq.result c.eq.ensures in
    let l : name_length n (raw x.0) ≡ n + (1 + length (raw x.0)) = name_other n (raw x.0) (not_from_Decides c.eq.result d c.if-eq.false) in
    let k = ap length cut in
    let m = length c.bytes-name.result.now in
    Decides-like c.is_some_and.result (λ p. omega arith) (λ p. omega arith)
    (under _ m n c.checked_sub.result c.checked_sub.ensures c.is_some_and.result _ c.is_some_and.ensures (λ k p. search (rules, tests)))
