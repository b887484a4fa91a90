use Rattle.std.proofs.Common.{◌≡◌, take, subst, rules}
use Rattle.std.specs.List.{AllZip}
use Rattle.std.proofs.lemmas.List.{take_all}
use Rattle.aterm.proofs.Changing.{one_changed}
use Rattle.canonical.proofs.Arranging.{Moves, along_zip, arranged_rows}
use Rattle.canonical.proofs.row.arrange.Goals as goal

pub loop-i-preserved : goal.loop-i-preserved
loop-i-preserved g c =
    let k = g.T.Canon.kind in
    let value = g.T.Canon.value c.args.text.now in
    let is = c.index-rows-i.is in
    one_changed (Moves k value) c.args.rows.now c.loop-i.rows c.loop-i.i c.index-rows-i.result _ (search rules) (search rules) c.loop-i.invariant.0 is c.loop-i.invariant.1
    c.arranged-arranged.ensures

pub returns : goal.returns
returns g c =
    let k = g.T.Canon.kind in
    let value = g.T.Canon.value c.args.text.now in
    let A = Moves k value in
    let olds = c.args.rows.now in
    let news = c.loop-i.rows in
    let i = c.loop-i.i in
    let all_old : take i olds ≡ olds = take_all i olds (search rules) in
    let all_new : take i news ≡ news = take_all i news (search rules) in
    let each : AllZip A olds news = subst (λ us. AllZip A us news) all_old (subst (AllZip A (take i olds)) all_new c.loop-i.invariant.1) in
    λ n. arranged_rows k value n olds news c.sort_rows.new.rows (along_zip A A (λ v w h. h) olds news each) c.sort_rows.ensures.shuffled c.sort_rows.ensures.level
