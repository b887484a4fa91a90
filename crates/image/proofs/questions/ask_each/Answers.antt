use Rattle.std.proofs.Common.{None, Some, true, false, arith, rules, tests}
use Rattle.std.proofs.lemmas.Iterator.{first_from_Range}
use Rattle.image.proofs.questions.ask_each.Goals as goal

pub slot-requires : goal.slot-requires
slot-requires g c =
    let r = first_from_Range (record { start = 0; end = c.args.chain.now.count }) c.find-refused.new.self _ (Some c.in-Some.n) (λ n. goal.F-post g c.args.ask n false) (λ n. goal.F-post g c.args.ask n true) c.in-Some.ensures.ran (λ x q k. search (rules, tests)) (λ x q k. (search (rules, tests), search (rules, tests))) in
    omega (arith, r.1)

pub returns-in-Some : goal.returns-in-Some
returns-in-Some g c =
    let r = first_from_Range (record { start = 0; end = c.args.chain.now.count }) c.find-refused.new.self _ (Some c.in-Some.n) (λ n. goal.F-post g c.args.ask n false) (λ n. goal.F-post g c.args.ask n true) c.in-Some.ensures.ran (λ x q k. search (rules, tests)) (λ x q k. (search (rules, tests), search (rules, tests))) in
    record { told = record { after = c.in-Some.n; below = r.1; before = λ m h. r.3 m (omega arith) h; refused = r.2; tells = search (rules, c.slot.ensures.1) } }

pub returns : goal.returns
returns g c =
    let r = first_from_Range (record { start = 0; end = c.args.chain.now.count }) c.find-refused.new.self _ None (λ n. goal.F-post g c.args.ask n false) (λ n. goal.F-post g c.args.ask n true) c.in-None.ensures.ran (λ x q k. search (rules, tests)) (λ x q k. (search (rules, tests), search (rules, tests))) in
    record { told = λ m h. r m (omega arith) h }
