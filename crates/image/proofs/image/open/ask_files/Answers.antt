use Rattle.std.proofs.Common.{rules}
use Rattle.image.specs.Opening.{InsideAt, NamedAt, New}
use Rattle.image.proofs.Asked.{asked}
use Rattle.image.proofs.image.open.ask_files.Goals as goal

pub returns-in_err-map_err : goal.returns-in_err-map_err
returns-in_err-map_err c =
    let inside = asked (InsideAt c.args.chain.now.bytes.now) c.ask_each.ensures (λ m b h says. search rules) in
    search rules

pub returns-in_err-map_err-2 : goal.returns-in_err-map_err-2
returns-in_err-map_err-2 c =
    let inside = asked (InsideAt c.args.chain.now.bytes.now) c.ask_each.ensures (λ m b h says. search rules) in
    let named = asked (NamedAt c.args.chain.now.bytes.now) c.ask_each-2.ensures (λ m b h says. search rules) in
    search rules

pub returns : goal.returns
returns c =
    let inside = asked (InsideAt c.args.chain.now.bytes.now) c.ask_each.ensures (λ m b h says. search rules) in
    let named = asked (NamedAt c.args.chain.now.bytes.now) c.ask_each-2.ensures (λ m b h says. search rules) in
    let new = asked (New c.args.chain.now.bytes.now) c.ask_each-3.ensures (λ m b h says. search rules) in
    search rules
