use Rattle.std.proofs.Common.{◌≡◌, ℕ, ◌≤◌, List, ◌++◌, length, take, drop, ap, rules, arith}
use Rattle.sink.specs.Write.{Taken}
use Rattle.sink.specs.Buffer.{pushing, buffered}
use Rattle.sink.proofs.Buffers.{text_from_new}
use Rattle.report.proofs.whole.write_whole.Goals as goal

-- what a new writer has taken fits its buffer, and stands at its start
taken_whole : (xs zs : List ℕ) (a b m : ℕ) {ys : List ℕ} {d : ℕ} (n : ℕ) (text : List ℕ) {r : ℕ} → zs ≡ xs → b ≡ a → m ≡ 0
    → Taken pushing (buffered zs b m) text (buffered ys d n) → r ≡ length (take n ys) → (out : List ℕ) → (a ≡ d → out ≡ ys)
    → (r ≡ length text) × (length text ≤ length xs) × (out ≡ text ++ drop r xs)
taken_whole xs zs a b m {ys} {d} n text {r} p q s taken count out tied =
    let e = text_from_new xs zs a b m n text p q s taken count out tied in
    (e.0, omega (arith, taken.0, ap length p), e.1)

-- the last fact: when the loan ends the lent buffer holds what the writer's does, if that is still the same loan
pub returns : goal.returns
returns g c =
    let w = c.new-writer.ensures in
    taken_whole c.args.out.now _ _ _ _ c.write_to.new.sink.at (g.T.ToSink.bytes c.args.what.now) (ap (λ b. b.now) w.0) (ap (λ b. b.ghost_name) w.0) w.1 c.in_ok-write_to.ensures.told c.count.ensures _ (search rules)
