use Rattle.std.proofs.Common.{◌≡◌, ℕ, List, ◌∷◌, ◌++◌, ap}
use Rattle.canonical.specs.Kinds.{text, rising, one, canon, canons}
use Rattle.canonical.specs.Meanings.{an_input}
use Rattle.sink.proofs.Writing.{as_text, then, stop}
use Rattle.sink.specs.Numerals.{hex}
use Rattle.right_paths.specs.declared.hash_input.HashInput.{HashInput}
use Rattle.right_paths.specs.Inputs.{hash_input_value}
use Rattle.right_paths.proofs.HexOrder.{quoted_hex}
use Rattle.right_paths.proofs.hash_input_canon.HashInputCanon.write_text.Goals as goal

abbrev rest : List ℕ → HashInput → List ℕ
rest t v = 44 ∷ canons (one (rising 16 text)) (hash_input_value t v).1

-- the text in the pieces in which it is written
pieces : (t : List ℕ) (v : HashInput) → 40 ∷ 34 ∷ (hex v.hash.bytes ++ (34 ∷ rest t v)) ≡ canon an_input (hash_input_value t v)
pieces t v = ap (λ (w : List ℕ). 40 ∷ 34 ∷ w) (quoted_hex v.hash.bytes (rest t v))

pub returns-in_err-write_hex : goal.returns-in_err-write_hex
returns-in_err-write_hex g c =
    as_text (pieces c.args.text.now c.args.self.now)
    (then c.in_ok-write.ensures.writes
    (stop _ c.in_err-write_hex.ensures.writes c.from_residual-in_err-write_hex.ensures.0))

pub returns-in_err-write-2 : goal.returns-in_err-write-2
returns-in_err-write-2 g c =
    as_text (pieces c.args.text.now c.args.self.now)
    (then c.in_ok-write.ensures.writes
    (then c.in_ok-write_hex.ensures.writes
    (stop _ c.in_err-write-2.ensures.writes c.from_residual-in_err-write-2.ensures.0)))

pub returns-in_err-write_after : goal.returns-in_err-write_after
returns-in_err-write_after g c =
    as_text (pieces c.args.text.now c.args.self.now)
    (then c.in_ok-write.ensures.writes
    (then c.in_ok-write_hex.ensures.writes
    (then c.in_ok-write-2.ensures.writes
    (stop _ c.in_err-write_after.ensures c.from_residual-in_err-write_after.ensures.0))))

pub returns : goal.returns
returns g c =
    as_text (pieces c.args.text.now c.args.self.now)
    (then c.in_ok-write.ensures.writes
    (then c.in_ok-write_hex.ensures.writes
    (then c.in_ok-write-2.ensures.writes
    (then c.in_ok-write_after.ensures c.write-3.ensures.writes))))
