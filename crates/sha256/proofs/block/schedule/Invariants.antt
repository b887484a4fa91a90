use Rattle.std.proofs.Common.{◌≡◌, ◌*◌, length, take}
use Rattle.sha256.specs.Fips.{schedule}
use Rattle.sha256.proofs.block.schedule.Given as goal

abbrev pub invariant-first : goal.invariant-first
invariant-first l = (length l.w ≡ 64) × (take l.t l.w ≡ schedule l.t l.block)

abbrev pub invariant-rest : goal.invariant-rest
invariant-rest l = (length l.w ≡ 64) × (take (8 * l.q) l.w ≡ schedule (8 * l.q) l.block)
