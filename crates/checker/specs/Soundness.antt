-- What holds between calls of a checker whose files are settled with one kind of digest sink: settled rows are right, at most one file is taken,
-- a taken file is ready or no waiting file is, and the inputs of a file settled with a hash are settled with one.
-- Source: this project's own rule (docs/CALLS.md, "Calls").
use Rattle.std.specs.Prelude.{◌≡◌, ℕ, ◌⊎◌, Some, None}
use Rattle.canonical.specs.Meanings.{Meaning}
use Rattle.hash_modulo.specs.Hashes.{Hashed}
use Rattle.hash_modulo.specs.Sets.{Bytes, Files, Means, Row, Names, Hashable}
use Rattle.verdict.specs.Judged.{Judged}
use Rattle.checker.specs.Calls.{Kind, D, MaskedHash}
use Rattle.checker.specs.Views.{View, files, path_at, Exists, NumberOf, PendingAt, TakenAt, HashedAt, ReadyFile}
use Rattle.checker.specs.declared.state.Hashes.{Hashes}
use Rattle.checker.specs.declared.state.Settlement.{Settlement}
use Rattle.checker.specs.declared.state.State.TheVariants.{Settled}

-- what is kept of a settled file at p is the definition's
pub record RowRight (kind : Kind) (set : Files) (p : Bytes) (s : Settlement) : Type 0 where
  pub verdict : Judged set (D kind) p s.verdict
  pub hash : (h : Hashes) → s.hashes ≡ Some h → Hashed set (D kind) p h.hash.bytes
  pub masked : (h : Hashes) → s.hashes ≡ Some h → MaskedHash set (D kind) p h.masked
  pub without : s.hashes ≡ None → Hashable set p → ⊥

-- pending or taken
abbrev pub WaitingAt : View → ℕ → Type 0
WaitingAt v k = PendingAt v k ⊎ TakenAt v k

abbrev pub NoneReady : View → Type 0
NoneReady v = (j : ℕ) → WaitingAt v j → ReadyFile v j → ⊥

-- each input of the file k is settled with a hash
abbrev pub InputsHashedAt : View → ℕ → Type 0
InputsHashedAt v k = (m : Meaning) → Means (files v) (path_at v k) m → (r : Row) → Names m r → (j : ℕ) × (h : Hashes) × NumberOf v r.0 j × HashedAt v j h

pub record SoundView (kind : Kind) (v : View) : Type 0 where
  pub right : (k : ℕ) (s : Settlement) → Exists v k → v.row k ≡ Settled s → RowRight kind (files v) (path_at v k) s
  pub one : (j k : ℕ) → TakenAt v j → TakenAt v k → j ≡ k
  pub held : (k : ℕ) → TakenAt v k → ReadyFile v k ⊎ NoneReady v
  pub inputs : (k : ℕ) (h : Hashes) → HashedAt v k h → InputsHashedAt v k
