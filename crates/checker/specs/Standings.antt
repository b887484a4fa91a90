-- How the files that a file's input rows name stand, by what is kept of the rows and by the states of the files.
-- Source: this project's own rule (docs/CALLS.md, "Calls").
use Rattle.std.specs.Prelude.{◌≡◌, ℕ, ◌<◌, ◌⊎◌, cond, Some, None, Option, ◌≢◌, slice_index_or}
use Rattle.links.specs.declared.link.Link.{Link}
use Rattle.links.specs.declared.link.Links.{Links}
use Rattle.checker.specs.declared.standing.Standing.{Standing}
use Rattle.checker.specs.declared.standing.Standing.TheVariants.{Absent, Unowned, Unhashed, Waiting, Hashed}
use Rattle.checker.specs.declared.state.State.{State}
use Rattle.checker.specs.declared.state.State.TheVariants.{Pending, Taken, Settled}

abbrev pub state_standing : State → Standing
state_standing Pending = Waiting
state_standing Taken = Waiting
state_standing (Settled s) = elim s.hashes [ Some h ↦ Hashed | None ↦ Unhashed ]

-- of a row that names no file, and of one that does
abbrev pub standing_in : (ℕ → State) → Option Link → Standing
standing_in row None = Absent
standing_in row (Some l) = cond l.owned (state_standing (row l.file)) Unowned

-- the first row whose file stands so, or none
abbrev pub FirstLink : (ℕ → State) → Links → Standing → Option ℕ → Type 0
FirstLink row l wanted None = (i : ℕ) → i < l.count → standing_in row (slice_index_or l.rows i None) ≢ wanted
FirstLink row l wanted (Some i) =
    (i < l.count) × (standing_in row (slice_index_or l.rows i None) ≡ wanted) × ((j : ℕ) → j < i → standing_in row (slice_index_or l.rows j None) ≢ wanted)

-- the file of some row stands so
abbrev pub SomeLink : (ℕ → State) → Links → Standing → Type 0
SomeLink row l wanted = (i : ℕ) × (i < l.count) × (standing_in row (slice_index_or l.rows i None) ≡ wanted)

-- and the file of every row
abbrev pub EveryLink : (ℕ → State) → Links → Standing → Type 0
EveryLink row l wanted = (i : ℕ) → i < l.count → standing_in row (slice_index_or l.rows i None) ≡ wanted

-- some row's file is absent, does not own an output that is wanted, or is settled without a hash
abbrev pub LinksFaulty : (ℕ → State) → Links → Type 0
LinksFaulty row l = SomeLink row l Absent ⊎ (SomeLink row l Unowned ⊎ SomeLink row l Unhashed)

-- that, or every row's file is settled with a hash
abbrev pub LinksReady : (ℕ → State) → Links → Type 0
LinksReady row l = LinksFaulty row l ⊎ EveryLink row l Hashed
