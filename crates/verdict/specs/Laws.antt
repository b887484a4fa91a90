-- What holds of verdicts.
-- Source: this project's own rule (docs/CALLS.md, "Verdict").
use Rattle.std.specs.Prelude.{◌≡◌, ◌⊎◌, Ok, Err}
use Rattle.canonical.specs.Canonical.{CanonicalText}
use Rattle.canonical.specs.Kinds.{Value}
use Rattle.canonical.specs.Meanings.{an_output, Meaning}
use Rattle.canonical.specs.Order.{Member}
use Rattle.derivation.specs.declared.spot.Spot.{Spot}
use Rattle.hash_modulo.specs.Hashes.{Digest}
use Rattle.hash_modulo.specs.Laws.{Iff, Founded}
use Rattle.hash_modulo.specs.Paths.{OwnPath, OutputPath}
use Rattle.hash_modulo.specs.Sets.{Bytes, Files, Present, Finite, Means}
use Rattle.hash_modulo.specs.Strings.{InputsHashed}
use Rattle.verdict.specs.Judged.{Judged}
use Rattle.verdict.specs.declared.fault.Fault.TheVariants.{Unhashed}
use Rattle.verdict.specs.Verdicts.{Verdict}

-- every file of a finite set has a verdict, whatever the digest
abbrev pub EveryVerdict : Type 0
EveryVerdict = (set : Files) → Finite set → (d : Digest) (p : Bytes) → Present set p → (v : Verdict) × Judged set d p v

-- both say 20, perhaps of other rows
pub record BothUnhashed (v w : Verdict) : Type 0 where
  pub one : Spot
  pub two : Spot
  pub first : v ≡ Err (Unhashed one)
  pub second : w ≡ Err (Unhashed two)

-- and one only, but for the row of 20
abbrev pub OneVerdict : Type 0
OneVerdict = (set : Files) (d : Digest) (p : Bytes) (v w : Verdict) → Judged set d p v → Judged set d p w → (v ≡ w) ⊎ BothUnhashed v w

-- the file reads, and its text is its meaning's only canonical one
pub record OnlyCanonical (set : Files) (p : Bytes) : Type 0 where
  pub meaning : Meaning
  pub means : Means set p meaning
  pub canonical : CanonicalText means.text meaning
  pub only : (bytes : Bytes) → CanonicalText bytes meaning → bytes ≡ means.text

-- its own path, its output paths and their environment rows are those of the definition
pub record RightPaths (set : Files) (d : Digest) (p : Bytes) : Type 0 where
  pub meaning : Meaning
  pub means : Means set p meaning
  pub hashes : Bytes → Bytes
  pub inputs : InputsHashed set d meaning hashes
  pub own : OwnPath d p meaning p
  pub outputs : (o : Value an_output) → Member o meaning.0 → OutputPath d p hashes meaning o o.1.0
  pub variables : (o : Value an_output) → Member o meaning.0 → Member (o.0, o.1.0) meaning.1.1.1.1.1.1

-- the three things by which a file is accepted. The second: it and all files that it rests on are present and read, every input row among them
-- names a file that owns the outputs named, and none of them rests on itself.
pub record Sound (set : Files) (d : Digest) (p : Bytes) : Type 0 where
  pub text : OnlyCanonical set p
  pub founded : Founded set p
  pub paths : RightPaths set d p

-- a file of a finite set is accepted exactly where the three things hold
abbrev pub AcceptedExactly : Type 0
AcceptedExactly = (set : Files) → Finite set → (d : Digest) (p : Bytes) → Iff (Judged set d p (Ok tt)) (Sound set d p)
