-- A file of an image that reads is within the limits that keep its digested strings short.
use Rattle.std.proofs.Common.{◌≤◌, ◌⊎◌, length, inl, inr, arith}
use Rattle.std.specs.List.{AllByRecursion}
use Rattle.canonical.specs.Kinds.{Value, Lawful}
use Rattle.canonical.specs.Meanings.{an_output, a_derivation, Meaning, canonical}
use Rattle.canonical.proofs.Members.{member_all, all_from_member}
use Rattle.canonical.proofs.Unique.{keeps}
use Rattle.file_meaning.proofs.Again.{short}
use Rattle.file_meaning.proofs.Trees.{passes}
use Rattle.file_meaning.proofs.Values.{FormedOutput, BlankOutput, FixedValue, ProperMeaning, proper}
use Rattle.hash_modulo.specs.Hashes.{Fixed}
use Rattle.hash_modulo.specs.Laws.{WithinLimits}
use Rattle.hash_modulo.specs.Strings.{Blank}

columns : (m : Meaning) → FixedValue m.0 ⊎ AllByRecursion BlankOutput m.0 → Fixed m ⊎ AllByRecursion Blank m.0
columns m (inl f) = inl (record { only = f.only; whole = f.whole; named = f.given.0; given = f.given.1 })
columns m (inr b) = inr b

pub within_limits : WithinLimits
within_limits path text m p t r =
    let k : Lawful a_derivation m = keeps a_derivation r.tree m r.within r.means in
    let w : ProperMeaning path m = proper path r.tree m r.means (passes path r.tree r.passed) in
    let s : length (canonical m) ≤ 524288 = omega (arith, short path text m r) in
    record {
      path = p;
      text = s;
      inputs = k.1.0.0;
      outputs = all_from_member (λ (o : Value an_output). length o.0 ≤ 211) m.0 (λ o i. (member_all FormedOutput m.0 o w.outputs i).0.most);
      columns = columns m w.fixed;
    }
