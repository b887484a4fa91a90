-- The laws of files that read, from those of trees.
use Rattle.std.proofs.Common.{ℕ, List, ap}
use Rattle.aterm.specs.Files.{derivation, in_derivation}
use Rattle.aterm.specs.Grammar.{Tree}
use Rattle.aterm.specs.declared.file.Derivation.{Derivation}
use Rattle.derivation.specs.Judgement.{Accepted}
use Rattle.canonical.specs.Kinds.{Lawful, Means, Apart}
use Rattle.canonical.specs.Meanings.{a_derivation, Meaning, canonical}
use Rattle.canonical.proofs.Alone.{canonical_alone}
use Rattle.canonical.proofs.Back.{written_back}
use Rattle.canonical.proofs.Bound.{bounded}
use Rattle.canonical.proofs.Exist.{exists}
use Rattle.canonical.proofs.Home.{has_one}
use Rattle.canonical.proofs.Unique.{keeps}
use Rattle.file_meaning.specs.Laws.{EachHasOneText, WrittenBack, ReadsAgain, Alike, Short}
use Rattle.file_meaning.specs.Reads.{Reads}
use Rattle.file_meaning.proofs.Trees.{passes, answers}
use Rattle.file_meaning.proofs.Values.{proper, again, keys_apart}

lawful : (path text : List ℕ) (m : Meaning) → Reads path text m → Lawful a_derivation m
lawful path text m r = keeps a_derivation r.tree m r.within r.means

pub one_text : EachHasOneText
one_text path text m r = record {
  has = has_one m (lawful path text m r);
  only = λ bytes t. written_back bytes t.tree m t.written t.proper t.means;
}

pub back : WrittenBack
back path text m r c = written_back text r.tree m r.written c r.means

pub reads_again : ReadsAgain
reads_again path text m r =
    let t = has_one m (lawful path text m r) in
    let p = proper path r.tree m r.means (passes path r.tree r.passed) in
    record {
      tree = t.tree;
      written = t.written;
      within = t.within;
      passed = answers path t.tree (again path t.tree m t.means t.proper p);
      means = t.means;
    }

pub alike : Alike
alike p q t u m n r s = (λ e. ap canonical e, canonical_alone m n)

pub short : Short
short path text m r = bounded text r.tree m r.written r.means

-- a file that the reader accepts reads, and what its spans hold is told by its meaning
pub record Held (path text : List ℕ) (d : Derivation) : Type 0 where
  pub meaning : Meaning
  pub reads : Reads path text meaning
  pub tree : Tree derivation
  pub held : in_derivation text 7 d tree
  pub apart : Apart a_derivation tree
  pub means : Means a_derivation tree meaning

pub accepted : (path text : List ℕ) (d : Derivation) → Accepted path text d → Held path text d
accepted path text d a =
    let x = a.reading.tree in
    let apart = keys_apart path x (passes path x a.passed) in
    let m = exists a_derivation x apart in
    record {
      meaning = m.0;
      reads = record { tree = x; written = a.reading.written; within = a.reading.within; passed = a.passed; means = m.1 };
      tree = x;
      held = a.reading.held;
      apart = apart;
      means = m.1;
    }
