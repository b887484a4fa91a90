-- What rewrite does of one file by its path and text, it does of that file in a set that has it.
use Rattle.std.proofs.Common.{◌≡◌, ℕ, List, Some, Ok, Err, Option, Result, sym, refl, subst, inl, inr}
use Rattle.aterm.specs.declared.file.Derivation.{Derivation}
use Rattle.canonical.specs.Files.{derivation_value}
use Rattle.canonical.specs.Kinds.{Arranges}
use Rattle.canonical.specs.Meanings.{a_derivation, Meaning, canonical}
use Rattle.canonical.proofs.Arranging.{settles}
use Rattle.canonical.proofs.Spans.{derivation_tells}
use Rattle.derivation.specs.Judgement.{Accepted, IsFileFault}
use Rattle.derivation.specs.declared.fault.FileFault.{FileFault}
use Rattle.file_meaning.specs.Reads.{Reads}
use Rattle.file_meaning.proofs.Judged.{not_both}
use Rattle.file_meaning.proofs.Trees.{passes}
use Rattle.file_meaning.proofs.Values.{keys_apart}
use Rattle.hash_modulo.specs.Sets.{Bytes, Means}
use Rattle.hash_modulo.proofs.Hashes.{one_text}
use Rattle.image.specs.Layout.{file_text}
use Rattle.image.specs.Opening.{Opens}
use Rattle.links.proofs.Files.{set_has}
use Rattle.checker.specs.Calls.{Written, Rewrites, FileRewritten}
use Rattle.checker.specs.Seen.{view_if}
use Rattle.checker.specs.Views.{View, Open, Exists, files, path_at}
use Rattle.checker.specs.declared.checker.OpenSet.{OpenSet}
use Rattle.checker.specs.declared.refused.CallRefusal.{CallRefusal}
use Rattle.checker.specs.declared.refused.CallRefusal.TheVariants.{NotRead}
use Rattle.checker.proofs.Reopened.{set_opens}

-- ---- a file by its path and text

-- a file that was read means what its sorted rows say
pub sorted_reads : (path text : Bytes) (file sorted : Derivation) → Accepted path text file
    → Arranges a_derivation (derivation_value text file) (derivation_value text sorted) → Reads path text (derivation_value text sorted)
sorted_reads path text file sorted a arranged =
    let x = a.reading.tree in
    let apart = keys_apart path x (passes path x a.passed) in
    record {
      tree = x;
      written = a.reading.written;
      within = a.reading.within;
      passed = a.passed;
      means = settles a_derivation x (derivation_value text file) (derivation_value text sorted) apart (derivation_tells text 7 file x a.reading.held) arranged;
    }

-- its canonical text was put, or did not fit
pub file_written : (path text : Bytes) (m : Meaning) → Reads path text m → (out : List ℕ) (r : Result ℕ CallRefusal) (after : List ℕ)
    → Written (canonical m) out r after → FileRewritten path text out r after
file_written path text m reads out (Ok n) after put = (m, reads, put)
file_written path text m reads out (Err e) after (inl (n, is), same) = (inr ((m, reads), inl ((λ f. n (f m reads)), is)), same)
file_written path text m reads out (Err e) after (inr (y, done), same) = absurd done

-- it does not read
pub file_unread : (path text : Bytes) (f : FileFault) → IsFileFault path text f → (out : List ℕ) → FileRewritten path text out (Err NotRead) out
file_unread path text f fault out = (inl ((λ z. not_both path text z.0 f z.1 fault), refl), refl)

-- ---- the file k of a set that has it

module _ (v : View) (k : ℕ) (opens : Opens v.image v.count) (exists : Exists v k) where
  there : files v (path_at v k) ≡ Some (file_text v.image k)
  there = set_has v.image v.count opens k exists.0 exists.1

  pub means_at : (m : Meaning) → Reads (path_at v k) (file_text v.image k) m → Means (files v) (path_at v k) m
  means_at m r = record { text = file_text v.image k; at = there; reads = r }

  pub reads_at : (m : Meaning) → Means (files v) (path_at v k) m → Reads (path_at v k) (file_text v.image k) m
  reads_at m e = subst (λ (t : Bytes). Reads (path_at v k) t m) (one_text (files v (path_at v k)) e.text (file_text v.image k) e.at there) e.reads

  in_set : (out : List ℕ) (r : Result ℕ CallRefusal) (after : List ℕ) → Open v → FileRewritten (path_at v k) (file_text v.image k) out r after → Rewrites v k out r after
  in_set out (Ok n) after o (m, reads, put) = (m, o, exists, means_at m reads, put)
  in_set out (Err e) after o (inl (n, is), same) = (inr (o, inr (exists, inl ((λ z. n (z.0, reads_at z.0 z.1)), is))), same)
  in_set out (Err e) after o (inr (y, inl (n, is)), same) = (inr (o, inr (exists, inr ((y.0, means_at y.0 y.1), inl ((λ f. n (λ m r. f m (means_at m r))), is)))), same)
  in_set out (Err e) after o (inr (y, inr (f, done)), same) = absurd done

-- the file k of a checker
pub rewritten_in : (c : Option OpenSet) (w : View) (k : ℕ) (path text out : Bytes) (r : Result ℕ CallRefusal) (after : Bytes)
    → view_if c ≡ w → Open w → Exists w k → path ≡ path_at w k → text ≡ file_text w.image k → FileRewritten path text out r after → Rewrites (view_if c) k out r after
rewritten_in c w k path text out r after same o exists p t f =
    let opens = subst (λ (v : View). Opens v.image v.count) same (set_opens c (subst Open (sym same) o)) in
    let here : FileRewritten (path_at w k) (file_text w.image k) out r after = subst (λ (b : Bytes). FileRewritten (path_at w k) b out r after) t (subst (λ (b : Bytes). FileRewritten b text out r after) p f) in
    subst (λ (v : View). Rewrites v k out r after) (sym same) (in_set w k opens exists out r after o here)
