-- Files that read are rewritten alike exactly where their meanings are equal, and a rewritten text to itself.
use Rattle.std.proofs.Common.{◌≡◌, ℕ, List, length, take, drop, Ok, Err, sym, refl, ap, ◌∙◌, subst, inl, inr}
use Rattle.std.proofs.Math.Seq.{take-append_seam}
use Rattle.canonical.specs.Meanings.{Meaning, canonical}
use Rattle.file_meaning.specs.Reads.{Reads}
use Rattle.file_meaning.proofs.Again.{alike, reads_again}
use Rattle.hash_modulo.specs.Hashes.{Digest}
use Rattle.hash_modulo.specs.Sets.{Bytes, Files, Means}
use Rattle.hash_modulo.proofs.Hashes.{one_meaning, one_text}
use Rattle.image.specs.Layout.{file_text}
use Rattle.links.proofs.Files.{set_has}
use Rattle.verdict.specs.Judged.{PathsJudged, wrong_path, wrong_output, wrong_variable, not_canonical, right, Judged, unread, absent, unowned, unhashed, hashed}
use Rattle.verdict.specs.declared.fault.Fault.TheVariants.{NotCanonical}
use Rattle.verdict.specs.Verdicts.{Verdict}
use Rattle.verdict.proofs.Texts.{differ_not}
use Rattle.checker.specs.Calls.{D, Put, Rewrites}
use Rattle.checker.specs.Theorem.{RewrittenAlike, RewrittenAgain, CanonicalAgain}
use Rattle.checker.specs.Views.{View, files, path_at}
use Rattle.checker.specs.declared.refused.CallRefusal.TheVariants.{NotRead}

-- ---- what is written to the buffer

-- the first bytes are those that were put
pub put_front : (bs out : List ℕ) (n : ℕ) (after : List ℕ) → Put bs out n after → take n after ≡ bs
put_front bs out n after p = (λ i. take (p.count i) (p.is i)) ∙ take-append_seam bs (drop n out)

-- a rewriting of a file that means m is m's canonical text
pub rewritten : (v : View) (k : ℕ) (m : Meaning) → Means (files v) (path_at v k) m → (out : List ℕ) (n : ℕ) (after : List ℕ)
    → Rewrites v k out (Ok n) after → (n ≡ length (canonical m)) × (take n after ≡ canonical m)
rewritten v k m means out n after (other, o, x, read, put) =
    let same = ap canonical (one_meaning (files v) (path_at v k) other m read means) in
    (put.count ∙ ap length same, put_front (canonical other) out n after put ∙ same)

pub rewritten_alike : RewrittenAlike
rewritten_alike v w j k m n means other_means out other a b after behind r s =
    let x = rewritten v j m means out a after r in
    let y = rewritten w k n other_means other b behind s in
    let texts = alike (path_at v j) (path_at w k) means.text other_means.text m n means.reads other_means.reads in
    (λ e. (x.0 ∙ ap length (texts.0 e) ∙ sym y.0, x.1 ∙ texts.0 e ∙ sym y.1), λ z. texts.1 (sym x.1 ∙ z.1 ∙ y.1))

-- ---- a rewritten text at its path

-- a file whose text is the canonical one of what it means: 24 is none of its verdicts
module _ (set : Files) (d : Digest) (p : Bytes) (m : Meaning) (means : Means set p m) (is : means.text ≡ canonical m) where
  own_text : (n : Meaning) (f : Means set p n) → f.text ≡ canonical n
  own_text n f = one_text (set p) f.text means.text f.at means.at ∙ is ∙ ap canonical (one_meaning set p m n means f)

  never_24 : (v : Verdict) (place : ℕ) → v ≡ Err (NotCanonical place) → Judged set d p v → ⊥
  never_24 v place e (unread t a f h x) = cc
  never_24 v place e (absent n f w h x) = cc
  never_24 v place e (unowned n f a w h x) = cc
  never_24 v place e (unhashed n f a o w h x) = cc
  never_24 v place e (hashed n f a o g h j) = paths j
    where
      paths : PathsJudged d p f.text f.reads.tree g n v → ⊥
      paths (wrong_path own x) = cc
      paths (wrong_output own w h x) = cc
      paths (wrong_variable own outs o first w h x) = cc
      paths (not_canonical own outs env at differ x) = differ_not f.text (canonical n) at differ (own_text n f)
      paths (right own outs env same x) = cc

-- a file that reads is not refused with 38
not_38 : (v : View) (k : ℕ) (m : Meaning) → Means (files v) (path_at v k) m → (out after : List ℕ) → Rewrites v k out (Err NotRead) after → ⊥
not_38 v k m means out after (inl (n, e), same) = cc
not_38 v k m means out after (inr (o, inl (n, e)), same) = cc
not_38 v k m means out after (inr (o, inr (exists, inl (n, e))), same) = n (m, means)
not_38 v k m means out after (inr (o, inr (exists, inr (reads, inl (n, e)))), same) = cc
not_38 v k m means out after (inr (o, inr (exists, inr (reads, inr (fits, done)))), same) = done

-- the canonical text at an equal path reads to the same meaning
carried : (p q text written : Bytes) (m : Meaning) → Reads p text m → q ≡ p → written ≡ canonical m → Reads q written m
carried p q text written m r path same =
    subst (λ (t : Bytes). Reads q t m) (sym same) (subst (λ (b : Bytes). Reads b (canonical m) m) (sym path) (reads_again p text m r))

pub canonical_again : CanonicalAgain
canonical_again kind v w j k m opens exists means path same =
    let here : Means (files w) (path_at w k) m =
    record {
      text = file_text w.image k;
      at = set_has w.image w.count opens k exists.0 exists.1;
      reads = carried (path_at v j) (path_at w k) means.text (file_text w.image k) m means.reads path same;
    } in
    record {
      reads = (m, here);
      not_refused = not_38 w k m here;
      itself = λ out n after r. let x = rewritten w k m here out n after r in (x.0 ∙ ap length (sym same), x.1 ∙ sym same);
      canonical_already = λ place judged. never_24 (files w) (D kind) (path_at w k) m here same _ place refl judged;
    }

pub rewritten_again : RewrittenAgain
rewritten_again kind v w j k opens exists out a after (m, o, x, means, put) path same =
    canonical_again kind v w j k m opens exists means path (same ∙ put_front (canonical m) out a after put)
