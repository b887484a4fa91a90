-- What a file that reads is settled with is what is decided of it, where the view is sound and the file is taken.
use Rattle.std.proofs.Common.{◌≡◌, ℕ, ◌+◌, ◌<◌, [], length, get_or, Some, None, Err, sym, refl, ap, ◌∙◌, subst, inl, inr}
use Rattle.aterm.specs.Files.{input, derivation, in_input}
use Rattle.aterm.specs.Grammar.{Tree, meaning}
use Rattle.aterm.specs.Reads.{Each}
use Rattle.aterm.specs.Tables.{rows_of}
use Rattle.aterm.specs.declared.file.Derivation.{Derivation}
use Rattle.canonical.specs.Kinds as kinds
use Rattle.canonical.specs.Meanings.{a_derivation, Meaning}
use Rattle.derivation.specs.Asked.{First, FirstNo}
use Rattle.derivation.specs.Judgement.{Accepted, IsFileFault}
use Rattle.derivation.specs.declared.fault.FileFault.{FileFault}
use Rattle.derivation.specs.Questions.{place_2, input_rows}
use Rattle.derivation.specs.declared.field.Field.TheVariants.{Inputs}
use Rattle.derivation.specs.declared.spot.Spot.{Spot}
use Rattle.derivation.proofs.Scan.{each_length, never_all}
use Rattle.std.specs.List.{AllByRecursion}
use Rattle.file_meaning.specs.Reads.{Reads}
use Rattle.file_meaning.proofs.Judged.{every_file, not_both}
use Rattle.hash_modulo.specs.Hashes.{Hashed, hashed as hash_of}
use Rattle.hash_modulo.specs.Sets.{Bytes, Present, Means, Row, Names, Owned, Ready, Hashable, hashable}
use Rattle.hash_modulo.specs.Strings.{InputsHashed}
use Rattle.hash_modulo.proofs.Hashes.{one_text, one_meaning, inputs_hashable}
use Rattle.image.specs.Opening.{Opens}
use Rattle.links.specs.Linked.{LinkRight, RowsLinked, no_input}
use Rattle.links.specs.declared.link.Links.{Links}
use Rattle.verdict.specs.Judged.{Behind, row_of, there, owning, UnhashedRow, Judged}
use Rattle.verdict.specs.Judged as judged
use Rattle.verdict.specs.declared.fault.Fault.{Fault}
use Rattle.verdict.specs.declared.fault.Fault.TheVariants as fault
use Rattle.verdict.proofs.Meant.{ready, rows_there, rows_owned, input_there, input_back}
use Rattle.verdict.proofs.Rows.{each, row_there, no_stands}
use Rattle.sink.specs.Write as sinks
use Rattle.checker.specs.Calls.{Kind, D, MaskedHash, with_hash, without, Decides}
use Rattle.checker.specs.Settling as settling
use Rattle.checker.specs.Settling.{FirstSpot, LinksAsked, HashedFile, ReadSettled, ReadDecided, faulted, faulty, sure}
use Rattle.checker.specs.Soundness.{SoundView, WaitingAt}
use Rattle.checker.specs.Views.{View, files, path_at, NumberOf, TakenAt, HashedAt, UnhashedAt}
use Rattle.checker.specs.declared.standing.Standing.{Standing}
use Rattle.checker.specs.declared.standing.Standing.TheVariants.{Absent, Unowned, Unhashed, Waiting}
use Rattle.checker.specs.declared.state.Hashes.{Hashes}
use Rattle.checker.specs.declared.state.Settlement.{Settlement}
use Rattle.checker.proofs.Keeping.{settled_without, number_of, unhashed_input, one_number}
use Rattle.checker.proofs.Linking.{with_hash as kept_with, without_hash, waits, stands, clash, present, not_present, owns, not_owner, all_yes, first_no, at_unhashed, at_waiting, unhashed_there, waiting_there}

module _ (kind : Kind) (v : View) (opens : Opens v.image v.count) (sound : SoundView kind v) (k : ℕ) (taken : TakenAt v k) (l : Links) (file : Derivation) (text : Bytes)
    (here : files v (path_at v k) ≡ Some text) (a : Accepted (path_at v k) text file)
    (right : (i : ℕ) → i < l.count → LinkRight v.image v.count (get_or a.reading.tree.1.0 i no_input) (get_or l.rows i None))
    (same : l.count ≡ length (rows_of file.inputs)) where
  abbrev x : Tree derivation
  x = a.reading.tree

  abbrev from : ℕ
  from = place_2 x + 1

  abbrev rows : Each input (in_input text) from (rows_of file.inputs) x.1.0
  rows = a.reading.held.1.0

  -- the file with the path of a row is settled without a hash, or not settled
  abbrev NotUnhashed : Tree input → Type 0
  NotUnhashed t = (j : ℕ) → NumberOf v (meaning t.0) j → UnhashedAt v j → ⊥

  abbrev NotWaiting : Tree input → Type 0
  NotWaiting t = (j : ℕ) → NumberOf v (meaning t.0) j → WaitingAt v j → ⊥

  once : (p : Bytes) (i j : ℕ) → NumberOf v p i → NumberOf v p j → i ≡ j
  once = one_number v opens

  -- ---- what the questions answer

  all_there : FirstSpot v.row l (rows_of file.inputs) Absent None → First (there (files v)) (input_rows x) None
  all_there = all_yes v.row text l (rows_of file.inputs) from x.1.0 rows same (λ t. Present (files v) (meaning t.0)) Absent
      (λ i h n. present v.image v.count (∣ opens ∣₁) v.row _ _ (right i h) n)

  all_owned : FirstSpot v.row l (rows_of file.inputs) Unowned None → First (owning (files v)) (input_rows x) None
  all_owned = all_yes v.row text l (rows_of file.inputs) from x.1.0 rows same (λ t. Owned (files v) (row_of t)) Unowned
      (λ i h n. owns v.image v.count (∣ opens ∣₁) v.row _ _ (right i h) n)

  none_unhashed : FirstSpot v.row l (rows_of file.inputs) Unowned None → FirstSpot v.row l (rows_of file.inputs) Unhashed None → First (λ (e : Behind (Tree input)). NotUnhashed e.1) (input_rows x) None
  none_unhashed own = all_yes v.row text l (rows_of file.inputs) from x.1.0 rows same NotUnhashed Unhashed (λ i h n. unhashed_there v _ opens _ (right i h) (own i h) n)

  none_waiting : FirstSpot v.row l (rows_of file.inputs) Unowned None → FirstSpot v.row l (rows_of file.inputs) Waiting None → First (λ (e : Behind (Tree input)). NotWaiting e.1) (input_rows x) None
  none_waiting own = all_yes v.row text l (rows_of file.inputs) from x.1.0 rows same NotWaiting Waiting (λ i h n. waiting_there v _ opens _ (right i h) (own i h) n)

  first_absent : (w : Spot) → FirstSpot v.row l (rows_of file.inputs) Absent (Some w) → FirstNo (there (files v)) (input_rows x) w
  first_absent = first_no v.row text l (rows_of file.inputs) from x.1.0 rows same (λ t. Present (files v) (meaning t.0)) Absent
      (λ i h n. present v.image v.count (∣ opens ∣₁) v.row _ _ (right i h) n) (λ i h e. not_present v.image v.count (∣ opens ∣₁) v.row _ _ (right i h) e)

  first_unowned : (w : Spot) → FirstSpot v.row l (rows_of file.inputs) Unowned (Some w) → FirstNo (owning (files v)) (input_rows x) w
  first_unowned = first_no v.row text l (rows_of file.inputs) from x.1.0 rows same (λ t. Owned (files v) (row_of t)) Unowned
      (λ i h n. owns v.image v.count (∣ opens ∣₁) v.row _ _ (right i h) n) (λ i h e. not_owner v.image v.count (∣ opens ∣₁) v.row _ _ (right i h) e)

  first_unhashed : FirstSpot v.row l (rows_of file.inputs) Unowned None → (w : Spot) → FirstSpot v.row l (rows_of file.inputs) Unhashed (Some w) → FirstNo (λ (e : Behind (Tree input)). NotUnhashed e.1) (input_rows x) w
  first_unhashed own = first_no v.row text l (rows_of file.inputs) from x.1.0 rows same NotUnhashed Unhashed (λ i h n. unhashed_there v _ opens _ (right i h) (own i h) n)
      (λ i h e. at_unhashed v _ _ (right i h) e)

  first_waiting : FirstSpot v.row l (rows_of file.inputs) Unowned None → (w : Spot) → FirstSpot v.row l (rows_of file.inputs) Waiting (Some w) → FirstNo (λ (e : Behind (Tree input)). NotWaiting e.1) (input_rows x) w
  first_waiting own = first_no v.row text l (rows_of file.inputs) from x.1.0 rows same NotWaiting Waiting (λ i h n. waiting_there v _ opens _ (right i h) (own i h) n)
      (λ i h e. at_waiting v _ _ (right i h) e)

  -- ---- what the file means

  reads_x : (m : Meaning) → Reads (path_at v k) text m → Means (files v) (path_at v k) m
  reads_x m r = record {
    text = text;
    at = here;
    reads = record {
      tree = x;
      written = a.reading.written;
      within = a.reading.within;
      passed = a.passed;
      means = subst (λ (y : Tree derivation). kinds.Means a_derivation y m) (a.reading.only r.tree r.written) r.means;
    };
  }

  means_x : (m : Meaning) → Reads (path_at v k) text m → kinds.Means a_derivation x m
  means_x m r = subst (λ (y : Tree derivation). kinds.Means a_derivation y m) (a.reading.only r.tree r.written) r.means

  some_meaning : (m : Meaning) × Reads (path_at v k) text m
  some_meaning = elim (every_file (path_at v k) text) [ inl z ↦ z | inr z ↦ absurd (a.clear z.0 z.1) ]

  abbrev m : Meaning
  m = some_meaning.0

  abbrev f : Means (files v) (path_at v k) m
  f = record {
    text = text;
    at = here;
    reads = record { tree = x; written = a.reading.written; within = a.reading.within; passed = a.passed; means = means_x m some_meaning.1 };
  }

  abbrev None-at : Standing → Type 0
  None-at s = FirstSpot v.row l (rows_of file.inputs) s None

  -- ---- where a question has the answer no

  clash_first : (Yes : Behind (Tree input) → Type 0) (w : Spot) → FirstNo Yes (input_rows x) w → First Yes (input_rows x) None → ⊥
  clash_first Yes w z all = never_all Yes z.before z.after w z.row z.refused (subst (AllByRecursion (λ (r : Spot × Behind (Tree input)). Yes r.1)) z.whole all)

  ready_of : Hashable (files v) (path_at v k) → Ready (files v) m
  ready_of (hashable n e y i) = subst (Ready (files v)) (one_meaning (files v) (path_at v k) n m e f) y

  row_without : (w : Spot) → UnhashedRow (files v) x w → Hashable (files v) (path_at v k) → ⊥
  row_without w u h =
      let z = input_there x m (means_x m some_meaning.1) u.row.1 (row_there input Inputs from [] x.1.0 w u.row u.stands) in
      u.without (subst (Hashable (files v)) z.2 (inputs_hashable h m f z.0 z.1))

  unhashed_row : None-at Unowned → (w : Spot) → FirstSpot v.row l (rows_of file.inputs) Unhashed (Some w) → UnhashedRow (files v) x w
  unhashed_row own w q =
      let z = first_unhashed own w q in
      record {
        row = z.row;
        stands = no_stands (λ (e : Behind (Tree input)). NotUnhashed e.1) (input_rows x) w z;
        without = λ y. z.refused (λ j n u. settled_without kind v sound j u (subst (Hashable (files v)) (sym n.is) y));
      }

  none_spoilt : None-at Unowned → None-at Unhashed → (n : Meaning) → kinds.Means a_derivation x n
      → (i : ℕ) → UnhashedAt v i → ((r : Row) × Names n r × NumberOf v r.0 i) → ⊥
  none_spoilt own un n means i u (r, o, z) =
      let b = input_back x n means r o in
      each input Inputs NotUnhashed from [] x.1.0 (none_unhashed own un) b.0 b.1 i (record { exists = z.exists; is = z.is ∙ b.2 }) u

  waiting_row : None-at Absent → None-at Unowned → None-at Unhashed → (w : Spot) → FirstSpot v.row l (rows_of file.inputs) Waiting (Some w) → UnhashedRow (files v) x w
  waiting_row ab own un w q =
      let z = first_waiting own w q in
      let stand = no_stands (λ (e : Behind (Tree input)). NotWaiting e.1) (input_rows x) w z in
      let r = input_there x m (means_x m some_meaning.1) z.row.1 (row_there input Inputs from [] x.1.0 w z.row stand) in
      let y = ready x m (means_x m some_meaning.1) (files v) (all_there ab) (all_owned own) in
      record {
        row = z.row;
        stands = stand;
        without = λ h. z.refused (λ j n c.
            unhashed_input kind v sound once k taken m f y j c (r.0, r.1, record { exists = n.exists; is = n.is ∙ sym r.2 })
            (none_spoilt own un m (means_x m some_meaning.1)) (subst (Hashable (files v)) (sym n.is) h));
      }

  abbrev Fails : Fault → Type 0
  Fails e = Judged (files v) (D kind) (path_at v k) (Err e) × (Hashable (files v) (path_at v k) → ⊥)

  fails : (e : Fault) → LinksAsked v.row l (rows_of file.inputs) (Some e) → Fails e
  fails e (settling.absent w q g) =
      let z = first_absent w q in
      let h : e ≡ fault.Absent w = cc in
      (judged.absent m f w z (ap Err h), λ y. clash_first (there (files v)) w z (rows_there x m (means_x m some_meaning.1) (files v) (ready_of y)))
  fails e (settling.unowned ab w q g) =
      let z = first_unowned w q in
      let h : e ≡ fault.Unowned w = cc in
      (judged.unowned m f (all_there ab) w z (ap Err h), λ y. clash_first (owning (files v)) w z (rows_owned x m (means_x m some_meaning.1) (files v) (ready_of y)))
  fails e (settling.unhashed ab own w q g) =
      let z = unhashed_row own w q in
      let h : e ≡ fault.Unhashed w = cc in
      (judged.unhashed m f (all_there ab) (all_owned own) w z (ap Err h), row_without w z)
  fails e (settling.waiting ab own un w q g) =
      let z = waiting_row ab own un w q in
      let h : e ≡ fault.Unhashed w = cc in
      (judged.unhashed m f (all_there ab) (all_owned own) w z (ap Err h), row_without w z)
  fails e (settling.hashed ab own un wait g) = absurd (clash (cc))

  -- ---- where every input is settled with a hash

  module _ (ab : None-at Absent) (own : None-at Unowned) (un : None-at Unhashed) (wait : None-at Waiting) where
    -- the file that a row names
    kept_row : (n : Meaning) → kinds.Means a_derivation x n → (r : Row) → Names n r → (j : ℕ) × (y : Hashes) × NumberOf v r.0 j × HashedAt v j y
    kept_row n means r o =
        let b = input_back x n means r o in
        let z = number_of v (meaning b.0.0) (each input Inputs (λ t. Present (files v) (meaning t.0)) from [] x.1.0 (all_there ab) b.0 b.1) in
        elim (stands (v.row z.0)) [
          | kept_with s y c d e ↦ (
            z.0,
            y,
            record { exists = z.1.exists; is = z.1.is ∙ sym b.2 },
            record { exists = z.1.exists; settlement = s; settled = c; is = d },
          )
          | without_hash s c d e ↦ absurd (each input Inputs NotUnhashed from [] x.1.0 (none_unhashed own un) b.0 b.1 z.0 z.1
              (record { exists = z.1.exists; settlement = s; settled = c; is = d }))
          | waits c e ↦ absurd (each input Inputs NotWaiting from [] x.1.0 (none_waiting own wait) b.0 b.1 z.0 z.1
              (elim c [ inl q ↦ inl (record { exists = z.1.exists; is = q }) | inr q ↦ inr (record { exists = z.1.exists; is = q }) ]))
        ]

    module _ (before after : sinks.Meaning) (s : Settlement) (count : ℕ) (h : HashedFile kind v (path_at v k) text before s count after) where
      means_h : Means (files v) (path_at v k) h.meaning
      means_h = record { text = text; at = here; reads = h.reads }

      ready_h : Ready (files v) h.meaning
      ready_h = ready x h.meaning (means_x h.meaning h.reads) (files v) (all_there ab) (all_owned own)

      inputs_h : InputsHashed (files v) (D kind) h.meaning h.given
      inputs_h r o =
          let z = kept_row h.meaning (means_x h.meaning h.reads) r o in
          let right_one = (sound.right z.0 z.3.settlement z.3.exists z.3.settled).hash z.1 z.3.is in
          subst (Hashed (files v) (D kind) r.0) (sym (h.known r o z.0 z.1 z.2 z.3))
          (subst (λ (q : Bytes). Hashed (files v) (D kind) q z.1.hash.bytes) z.2.is right_one)

      tree_h : x ≡ h.reads.tree
      tree_h = sym (a.reading.only h.reads.tree h.reads.written)

      judged_h : Judged (files v) (D kind) (path_at v k) s.verdict
      judged_h =
          judged.hashed h.meaning (record { text = text; at = here; reads = h.reads })
          (subst (λ (y : Tree derivation). First (there (files v)) (input_rows y) None) tree_h (all_there ab))
          (subst (λ (y : Tree derivation). First (owning (files v)) (input_rows y) None) tree_h (all_owned own))
          h.given inputs_h h.verdict

      masked_h : MaskedHash (files v) (D kind) (path_at v k) h.hashes.masked
      masked_h = record {
        meaning = h.meaning;
        means = means_h;
        hashes = h.given;
        inputs = inputs_h;
        masked = λ nf. (let z = h.worked.masked nf in (z.2, z.3, z.0, z.1, z.4));
        none = h.worked.unmasked;
      }

      decides_h : Decides kind (files v) (path_at v k) s before count after
      decides_h =
          let z = h.worked.hash in
          record {
            verdict = judged_h;
            outcome = with_hash (record { hash = h.hashes.hash; masked = h.hashes.masked }) h.worked.strings h.kept
                (hash_of h.meaning h.given z.0 means_h ready_h inputs_h z.1 z.2)
                masked_h
                (record { meaning = h.meaning; means = means_h; ready = ready_h; hashes = h.given; inputs = inputs_h; strings = h.worked.digested })
                (h.count ∙ h.worked.count)
                h.worked.sink;
          }

  -- what the file is settled with is what is decided of it
  pub decides : (before after : sinks.Meaning) (s : Settlement) (count : ℕ) → ReadSettled kind v l (rows_of file.inputs) (path_at v k) text before s count after
      → Decides kind (files v) (path_at v k) s before count after
  decides before after s count (faulty e q same none stays) =
      let z = fails e q in
      record {
        verdict = subst (Judged (files v) (D kind) (path_at v k)) (sym (ap (λ (y : Settlement). y.verdict) same)) z.0;
        outcome = without (ap (λ (y : Settlement). y.hashes) same) z.1 none stays;
      }
  decides before after s count (sure (settling.hashed ab own un wait g) h) = decides_h ab own un wait before after s count h
  decides before after s count (sure (settling.absent w q g) h) = absurd (clash (cc))
  decides before after s count (sure (settling.unowned ab w q g) h) = absurd (clash (cc))
  decides before after s count (sure (settling.unhashed ab own w q g) h) = absurd (clash (cc))
  decides before after s count (sure (settling.waiting ab own un w q g) h) = absurd (clash (cc))

module _ (img : Bytes) (n : ℕ) (path text : Bytes) (l : Links) (file : Derivation) (a : Accepted path text file) (linked : RowsLinked img n path text l) where
  one_tree : linked.tree ≡ a.reading.tree
  one_tree = a.reading.only linked.tree linked.reads.written

  -- a file that reads has as many links as input rows
  pub counted : l.count ≡ length (rows_of file.inputs)
  counted =
      linked.count
      ∙ ap (λ (y : Tree derivation). length y.1.0) one_tree
      ∙ sym (each_length input (in_input text) (place_2 a.reading.tree + 1) (rows_of file.inputs) a.reading.tree.1.0 a.reading.held.1.0)

  links_right : (i : ℕ) → i < l.count → LinkRight img n (get_or a.reading.tree.1.0 i no_input) (get_or l.rows i None)
  links_right i h = subst (λ (y : Tree derivation). LinkRight img n (get_or y.1.0 i no_input) (get_or l.rows i None)) one_tree (linked.right i h)

decides_here : (kind : Kind) (v : View) → Opens v.image v.count → SoundView kind v → (k : ℕ) → TakenAt v k → (l : Links) (file : Derivation) (text : Bytes)
    → files v (path_at v k) ≡ Some text → Accepted (path_at v k) text file → RowsLinked v.image v.count (path_at v k) text l
    → (before after : sinks.Meaning) (s : Settlement) (count : ℕ) → ReadSettled kind v l (rows_of file.inputs) (path_at v k) text before s count after
    → Decides kind (files v) (path_at v k) s before count after
decides_here kind v opens sound k taken l file text here a linked before after s count r =
    decides kind v opens sound k taken l file text here a
    (links_right v.image v.count (path_at v k) text l file a linked) (counted v.image v.count (path_at v k) text l file a linked) before after s count r

-- the same at the path as it is known otherwise
pub decides_at : (kind : Kind) (v : View) → Opens v.image v.count → (l : Links) (file : Derivation) (path text : Bytes) → Accepted path text file → RowsLinked v.image v.count path text l
    → (before after : sinks.Meaning) (s : Settlement) (count : ℕ) → ReadSettled kind v l (rows_of file.inputs) path text before s count after
    → ReadDecided kind v path text before s count after
decides_at kind v opens l file path text a linked before after s count r sound k taken e here =
    subst (λ (q : Bytes). Decides kind (files v) q s before count after) e
    (decides_here kind v opens sound k taken l file text (ap (files v) e ∙ here)
    (subst (λ (q : Bytes). Accepted q text file) (sym e) a)
    (subst (λ (q : Bytes). RowsLinked v.image v.count q text l) (sym e) linked)
    before after s count
    (subst (λ (q : Bytes). ReadSettled kind v l (rows_of file.inputs) q text before s count after) (sym e) r))

-- a file that does not read
pub unread_at : (kind : Kind) (v : View) (path text : Bytes) (f : FileFault) → IsFileFault path text f → (before : sinks.Meaning)
    → ReadDecided kind v path text before (faulted (fault.Reading f)) 0 before
unread_at kind v path text f is before sound k taken e here = record {
  verdict = judged.unread text here f is refl;
  outcome = without refl (λ y. none y) refl refl;
}
  where
    none : Hashable (files v) path → ⊥
    none (hashable n m y i) = not_both path text n f (subst (λ (t : Bytes). Reads path t n) (one_text (files v path) m.text text m.at here) m.reads) is
