use Rattle.std.proofs.Common.{◌≡◌, ◌<◌, List, length, sym, ap, ◌∙◌, subst, set}
use Rattle.std.specs.List.{refill}
use Rattle.std.proofs.lemmas.List.{length-set}
use Rattle.arrayvec.proofs.ArrayVecLemmas.{items-with_items}
use Rattle.hash_rows.specs.declared.hash.HashRow.{HashRow}
use Rattle.hash_rows.specs.Rows.{row_of, key_at, Free}
use Rattle.hash_rows.proofs.Changing.{Changed, changed_set, changed_inserted}
use Rattle.hash_rows.proofs.table.HashRows.with.Goals.{in-Ok, in-Err, Joined-place}
use Rattle.hash_rows.proofs.table.HashRows.with.Goals as goal

way : (c : Joined-place) → Changed c.args.self.rows.items (row_of c.args.hash c.args.row) c.match-place.rows.items
way c =
    let xs = c.args.self.rows.items in
    let x : HashRow = row_of c.args.hash c.args.row in
    let rises = c.args.self.rising in
    elim c.match-place.branch [
      | in-Ok w ↦ (
          let h = subst (λ (l : List HashRow). (w.in-Ok.at < length l) × (key_at l w.in-Ok.at ≡ c.args.hash.bytes)) c.as_slice.ensures.value w.in-Ok.ensures in
          let e = ap (λ v. v.items) w.rows-is ∙ ap (λ (l : List HashRow). refill (length xs) xs (set l w.in-Ok.at x)) w.deref_mut.ensures.value ∙ items-with_items c.args.self.rows (set xs w.in-Ok.at x) (length-set xs w.in-Ok.at x) in
          subst (Changed xs x) (sym e) (changed_set xs x c.requires rises w.in-Ok.at h.0 h.1))
      | in-Err w ↦ (
          let h = subst (λ (l : List HashRow). Free l c.args.hash.bytes w.in-Err.at) c.as_slice.ensures.value w.in-Err.ensures in
          let e = ap (λ v. v.items) w.rows-is ∙ w.insert.ensures.items in
          subst (Changed xs x) (sym e) (changed_inserted xs x c.requires rises w.in-Err.at h))
    ]

pub invariant_of-result : goal.invariant_of-result
invariant_of-result c = let w = way c in record { few = w.few; rising = w.rising }

pub returns-clause-placed : goal.returns-clause-placed
returns-clause-placed c = let w = way (goal.at.returns-clause-placed c).Joined-place in w.placed
