-- What a file owns, by the bytes of the names of its outputs.
use Rattle.std.proofs.Common.{◌≡◌, List, map, Some, sym, ap, ◌∙◌, subst, inl, inr}
use Rattle.std.specs.List.{AllByRecursion}
use Rattle.aterm.specs.Files.{output, derivation}
use Rattle.aterm.specs.Grammar.{Tree, string, raw, meaning}
use Rattle.aterm.specs.declared.file.Derivation.{Derivation}
use Rattle.canonical.specs.Kinds.{Value, Means}
use Rattle.canonical.specs.Meanings.{an_output, a_derivation, Meaning}
use Rattle.canonical.specs.Order.{Member}
use Rattle.canonical.proofs.Members.{member_all, all_from_member}
use Rattle.derivation.specs.Judgement.{Accepted, IsFileFault}
use Rattle.derivation.specs.Plain.{AsItStands, PlainOutput}
use Rattle.derivation.specs.declared.fault.FileFault.{FileFault}
use Rattle.file_meaning.specs.Reads.{Reads}
use Rattle.file_meaning.proofs.Judged.{every_file, not_both}
use Rattle.hash_modulo.specs.Sets as sets
use Rattle.hash_modulo.specs.Sets.{Bytes, Files, Owned}
use Rattle.hash_modulo.proofs.Hashes.{one_text}
use Rattle.verdict.specs.Judged.{output_of}
use Rattle.verdict.proofs.Meant.{output_there, output_back}
use Rattle.links.specs.Owners.{OwnsOutput}
use Rattle.links.proofs.Names.{member_map, map_member}

-- a file that is not there owns what is wanted
pub owned_absent : (set : Files) (p : Bytes) (ns : List Bytes) → ((t : Bytes) → set p ≡ Some t → ⊥) → Owned set (p, ns)
owned_absent set p ns none m f n i = absurd (none f.text f.at)

module _ (set : Files) (p text : Bytes) (there : set p ≡ Some text) where
  read_here : (m : Meaning) → sets.Means set p m → Reads p text m
  read_here m f = subst (λ (t : Bytes). Reads p t m) (one_text (set p) f.text text f.at there) f.reads

  -- a file that does not read owns what is wanted of it
  pub owned_unread : (f : FileFault) → IsFileFault p text f → (ns : List Bytes) → Owned set (p, ns)
  owned_unread f fault ns m means n i = absurd (not_both p text m f (read_here m means) fault)

  module _ (d : Derivation) (a : Accepted p text d) (ns : List (Tree string)) (plain : AllByRecursion AsItStands ns) where
    abbrev tree : Tree derivation
    tree = a.reading.tree

    means_here : (m : Meaning) → Reads p text m → Means a_derivation tree m
    means_here m r = subst (λ (x : Tree derivation). Means a_derivation x m) (a.reading.only r.tree r.written) r.means

    plain_name : (t : Tree output) → Member t tree.0 → raw t.0 ≡ meaning t.0
    plain_name t i = (member_all PlainOutput tree.0 t a.plain.outputs i).name

    -- one that reads owns what is wanted exactly where it has outputs of these names
    pub owned_from : AllByRecursion (λ n. OwnsOutput tree.0 (raw n)) ns → Owned set (p, map meaning ns)
    owned_from all m f n i =
        let w = member_map meaning ns n i in
        let h = member_all (λ (k : Tree string). OwnsOutput tree.0 (raw k)) ns w.0 all w.1 in
        (output_of h.0, output_there tree m (means_here m (read_here m f)) h.0 h.1, sym (plain_name h.0 h.1) ∙ h.2 ∙ member_all AsItStands ns w.0 plain w.1 ∙ sym w.2)

    some_meaning : (m : Meaning) × Reads p text m
    some_meaning = elim (every_file p text) [ inl z ↦ z | inr z ↦ absurd (a.clear z.0 z.1) ]

    pub owned_to : Owned set (p, map meaning ns) → AllByRecursion (λ n. OwnsOutput tree.0 (raw n)) ns
    owned_to owned = all_from_member (λ (k : Tree string). OwnsOutput tree.0 (raw k)) ns has
      where
        has : (n : Tree string) → Member n ns → OwnsOutput tree.0 (raw n)
        has n i =
            let z = some_meaning in
            let o = owned z.0 (record { text = text; at = there; reads = z.1 }) (meaning n) (map_member meaning ns n i) in
            let t = output_back tree z.0 (means_here z.0 z.1) o.0 o.1 in
            (t.0, t.1, plain_name t.0 t.1 ∙ ap (λ (v : Value an_output). v.0) t.2 ∙ o.2 ∙ sym (member_all AsItStands ns n plain i))
