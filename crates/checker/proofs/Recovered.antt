-- What is decided of an image and of a table of links, and so is had again from the bare fact that it holds.
use mathlib.Core.HLevel.{⊥_prop}
use mathlib.Core.Logic.{∥∥₁_elim}
use Rattle.std.proofs.Common.{◌≡◌, ℕ, zero, suc, ◌<◌, ◌≤◌, Bool, true, false, length, get_or, Some, None, Option, Ok, Err, Result, Decides, sym, refl, ◌∙◌, subst, inl, inr, arith}
use Rattle.std.proofs.Math.Logic.{∥∥₁_map}
use Rattle.std.proofs.lemmas.Bool.{cases_eq}
use Rattle.aterm.specs.Files.{input, derivation}
use Rattle.aterm.specs.Grammar.{Tree, meaning}
use Rattle.canonical.specs.Meanings.{a_derivation, Meaning}
use Rattle.canonical.proofs.Exist.{exists}
use Rattle.canonical.proofs.Home.{whole_once}
use Rattle.derivation.specs.Judgement.{IsFileFault}
use Rattle.derivation.specs.declared.fault.FileFault.{FileFault}
use Rattle.file_meaning.specs.Reads.{Reads}
use Rattle.file_meaning.proofs.Judged.{every_file, not_both}
use Rattle.file_meaning.proofs.Trees.{passes}
use Rattle.file_meaning.proofs.Values.{keys_apart}
use Rattle.hash_modulo.specs.Sets.{Bytes}
use Rattle.hash_modulo.proofs.Choosing.{owned?}
use Rattle.image.specs.Layout.{file_path, file_text}
use Rattle.image.specs.Opening.{Opens, Answer}
use Rattle.image.specs.declared.refusal.Refusal.{Refusal}
use Rattle.image.proofs.Answers.{one_answer}
use Rattle.image.proofs.Total.{some_answer}
use Rattle.links.specs.Linked.{no_input, ReadsAs, LinkRight, RowsLinked, FileLinked, Linked, links_at, AllLinked}
use Rattle.links.specs.Sets.{set_of, Found, Nowhere}
use Rattle.links.specs.declared.link.Link.{Link}
use Rattle.links.specs.declared.link.Links.{Links}
use Rattle.links.specs.declared.table.LinkTable.{LinkTable}
use Rattle.store_path.proofs.Deciding.{Known, both, like, no_longer, at_most, same_text}
use Rattle.verdict.specs.Judged.{row_of}

recovered : {P : Type 0} → Known P → ∥ P ∥₁ → P
recovered (inl p) h = p
recovered (inr not) h = absurd (∥∥₁_elim h ⊥_prop not)

-- of the numbers below n it is decided whether all have a property
each? : (P : ℕ → Type 0) → ((i : ℕ) → Known (P i)) → (n : ℕ) → Known ((i : ℕ) → i < n → P i)
each? P known zero = inl (λ i h. absurd (omega arith))
each? P known (suc n) = like there (λ f. (λ i h. f i (omega arith), f n (omega arith))) (both (each? P known n) (known n))
  where
    there : ((i : ℕ) → i < n → P i) × P n → (i : ℕ) → i < suc n → P i
    there (below, here) i h = elim (cases_eq i n) [ inl e ↦ subst P (sym e) here | inr ne ↦ below i (omega arith) ]

decides? : {P : Type 0} (b : Bool) → Known P → Known (Decides b P)
decides? true (inl p) = inl (λ e. p, λ q. refl)
decides? true (inr not) = inr (λ d. not (d.0 refl))
decides? false (inl p) = inr (λ d. let e = d.1 p in cc)
decides? false (inr not) = inl (λ e. cc, λ q. absurd (not q))

-- ---- the image

opens? : (img : Bytes) (n : ℕ) → Known (Opens img n)
opens? img n = let a = some_answer img in way a.0 a.1
  where
    way : (a : Result ℕ Refusal) → Answer img a → Known (Opens img n)
    way (Err e) is = inr (λ o. let q = one_answer img (Err e) (Ok n) is o in cc)
    way (Ok m) is = elim (cases_eq m n) [
      | inl e ↦ inl (subst (Opens img) e is)
      | inr ne ↦ inr (λ o. ne (let q = one_answer img (Ok m) (Ok n) is o in cc))
    ]

-- an image that is known to open, does
pub opens_at : (img : Bytes) (n : ℕ) → ∥ Opens img n ∥₁ → Opens img n
opens_at img n = recovered (opens? img n)

module _ (img : Bytes) (n : ℕ) where
  -- ---- one row

  found? : (p : Bytes) (o : Option ℕ) → Known (Found img n p o)
  found? p (Some k) = like (λ z. (z.0, z.1.0, z.1.1)) (λ f. (f.0, (f.1, f.2))) (both (at_most 1 k) (both (at_most k n) (same_text (file_path img k) p)))
  found? p None = like there (λ f. λ i h. f (suc i) (omega arith) (omega arith)) (each? Other (λ i. no_longer (same_text (file_path img (suc i)) p)) n)
    where
      Other : ℕ → Type 0
      Other i = file_path img (suc i) ≡ p → ⊥

      there : ((i : ℕ) → i < n → Other i) → Nowhere img n p
      there f zero from to = absurd (omega arith)
      there f (suc i) from to = f i (omega arith)

  right? : (t : Tree input) (o : Option Link) → Known (LinkRight img n t o)
  right? t None = found? (meaning t.0) None
  right? t (Some w) = both (found? (meaning t.0) (Some w.file)) (decides? w.owned (owned? (set_of img n) (row_of t)))

  -- ---- one file

  module _ (path text : Bytes) where
    -- a tree of which every question is answered yes has a meaning
    meant : (x : Tree derivation) → ReadsAs path text x → (m : Meaning) × Reads path text m
    meant x r =
        let m = exists a_derivation x (keys_apart path x (passes path x r.passed)) in
        (m.0, record { tree = x; written = r.written; within = r.within; passed = r.passed; means = m.1 })

    fault? : Known ((f : FileFault) × IsFileFault path text f)
    fault? = elim (every_file path text) [ inl z ↦ inr (λ f. not_both path text z.0 f.0 z.1 f.1) | inr f ↦ inl f ]

    module _ (l : Links) where
      abbrev Right : Tree derivation → Type 0
      Right x = (l.count ≡ length x.1.0) × ((i : ℕ) → i < l.count → LinkRight img n (get_or x.1.0 i no_input) (get_or l.rows i None))

      right_all? : (x : Tree derivation) → Known (Right x)
      right_all? x = both (cases_eq l.count (length x.1.0)) (each? _ (λ i. right? (get_or x.1.0 i no_input) (get_or l.rows i None)) l.count)

      rows_linked? : Known (RowsLinked img n path text l)
      rows_linked? = elim (every_file path text) [
        | inr f ↦ inr (λ r. let z = meant r.tree r.reads in not_both path text z.0 f.0 z.1 f.1)
        | inl z ↦ way z.0 z.1
      ]
        where
          way : (m : Meaning) (r : Reads path text m) → Known (RowsLinked img n path text l)
          way m r =
              like
              (λ p. record { tree = r.tree; reads = record { written = r.written; within = r.within; passed = r.passed }; count = p.0; right = p.1 })
              (λ k. subst Right (whole_once k.tree r.tree (sym k.reads.written ∙ r.written)) (k.count, k.right))
              (right_all? r.tree)

    file_linked? : (o : Option Links) → Known (FileLinked img n path text o)
    file_linked? None = fault?
    file_linked? (Some l) = rows_linked? l

-- ---- the table

-- what a table that is known to be right keeps of a file of the image is right
pub linked_at : (img : Bytes) (n : ℕ) → ∥ Opens img n ∥₁ → (t : LinkTable) → ∥ AllLinked img n t ∥₁ → (k : ℕ) → 1 ≤ k → k ≤ n → Linked img n k (links_at t k)
linked_at img n opens t all k from to = recovered (file_linked? img n (file_path img k) (file_text img k) (links_at t k)) (∥∥₁_map all (λ f. f k from to))
