-- A file is ready exactly where the links that are kept of it say so.
use Rattle.std.proofs.Common.{◌≡◌, ℕ, ◌<◌, Bool, true, false, cond, get_or, map, None, Some, Option, Decides, sym, refl, ap, ◌∙◌, subst, inl, inr, arith}
use Rattle.aterm.specs.Files.{input, derivation}
use Rattle.aterm.specs.Grammar.{Tree, meaning}
use Rattle.canonical.specs.Kinds.{Means as Meant}
use Rattle.canonical.specs.Meanings.{a_derivation, Meaning}
use Rattle.canonical.specs.Order.{Same}
use Rattle.canonical.proofs.Exist.{exists}
use Rattle.canonical.proofs.Home.{whole_once}
use Rattle.canonical.proofs.Members.{member_at, place_of}
use Rattle.file_meaning.specs.Reads.{Reads}
use Rattle.file_meaning.proofs.Judged.{not_both}
use Rattle.file_meaning.proofs.Trees.{passes}
use Rattle.file_meaning.proofs.Values.{keys_apart}
use Rattle.hash_modulo.specs.Sets.{Bytes, Present, Means, Row, Names, Owned}
use Rattle.hash_modulo.proofs.Hashes.{one_text}
use Rattle.image.specs.Layout.{file_text}
use Rattle.image.specs.Opening.{Opens}
use Rattle.links.specs.Linked.{no_input, LinkRight, RowsLinked, FileLinked}
use Rattle.links.specs.Sets.{set_of, Found}
use Rattle.links.specs.declared.link.Link.{Link}
use Rattle.links.specs.declared.link.Links.{Links}
use Rattle.links.proofs.Files.{set_has, set_only}
use Rattle.verdict.specs.Judged.{row_of}
use Rattle.verdict.proofs.Meant.{input_there, input_back}
use Rattle.checker.specs.Soundness.{WaitingAt}
use Rattle.checker.specs.Standings.{state_standing, standing_in, LinksReady}
use Rattle.checker.specs.Views.{View, files, path_at, Exists, NumberOf, HashedAt, UnhashedAt, ReadyFile, early, spoilt, supplied}
use Rattle.checker.specs.declared.standing.Standing.{Standing}
use Rattle.checker.specs.declared.standing.Standing.TheVariants.{Absent, Unowned, Unhashed, Waiting, Hashed as WithHash}
use Rattle.checker.specs.declared.state.Hashes.{Hashes}
use Rattle.checker.specs.declared.state.Settlement.{Settlement}
use Rattle.checker.specs.declared.state.State.{State}
use Rattle.checker.specs.declared.state.State.TheVariants.{Pending, Taken, Settled}
use Rattle.checker.proofs.Keeping.{one_number}

-- ---- one row

module _ (v : View) (r : Row) where
  -- the link of the row: the number of the file that it names, if there is one, and whether that owns what is wanted
  abbrev pub LinkOf : Option Link → Type 0
  LinkOf None = Found v.image v.count r.0 None
  LinkOf (Some w) = Found v.image v.count r.0 (Some w.file) × Decides w.owned (Owned (files v) r)

  -- what a standing says of the row
  abbrev pub Stands : Standing → Type 0
  Stands Absent = Present (files v) r.0 → ⊥
  Stands Unowned = Present (files v) r.0 × (Owned (files v) r → ⊥)
  Stands Unhashed = Owned (files v) r × ((j : ℕ) × NumberOf v r.0 j × UnhashedAt v j)
  Stands Waiting = Owned (files v) r × ((j : ℕ) × NumberOf v r.0 j × WaitingAt v j)
  Stands WithHash = Owned (files v) r × ((j : ℕ) × (h : Hashes) × NumberOf v r.0 j × HashedAt v j h)

  module _ (opens : Opens v.image v.count) where
    number : (j : ℕ) → Found v.image v.count r.0 (Some j) → NumberOf v r.0 j
    number j f = record { exists = (f.0, f.1); is = f.2 }

    named : (j : ℕ) → NumberOf v r.0 j → Present (files v) r.0
    named j n = (file_text v.image j, ap (set_of v.image v.count) (sym n.is) ∙ set_has v.image v.count opens j n.exists.0 n.exists.1)

    absent : Found v.image v.count r.0 None → Present (files v) r.0 → ⊥
    absent none (t, e) = let f = set_only v.image v.count r.0 t e in none f.number f.from f.to f.path

    owner : Owned (files v) r → (j : ℕ) → NumberOf v r.0 j → (x : State) → v.row j ≡ x → Stands (state_standing x)
    owner o j n Pending e = (o, (j, n, inl (record { exists = n.exists; is = e })))
    owner o j n Taken e = (o, (j, n, inr (record { exists = n.exists; is = e })))
    owner o j n (Settled s) e = settled s.hashes refl
      where
        settled : (h : Option Hashes) → s.hashes ≡ h → Stands (elim h [ Some g ↦ WithHash | None ↦ Unhashed ])
        settled None z = (o, (j, n, record { exists = n.exists; settlement = s; settled = e; is = z }))
        settled (Some h) z = (o, (j, h, n, record { exists = n.exists; settlement = s; settled = e; is = z }))

    pub stands : (w : Option Link) → LinkOf w → Stands (standing_in v.row w)
    stands None f = absent f
    stands (Some w) (f, d) = way w.owned refl
      where
        way : (b : Bool) → w.owned ≡ b → Stands (standing_in v.row (Some w))
        way true e = subst (λ (a : Bool). Stands (cond a (state_standing (v.row w.file)) Unowned)) (sym e) (owner (d.0 e) w.file (number w.file f) (v.row w.file) refl)
        way false e = subst (λ (a : Bool). Stands (cond a (state_standing (v.row w.file)) Unowned)) (sym e) (named w.file (number w.file f), λ o. (let z = d.1 o in cc))

-- ---- what a row's standing rules out

waits_not : (v : View) (j : ℕ) (s : Settlement) → WaitingAt v j → v.row j ≡ Settled s → ⊥
waits_not v j s (inl p) e = let x = p.is in cc
waits_not v j s (inr t) e = let x = t.is in cc

not_both_ways : (v : View) (j : ℕ) (h : Hashes) → UnhashedAt v j → HashedAt v j h → ⊥
not_both_ways v j h u w =
    let a = u.settled in
    let b = u.is in
    let c = w.settled in
    let d = w.is in
    cc

module _ (v : View) (r : Row) (opens : Opens v.image v.count) where
  present_by : (s : Standing) → Stands v r s → (s ≡ Absent → ⊥) → Present (files v) r.0
  present_by Absent f a = absurd (a refl)
  present_by Unowned f a = f.0
  present_by Unhashed f a = named v r opens f.1.0 f.1.1
  present_by Waiting f a = named v r opens f.1.0 f.1.1
  present_by WithHash f a = named v r opens f.1.0 f.1.2

  owned_by : (s : Standing) → Stands v r s → (s ≡ Absent → ⊥) → (s ≡ Unowned → ⊥) → Owned (files v) r
  owned_by Absent f a b = absurd (a refl)
  owned_by Unowned f a b = absurd (b refl)
  owned_by Unhashed f a b = f.0
  owned_by Waiting f a b = f.0
  owned_by WithHash f a b = f.0

  module _ (j : ℕ) (n : NumberOf v r.0 j) where
    same : (i : ℕ) → NumberOf v r.0 i → i ≡ j
    same i m = one_number v opens r.0 i j m n

    unhashed_by : UnhashedAt v j → (s : Standing) → Stands v r s → (s ≡ Unowned → ⊥) → s ≡ Unhashed
    unhashed_by u Absent f b = absurd (f (named v r opens j n))
    unhashed_by u Unowned f b = absurd (b refl)
    unhashed_by u Unhashed f b = refl
    unhashed_by u Waiting f b = absurd (waits_not v j u.settlement (subst (WaitingAt v) (same f.1.0 f.1.1) f.1.2) u.settled)
    unhashed_by u WithHash f b = absurd (not_both_ways v j f.1.1 u (subst (λ (i : ℕ). HashedAt v i f.1.1) (same f.1.0 f.1.2) f.1.3))

    hashed_by : (h : Hashes) → HashedAt v j h → (s : Standing) → Stands v r s → (s ≡ Unowned → ⊥) → s ≡ WithHash
    hashed_by h w Absent f b = absurd (f (named v r opens j n))
    hashed_by h w Unowned f b = absurd (b refl)
    hashed_by h w Unhashed f b = absurd (not_both_ways v j h (subst (UnhashedAt v) (same f.1.0 f.1.1) f.1.2) w)
    hashed_by h w Waiting f b = absurd (waits_not v j w.settlement (subst (WaitingAt v) (same f.1.0 f.1.1) f.1.2) w.settled)
    hashed_by h w WithHash f b = refl

-- ---- a file of an image that opens

module _ (v : View) (k : ℕ) (opens : Opens v.image v.count) (there : Exists v k) where
  abbrev path : Bytes
  path = path_at v k

  abbrev text : Bytes
  text = file_text v.image k

  here : files v path ≡ Some text
  here = set_has v.image v.count opens k there.0 there.1

  pub reads_here : (m : Meaning) → Means (files v) path m → Reads path text m
  reads_here m f = subst (λ (t : Bytes). Reads path t m) (one_text (files v path) f.text text f.at here) f.reads

  -- one that does not read is ready
  pub unread_ready : FileLinked v.image v.count path text None → ReadyFile v k
  unread_ready (fault, is) = early (λ m f y. not_both path text m fault (reads_here m f) is)

  module _ (l : Links) (linked : RowsLinked v.image v.count path text l) where
    abbrev tree : Tree derivation
    tree = linked.tree

    abbrev standing : ℕ → Standing
    standing i = standing_in v.row (get_or l.rows i None)

    meant : (m : Meaning) → Means (files v) path m → Meant a_derivation tree m
    meant m f =
        let r = reads_here m f in
        subst (λ (x : Tree derivation). Meant a_derivation x m) (whole_once r.tree tree (sym r.written ∙ linked.reads.written)) r.means

    pub some : (m : Meaning) × Means (files v) path m
    some =
        let m = exists a_derivation tree (keys_apart path tree (passes path tree linked.reads.passed)) in (
          m.0,
          record {
            text = text;
            at = here;
            reads = record { tree = tree; written = linked.reads.written; within = linked.reads.within; passed = linked.reads.passed; means = m.1 };
          },
        )

    link_of : (t : Tree input) (r : Row) → r.0 ≡ meaning t.0 → Same (map meaning t.1) r.1 → (w : Option Link) → LinkRight v.image v.count t w → LinkOf v r w
    link_of t r e s None f = subst (λ (p : Bytes). Found v.image v.count p None) (sym e) f
    link_of t r e s (Some w) (f, d) = (subst (λ (p : Bytes). Found v.image v.count p (Some w.file)) (sym e) f, (λ b. to (d.0 b), λ o. d.1 (from o)))
      where
        to : Owned (files v) (row_of t) → Owned (files v) r
        to o m g n j = o m (subst (λ (q : Bytes). Means (files v) q m) e g) n (s.back n j)

        from : Owned (files v) r → Owned (files v) (row_of t)
        from o m g n j = o m (subst (λ (q : Bytes). Means (files v) q m) (sym e) g) n (s.there n j)

    -- each row of the meaning has a place with its link, and each place a row
    pub link_behind : (m : Meaning) → Means (files v) path m → (r : Row) → Names m r → (i : ℕ) × (i < l.count) × LinkOf v r (get_or l.rows i None)
    link_behind m f r names =
        let w = input_back tree m (meant m f) r names in
        let p = place_of tree.1.0 no_input w.0 w.1 in
        let less : p.0 < l.count = omega (arith, linked.count, p.1) in (
          p.0,
          less,
          link_of w.0 r w.2 w.3 (get_or l.rows p.0 None) (subst (λ (t : Tree input). LinkRight v.image v.count t (get_or l.rows p.0 None)) p.2 (linked.right p.0 less)),
        )

    pub link_ahead : (m : Meaning) → Means (files v) path m → (i : ℕ) → i < l.count → (r : Row) × Names m r × LinkOf v r (get_or l.rows i None)
    link_ahead m f i less =
        let t = get_or tree.1.0 i no_input in
        let w = input_there tree m (meant m f) t (member_at tree.1.0 i no_input (omega (arith, linked.count, less))) in
        (w.0, w.1, link_of t w.0 w.2 w.3 (get_or l.rows i None) (linked.right i less))

    behind : (m : Meaning) → Means (files v) path m → (r : Row) → Names m r → (i : ℕ) × (i < l.count) × Stands v r (standing i)
    behind m f r names = let b = link_behind m f r names in (b.0, b.1, stands v r opens (get_or l.rows b.0 None) b.2)

    ahead : (m : Meaning) → Means (files v) path m → (i : ℕ) → i < l.count → (r : Row) × Names m r × Stands v r (standing i)
    ahead m f i less = let w = link_ahead m f i less in (w.0, w.1, stands v w.0 opens (get_or l.rows i None) w.2)

    ready_from : LinksReady v.row l → ReadyFile v k
    ready_from (inl (inl (i, less, e))) = early (λ m f y. (let w = ahead m f i less in subst (Stands v w.0) e w.2 (y.present w.0 w.1)))
    ready_from (inl (inr (inl (i, less, e)))) = early (λ m f y. (let w = ahead m f i less in (subst (Stands v w.0) e w.2).1 (y.owned w.0 w.1)))
    ready_from (inl (inr (inr (i, less, e)))) =
        let z = some in
        let w = ahead z.0 z.1 i less in
        let s = subst (Stands v w.0) e w.2 in
        spoilt z.0 z.1 w.0 w.1 s.1.0 s.1.1 s.1.2
    ready_from (inr every) =
        let z = some in
        supplied z.0 z.1 (λ r names. (let b = behind z.0 z.1 r names in (subst (Stands v r) (every b.0 b.1) b.2).1))

    module _ (no : LinksReady v.row l → ⊥) where
      some_absent : (i : ℕ) → i < l.count → standing i ≡ Absent → ⊥
      some_absent i less e = no (inl (inl (i, less, e)))

      some_unowned : (i : ℕ) → i < l.count → standing i ≡ Unowned → ⊥
      some_unowned i less e = no (inl (inr (inl (i, less, e))))

      unready : ReadyFile v k → ⊥
      unready (early n) =
          let z = some in
          n z.0 z.1 (record {
            present = λ r names. (let b = behind z.0 z.1 r names in present_by v r opens (standing b.0) b.2 (some_absent b.0 b.1));
            owned = λ r names. (let b = behind z.0 z.1 r names in owned_by v r opens (standing b.0) b.2 (some_absent b.0 b.1) (some_unowned b.0 b.1));
          })
      unready (spoilt m f r names j n u) =
          let b = behind m f r names in
          no (inl (inr (inr (b.0, b.1, unhashed_by v r opens j n u (standing b.0) b.2 (some_unowned b.0 b.1)))))
      unready (supplied m f all) = no (inr (λ i less.
          (let w = ahead m f i less in
          let z = all w.0 w.1 in
          hashed_by v w.0 opens z.0 z.2 z.1 z.3 (standing i) w.2 (some_unowned i less))))

    pub decides_ready : (b : Bool) → Decides b (LinksReady v.row l) → Decides b (ReadyFile v k)
    decides_ready true d = (λ e. ready_from (d.0 e), λ r. refl)
    decides_ready false d = (λ e. ready_from (d.0 e), λ r. absurd (unready (λ y. (let e = d.1 y in cc)) r))
