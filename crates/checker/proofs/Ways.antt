-- What the flags of ways say is what files rest on.
use Rattle.std.proofs.Common.{◌≡◌, ℕ, zero, suc, ◌+◌, ◌-◌, ◌<◌, ◌≤◌, ◌⊎◌, Bool, true, false, ◌||◌, ◌&&◌, Decides, None, Some, Option, List, MatchOption, get_or, unwrap_or, replicate, sym, refl, ap, ◌∙◌, subst, inl, inr, arith}
use Rattle.std.specs.declared.ops.Range.{Range}
use Rattle.std.proofs.lemmas.List.{get_or-replicate}
use Rattle.std.proofs.lemmas.Bool.{cases_eq}
use Rattle.canonical.specs.Meanings.{Meaning}
use Rattle.hash_modulo.specs.Sets.{Bytes, Means, Row, Names, Rests, near, far}
use Rattle.image.specs.Layout.{file_text}
use Rattle.image.specs.Opening.{Opens}
use Rattle.links.specs.Linked.{FileLinked, AllLinked, links_at}
use Rattle.links.specs.declared.link.Link.{Link}
use Rattle.links.specs.declared.link.Links.{Links}
use Rattle.links.specs.declared.table.LinkTable.{LinkTable}
use Rattle.links.proofs.Files.{set_only, one_number as one_file}
use Rattle.file_meaning.proofs.Judged.{not_both}
use Rattle.checker.specs.Calls.{OnCycle}
use Rattle.checker.specs.Seen.{view_in, view_if}
use Rattle.checker.specs.Views.{View, Open, files, path_at, Exists}
use Rattle.checker.specs.Ways.{file_in, NamedIn, Edge, Way, RowSays, Through, AllSay, TurnsBack, flag_at}
use Rattle.checker.specs.declared.checker.OpenSet.{OpenSet}
use Rattle.checker.proofs.Circling.{rests_read}
use Rattle.checker.proofs.Readiness.{LinkOf, link_ahead, link_behind, some, reads_here}

module _ (t : LinkTable) where
  into : (m i : ℕ) → Way t (suc m) i m → Way t m i m
  into m i (inl x) = x
  into m i (inr x) = x.0

  out : (m j : ℕ) → Way t (suc m) m j → Way t m m j
  out m j (inl x) = x
  out m j (inr x) = x.1

  four : (m i k j : ℕ) → ((p q : ℕ) → Way t m p k → Way t m k q → Way t m p q) → Way t (suc m) i k → Way t (suc m) k j → Way t (suc m) i j
  four m i k j more (inl x) (inl y) = inl (more i j x y)
  four m i k j more (inl x) (inr y) = inr (more i m x y.0, y.1)
  four m i k j more (inr x) (inl y) = inr (x.0, more m j x.1 y)
  four m i k j more (inr x) (inr y) = inr (x.0, y.1)

  -- a way to a file and one from it are a way
  joined : (m i k j : ℕ) → k < m → Way t m i k → Way t m k j → Way t m i j
  joined zero i k j less a b = absurd (omega (arith, less))
  joined (suc m) i k j less a b = elim (cases_eq k m) [
    | inl e ↦ inr (into m i (subst (λ (x : ℕ). Way t (suc m) i x) e a), out m j (subst (λ (x : ℕ). Way t (suc m) x j) e b))
    | inr ne ↦ four m i k j (λ p q x y. joined m p k q (omega (arith, less, ne)) x y) a b
  ]

  direct : (m i j : ℕ) → Edge t i j → Way t m i j
  direct zero i j e = e
  direct (suc m) i j e = inl (direct m i j e)

module _ (v : View) (t : LinkTable) (opens : Opens v.image v.count) (linked : AllLinked v.image v.count t) where
  abbrev path : ℕ → Bytes
  path a = path_at v (a + 1)

  onto : {p q r : Bytes} → Rests (files v) p q → Rests (files v) q r → Rests (files v) p r
  onto {p} {q} {r} (near m x e o s) u = far m x e o (subst (λ (y : Bytes). Rests (files v) y r) (sym s) u)
  onto (far m x e o w) u = far m x e o (onto w u)

  there : (a : ℕ) → a < v.count → Exists v (a + 1)
  there a h = (omega arith, omega (arith, h))

  -- a link leads to the file of its number
  led : (m : Meaning) (r : Row) (a b : ℕ) → Means (files v) (path a) m → Names m r → (w : Option Link) → LinkOf v r w → file_in w ≡ b + 1 → Rests (files v) (path a) (path b) × (b < v.count)
  led m r a b f o None n e = absurd (omega (arith, e))
  led m r a b f o (Some w) n e = (near m r f o (sym n.0.2 ∙ ap (path_at v) e), omega (arith, n.0.1, e))

  edge_rests : (a b : ℕ) → a < v.count → (k : Option Links) → FileLinked v.image v.count (path a) (file_text v.image (a + 1)) k → NamedIn k (b + 1) → Rests (files v) (path a) (path b) × (b < v.count)
  edge_rests a b h None l n = absurd n
  edge_rests a b h (Some k) l (i, less, e) =
      let z = some v (a + 1) opens (there a h) k l in
      let w = link_ahead v (a + 1) opens (there a h) k l z.0 z.1 i less in
      led z.0 w.0 a b z.1 w.1 (get_or k.rows i None) w.2 e

  pub way_rests : (m a b : ℕ) → m ≤ v.count → a < v.count → Way t m a b → Rests (files v) (path a) (path b)
  way_rests zero a b c h w = (edge_rests a b h (links_at t (a + 1)) (linked (a + 1) (omega arith) (omega (arith, h))) w).0
  way_rests (suc m) a b c h (inl w) = way_rests m a b (omega (arith, c)) h w
  way_rests (suc m) a b c h (inr w) = onto (way_rests m a m (omega (arith, c)) h w.0) (way_rests m m b (omega (arith, c)) (omega (arith, c)) w.1)

  -- a row of a file that names a file of the set has an edge there
  edge_there : (a b : ℕ) → a < v.count → b < v.count → (m : Meaning) → Means (files v) (path a) m → (r : Row) → Names m r → r.0 ≡ path b
      → (k : Option Links) → FileLinked v.image v.count (path a) (file_text v.image (a + 1)) k → NamedIn k (b + 1)
  edge_there a b h g m f r o e None l = absurd (not_both (path a) _ m l.0 (reads_here v (a + 1) opens (there a h) m f) l.1)
  edge_there a b h g m f r o e (Some k) l =
      let w = link_behind v (a + 1) opens (there a h) k l m f r o in
      (w.0, w.1, same (get_or k.rows w.0 None) w.2)
    where
      same : (x : Option Link) → LinkOf v r x → file_in x ≡ b + 1
      same None n = absurd (n (b + 1) (omega arith) (omega (arith, g)) (sym e))
      same (Some x) n = one_file v.image v.count opens x.file (b + 1) n.0.0 n.0.1 (omega arith) (omega (arith, g)) (n.0.2 ∙ e)

  edge_of : (a b : ℕ) → a < v.count → b < v.count → (m : Meaning) → Means (files v) (path a) m → (r : Row) → Names m r → r.0 ≡ path b → Edge t a b
  edge_of a b h g m f r o e = edge_there a b h g m f r o e (links_at t (a + 1)) (linked (a + 1) (omega arith) (omega (arith, h)))

  pub rests_way : {p q : Bytes} → Rests (files v) p q → (a b : ℕ) → a < v.count → b < v.count → path a ≡ p → path b ≡ q → Way t v.count a b
  rests_way (near m r f o s) a b h g x y =
      direct t v.count a b (edge_of a b h g m (subst (λ (z : Bytes). Means (files v) z m) (sym x) f) r o (s ∙ sym y))
  rests_way (far m r f o u) a b h g x y =
      let z = rests_read (files v) u in
      let n = set_only v.image v.count r.0 z.1.text z.1.at in
      let j = n.number - 1 in
      let less : j < v.count = omega (arith, n.from, n.to) in
      let up : n.number ≡ j + 1 = omega (arith, n.from) in
      let is : path j ≡ r.0 = ap (path_at v) (sym up) ∙ n.path in
      joined t v.count a j b less (direct t v.count a j (edge_of a j h less m (subst (λ (z : Bytes). Means (files v) z m) (sym x) f) r o (sym is))) (rests_way u j b less g is y)

  -- a place with a way back to it, or none
  pub circle_there : (a : ℕ) → a < v.count → Way t v.count a a → OnCycle v (a + 1)
  circle_there a h w = inr (there a h, way_rests v.count a a (omega arith) h w)

  pub no_circle : ((a : ℕ) → a < v.count → Way t v.count a a → ⊥) → OnCycle v 0
  no_circle none = inl (
    refl,
    λ p u.
        (let z = rests_read (files v) u in
        let n = set_only v.image v.count p z.1.text z.1.at in
        let j = n.number - 1 in
        let less : j < v.count = omega (arith, n.from, n.to) in
        let up : n.number ≡ j + 1 = omega (arith, n.from) in
        let is : path j ≡ p = ap (path_at v) (sym up) ∙ n.path in
        none j less (rests_way u j j less less is is)),
  )

-- ---- flags

no : false ≡ true → ⊥
no e = let z : ◌≡◌ {A = ℕ} 0 1 = cc in omega arith

-- the flag of a joined row
pub either : {X Y Z : Type 0} (x y z : Bool) → Decides x X → Decides y Y → Decides z Z → Decides (x || (y && z)) (X ⊎ (Y × Z))
either true y z a b c = (λ e. inl (a.0 refl), λ h. refl)
either false true true a b c = (λ e. inr (b.0 refl, c.0 refl), λ h. refl)
either {X} {Y} {Z} false true false a b c = (λ e. absurd (no e), none)
  where
    none : X ⊎ (Y × Z) → false ≡ true
    none (inl x) = a.1 x
    none (inr w) = c.1 w.1
either {X} {Y} {Z} false false z a b c = (λ e. absurd (no e), none)
  where
    none : X ⊎ (Y × Z) → false ≡ true
    none (inl x) = a.1 x
    none (inr w) = b.1 w.0

-- a row without flags
none_named : (row : List Bool) → ((b : ℕ) → b < 256 → get_or row b false ≡ false) → RowSays row (λ b. NamedIn None (b + 1))
none_named row e b low = (λ h. absurd (no (sym (e b low) ∙ h)), λ n. absurd n)

pub nothing_named : RowSays (replicate 256 false) (λ b. NamedIn None (b + 1))
nothing_named = none_named (replicate 256 false) (λ b low. get_or-replicate 256 b false false low)

pub all_through : (t : LinkTable) (m : ℕ) (rows after : List (List Bool)) → m < 256 → AllSay rows (Way t m) → Through rows m after → AllSay after (Way t (m + 1))
all_through t m rows after low all joins a h b g =
    subst (λ (n : ℕ). Decides (flag_at after a b) (Way t n a b)) {x = suc m} {y = m + 1} (omega arith)
    (subst (λ (x : Bool). Decides x (Way t (suc m) a b)) (sym ((joins a h).says b g)) (either _ _ _ (all a h b g) (all a h m low) (all m low b g)))

-- what a search of the flags for a file with a way back says of circles
module _ (v : View) (t : LinkTable) (opens : Opens v.image v.count) (linked : AllLinked v.image v.count t) (few : v.count ≤ 256) (rows : List (List Bool)) (all : AllSay rows (Way t v.count)) where
  pub circled : (s : Range ℕ) → s ≡ record { start = 1; «end» = v.count + 1 } → (r : Option ℕ)
      → MatchOption r ((k : ℕ) → s.start ≤ k → k < s.end → TurnsBack rows k false) (λ i. (s.start ≤ i) × (i < s.end) × TurnsBack rows i true × ((k : ℕ) → s.start ≤ k → k < i → TurnsBack rows k false))
      → OnCycle v (unwrap_or r 0)
  circled s e None none = no_circle v t opens linked (λ k h w.
      (let low : k < 256 = omega (arith, few, h) in
      let from : s.start ≤ k + 1 = omega (arith, ap (λ (x : Range ℕ). x.start) e) in
      let to : k + 1 < s.end = omega (arith, h, ap (λ (x : Range ℕ). x.end) e) in
      no ((none (k + 1) from to).says k low refl ∙ (all k low k low).1 w)))
  circled s e (Some i) (from, to, here, before) =
      let less : i - 1 < v.count = omega (arith, from, to, ap (λ (x : Range ℕ). x.start) e, ap (λ (x : Range ℕ). x.end) e) in
      let low : i - 1 < 256 = omega (arith, few, less) in
      let up : i ≡ i - 1 + 1 = omega (arith, from, ap (λ (x : Range ℕ). x.start) e) in
      subst (OnCycle v) (sym up) (circle_there v t opens linked (i - 1) less ((all (i - 1) low (i - 1) low).0 (sym (here.says (i - 1) low up))))

-- what the set says is what the checker says
pub circle_in : (o : Option OpenSet) (s : OpenSet) (n : ℕ) → o ≡ Some s → OnCycle (view_in s) n → Open (view_if o) × OnCycle (view_if o) n
circle_in o s n e f = subst (λ (x : Option OpenSet). Open (view_if x) × OnCycle (view_if x) n) (sym e) (refl, f)
