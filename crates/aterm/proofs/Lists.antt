-- What the readers of a row and of a list answer.
use Rattle.std.proofs.Common.{◌≡◌, ℕ, zero, suc, pred, ◌+◌, ◌-◌, ◌<◌, ◌≤◌, ◌⊎◌, inl, inr, List, [], ◌∷◌, ◌++◌, length, get_or, drop, IfOk, Ok, Err, Result, sym, refl, ap, ◌∙◌, subst, ⊎_elim, append_assoc, append-nil, sub-one, arith, length-append}
use Rattle.std.proofs.str.Laws.{order}
use Rattle.aterm.specs.declared.fault.Cause.{Cause}
use Rattle.aterm.specs.declared.fault.Cause.TheVariants.{Byte, Row}
use Rattle.aterm.specs.declared.fault.Fault.{Fault}
use Rattle.aterm.specs.declared.rows.Placed.{Placed}
use Rattle.aterm.specs.Grammar.{Sign, byte, over, end, signs, Shape, list, Tree, opener, write, more, rows}
use Rattle.aterm.specs.Reads.{Allowed, Because, Stops, Written, Answers, Next, Each, past, beyond, written_row}
use Rattle.aterm.proofs.Laws.{tail_eq, Free, Starts, After, stop_start, stop_after, sign_at, sign_end, reach}
use Rattle.aterm.proofs.Free.{free_write, some_tree, opener_close, not_close}
use Rattle.aterm.proofs.Parts.{stop_next, step_next, step_opener}

-- the row after k rows begins here: the first at once, and another after a comma
abbrev pub Begins : List ℕ → ℕ → ℕ → ℕ → Type 0
Begins t k to begun = ((k ≡ 0) × (begun ≡ to)) ⊎ ((0 < k) × Next 44 t to (Ok begun))

pub begins_from : (t : List ℕ) (k to begun : ℕ) → Begins t k to begun → to ≤ begun
begins_from t k to begun (inl (e, r)) = omega arith
begins_from t k to begun (inr (e, r)) = omega (arith, r.0)

module _ (s : Shape) where
  -- where the row after these would begin
  abbrev pub ends : ℕ → List (Tree s) → ℕ
  ends at [] = at
  ends at (x ∷ xs) = ends (past s at x) xs

  after_begin : (m : ℕ) → 0 < m → After (written_row s m) (byte (opener s) ∷ []) (write s)
  after_begin zero h = absurd (omega arith)
  after_begin (suc m) h = record { up = λ y. (y, refl); down = λ x q e. (x, tail_eq e) }

  beginning : (m : ℕ) → 0 < m → (x : Tree s) → written_row s m x ≡ byte (opener s) ∷ write s x
  beginning zero h x = absurd (omega arith)
  beginning (suc m) h x = refl

  module _ (t : List ℕ) (at : ℕ) (h : at ≤ length t) (b : ℕ) (is : b ≡ opener s) (m : ℕ) where
    pub row_open : (f : Fault) → Next b t at (Err f) → Stops (written_row s m) (drop at (signs t)) at f.place f.cause
    row_open f n = stop_next (written_row s m) m (opener s) (some_tree s) (λ z. (write s z, refl)) t at h f (subst (λ c. Next c t at (Err f)) is n)

    full : (inside : ℕ) → Next b t at (Ok inside) → Stops (written_row s 0) (drop at (signs t)) at at Row
    full inside n = record {
      before = [];
      sign = byte (opener s);
      after = drop inside (signs t);
      whole = step_opener s t at b is inside n;
      at = omega arith;
      viable = (over (opener s), (some_tree s, write s (some_tree s), refl));
      stops = λ a. let e = a.2 in cc;
      because = (some_tree s, write s (some_tree s), refl);
    }

    pub row_full : m ≡ 0 → (inside : ℕ) → Next b t at (Ok inside) → Stops (written_row s m) (drop at (signs t)) at at Row
    row_full e inside n = subst (λ k. Stops (written_row s k) (drop at (signs t)) at at Row) (sym e) (full inside n)

    module _ (some : 0 < m) (inside : ℕ) (n : Next b t at (Ok inside)) {V : Type 0} (H : ℕ → V → Tree s → Type 0) where
      pub row_rest : (r : Result (V × ℕ) Fault) → Answers (write s) (H inside) t inside r → Answers (written_row s m) (H (at + 1)) t at r
      row_rest (Ok v) w = record {
        tree = w.tree;
        whole = step_opener s t at b is inside n ∙ ap (λ l. byte (opener s) ∷ l) w.whole ∙ ap (λ l. l ++ drop v.1 (signs t)) (sym (beginning m some w.tree));
        inside = w.inside;
        held = subst (λ p. H p v.0 w.tree) n.0 w.held;
      }
      row_rest (Err f) st = stop_after (after_begin m some) (step_opener s t at b is inside n) (sym n.0) st

      pub row_room : (r : Result (V × ℕ) Fault) → Answers (write s) (H inside) t inside r → IfOk r (λ v. (0 < m) × (at < v.1))
      row_room (Ok v) w = (some, omega (arith, n.0, n.1, reach t (write s w.tree) inside v.1 w.whole (omega (arith, n.0, n.1)) w.inside))
      row_room (Err f) st = tt

module _ (s : Shape) (n : ℕ) where
  abbrev all : List (Tree s) → List Sign
  all = rows (opener s) (write s) n

  abbrev rest : ℕ → List (Tree s) → List Sign
  rest m = more (opener s) (write s) m

  abbrev run : ℕ → Tree s × List (Tree s) → List Sign
  run m z = written_row s m z.0 ++ rest (pred m) z.1

  free_row : (m : ℕ) → Free (written_row s m)
  free_row m x y r q e = free_write s x y r q (tail_eq e)

  starts_run : (m : ℕ) → Starts (written_row s m) (run m)
  starts_run m = record { down = λ z. (z.0, rest (pred m) z.1, refl); up = λ x. ((x, []), rest (pred m) [], refl) }

  -- a list that does not close at once begins with a row
  allow_all : (p : List Sign) (c : Sign) → Allowed (run n) p c → Allowed all p c
  allow_all p c a = (a.0.0 ∷ a.0.1, a.1, a.2)

  back_all : (p : List Sign) (c : Sign) → ((q : List Sign) → byte 93 ∷ [] ≡ p ++ c ∷ q → ⊥) → (zs : List (Tree s)) (q : List Sign) → all zs ≡ p ++ c ∷ q → Allowed (run n) p c
  back_all p c ne [] q e = absurd (ne q e)
  back_all p c ne (z ∷ zs) q e = ((z, zs), q, e)

  because_all : (p : List Sign) (c : Sign) (k : Cause) → ((q : List Sign) → byte 93 ∷ [] ≡ p ++ beyond c ∷ q → ⊥) → Because (run n) p c k → Because all p c k
  because_all p c Byte ne b = λ a. b (back_all p (beyond c) ne a.0 a.1 a.2)
  because_all p c Row ne b = allow_all p (beyond c) b

  -- the sign that stands here closes no list
  abbrev Open : List Sign → Type 0
  Open l = (r : List Sign) → l ≡ byte 93 ∷ r → ⊥

  no_close : (l p : List Sign) (c : Sign) (r : List Sign) → Open l → l ≡ p ++ c ∷ r → (q : List Sign) → byte 93 ∷ [] ≡ p ++ c ∷ q → ⊥
  no_close l [] c r o e q f = o r (e ∙ ap (λ d. d ∷ r) (sym (let g : byte 93 ≡ c = cc in g)))
  no_close l (d ∷ p) c r o e q f = o (p ++ c ∷ r) (e ∙ ap (λ d. d ∷ p ++ c ∷ r) (sym (let g : byte 93 ≡ d = cc in g)))

  never_beyond : (c : Sign) → byte 93 ≡ beyond c → ⊥
  never_beyond (byte b) e = cc
  never_beyond (over b) e = cc
  never_beyond end e = cc

  no_close_beyond : (l p : List Sign) (c : Sign) (r : List Sign) → Open l → l ≡ p ++ c ∷ r → (q : List Sign) → byte 93 ∷ [] ≡ p ++ beyond c ∷ q → ⊥
  no_close_beyond l [] c r o e q f = never_beyond c (let g : byte 93 ≡ beyond c = cc in g)
  no_close_beyond l (d ∷ p) c r o e q f = o (p ++ c ∷ r) (e ∙ ap (λ d. d ∷ p ++ c ∷ r) (sym (let g : byte 93 ≡ d = cc in g)))

  stop_all : {l : List Sign} {from place : ℕ} {k : Cause} → Open l → Stops (run n) l from place k → Stops all l from place k
  stop_all {l} {from} {place} {k} o h = record {
    before = h.before;
    sign = h.sign;
    after = h.after;
    whole = h.whole;
    at = h.at;
    viable = (h.viable.0, allow_all h.before h.viable.0 h.viable.1);
    stops = λ a. h.stops (back_all h.before h.sign (no_close l h.before h.sign h.after o h.whole) a.0 a.1 a.2);
    because = because_all h.before h.sign k (no_close_beyond l h.before h.sign h.after o h.whole) h.because;
  }

  not_here : (b : ℕ) (t : List ℕ) (at : ℕ) → at ≤ length t → (f : Fault) → Next b t at (Err f) → (r : List Sign) → drop at (signs t) ≡ byte b ∷ r → ⊥
  not_here b t at h f e r q =
      ⊎_elim
      (λ k. e.2 k (let g = sign_at t at k in cc))
      (λ k. let i : at ≡ length t = omega arith in let g = ap (λ j. drop j (signs t)) i ∙ sign_end t in cc)
      (order at (length t))

  after_comma : (m : ℕ) → After (rest m) (byte 44 ∷ []) (run m)
  after_comma m = record { up = λ z. (z.0 ∷ z.1, refl); down = down }
    where
      down : (zs : List (Tree s)) (q : List Sign) → rest m zs ≡ byte 44 ∷ q → (z : Tree s × List (Tree s)) × (run m z ≡ q)
      down [] q e = absurd (let z : ◌≡◌ {A = ℕ} 93 44 = cc in omega arith)
      down (z ∷ zs) q e = ((z, zs), tail_eq e)

  -- neither a bracket nor a comma
  stop_rest : (m : ℕ) (t : List ℕ) (at : ℕ) → at ≤ length t → (f g : Fault) → Next 93 t at (Err f) → Next 44 t at (Err g) → Stops (rest m) (drop at (signs t)) at g.place g.cause
  stop_rest m t at h f g n o =
      let found : (c : Sign) × (r : List Sign) × (drop at (signs t) ≡ c ∷ r) = here in
      let c = found.0 in
      let at_c : drop at (signs t) ≡ c ∷ found.1 = found.2 in
      let stop : Stops (rest m) (drop at (signs t)) at at Byte = record {
        before = [];
        sign = c;
        after = found.1;
        whole = at_c;
        at = omega arith;
        viable = (byte 93, ([], [], refl));
        stops = λ a. neither a.0 a.1 c (λ e. not_here 93 t at h f n found.1 (at_c ∙ ap (λ d. d ∷ found.1) e)) (λ e. not_here 44 t at h g o found.1 (at_c ∙ ap (λ d. d ∷ found.1) e)) a.2;
        because = λ a. neither a.0 a.1 (beyond c) (λ e. never_byte c 93 e) (λ e. never_byte c 44 e) a.2;
      } in
      subst (λ p. Stops (rest m) (drop at (signs t)) at p g.cause) (sym o.0) (subst (Stops (rest m) (drop at (signs t)) at at) (sym o.1) stop)
    where
      here : (c : Sign) × (r : List Sign) × (drop at (signs t) ≡ c ∷ r)
      here = ⊎_elim (λ k. (byte (get_or t at 0), drop (at + 1) (signs t), sign_at t at k)) (λ k. let i : at ≡ length t = omega arith in (end, [], ap (λ j. drop j (signs t)) i ∙ sign_end t)) (order at (length t))

      never_byte : (c : Sign) (b : ℕ) → beyond c ≡ byte b → ⊥
      never_byte (byte d) b e = cc
      never_byte (over d) b e = cc
      never_byte end b e = cc

      neither : (zs : List (Tree s)) (q : List Sign) (c : Sign) → (c ≡ byte 93 → ⊥) → (c ≡ byte 44 → ⊥) → rest m zs ≡ c ∷ q → ⊥
      neither [] q c a b e = a cc
      neither (z ∷ zs) q c a b e = b cc

  ends_more : (at : ℕ) (xs : List (Tree s)) (x : Tree s) → ends s at (xs ++ x ∷ []) ≡ past s (ends s at xs) x
  ends_more at [] x = refl
  ends_more at (y ∷ xs) x = ends_more (past s at y) xs x

  past_row : (m at to : ℕ) (x : Tree s) → at + length (written_row s m x) ≡ to → to + 1 ≡ past s at x
  past_row m at to x e = let l = length-append (write s x) (byte 44 ∷ []) in omega arith

  -- k rows are read, from `at` to `to`
  pub record Listed {V : Type 0} (H : ℕ → V → Tree s → Type 0) (t : List ℕ) (at : ℕ) (vs : List (Placed V)) (k to : ℕ) : Type 0 where
    pub trees : List (Tree s)
    pub pre : List Sign
    pub whole : drop at (signs t) ≡ pre ++ drop to (signs t)
    pub inside : to ≤ length t
    pub up : (ys : List (Tree s)) → all (trees ++ ys) ≡ pre ++ rest (n - k) ys
    pub down : (zs : List (Tree s)) (q : List Sign) → all zs ≡ pre ++ q → (ys : List (Tree s)) × (rest (n - k) ys ≡ q)
    pub stands : to + 1 ≡ ends s at trees
    pub held : Each s H at vs trees

  module _ {V : Type 0} (H : ℕ → V → Tree s → Type 0) (t : List ℕ) (at : ℕ) (h : at ≤ length t) where
    pub empty_list : (vs : List (Placed V)) → vs ≡ [] → (next : ℕ) → Next 93 t at (Ok next) → Written (write (list n s)) (Each s H at vs) t at next
    empty_list vs e next m = record {
      tree = [];
      whole = step_next 93 t at next m;
      inside = omega (arith, m.0, m.1);
      held = subst (λ l. Each s H at l []) (sym e) tt;
    }

    pub first_row_stops : (g : Fault) → Next 93 t at (Err g) → (f : Fault) → Stops (written_row s n) (drop at (signs t)) at f.place f.cause → Stops (write (list n s)) (drop at (signs t)) at f.place f.cause
    first_row_stops g m f st = stop_all (not_here 93 t at h g m) (stop_start (free_row n) (starts_run n) st)

    pub first_row : (v : V) (to : ℕ) → Written (written_row s n) (H (at + 1) v) t at to → (vs : List (Placed V)) → vs ≡ record { place = at; value = v } ∷ [] → Listed H t at vs 1 to
    first_row v to w vs e = record {
      trees = w.tree ∷ [];
      pre = written_row s n w.tree;
      whole = w.whole;
      inside = w.inside;
      up = λ ys. ap (λ m. written_row s n w.tree ++ rest m ys) (sym (sub-one n));
      down = down;
      stands = past_row n at to w.tree (reach t (written_row s n w.tree) at to w.whole h w.inside);
      held = subst (λ l. Each s H at l (w.tree ∷ [])) (sym e) ((refl, w.held), tt);
    }
      where
        down : (zs : List (Tree s)) (q : List Sign) → all zs ≡ written_row s n w.tree ++ q → (ys : List (Tree s)) × (rest (n - 1) ys ≡ q)
        down [] q f = absurd (not_close (write s) (free_write s) (opener s) n _ _ (opener_close s) f)
        down (z ∷ zs) q f = (zs, ap (λ m. rest m zs) (sub-one n) ∙ free_row n z w.tree _ _ f)

  module _ {V : Type 0} {H : ℕ → V → Tree s → Type 0} {t : List ℕ} {at : ℕ} (h : at ≤ length t) {vs : List (Placed V)} {k to : ℕ} (li : Listed H t at vs k to) where
    after_li : After all li.pre (rest (n - k))
    after_li = record { up = λ ys. (li.trees ++ ys, li.up ys); down = li.down }

    reached : at + length li.pre ≡ to
    reached = reach t li.pre at to li.whole h li.inside

    pub list_closed : (next : ℕ) → Next 93 t to (Ok next) → Written (write (list n s)) (Each s H at vs) t at next
    list_closed next m = record {
      tree = li.trees;
      whole = li.whole ∙ ap (λ l. li.pre ++ l) (step_next 93 t to next m) ∙ sym (append_assoc li.pre (byte 93 ∷ []) (drop next (signs t))) ∙ ap (λ l. l ++ drop next (signs t)) (sym (li.up []) ∙ ap all (append-nil li.trees));
      inside = omega (arith, m.0, m.1);
      held = li.held;
    }

    pub comma_stops : (f g : Fault) → Next 93 t to (Err f) → Next 44 t to (Err g) → Stops (write (list n s)) (drop at (signs t)) at g.place g.cause
    comma_stops f g m o = stop_after after_li li.whole reached (stop_rest (n - k) t to li.inside f g m o)

    module _ (begun : ℕ) (m : Next 44 t to (Ok begun)) where
      pub row_stops : (f : Fault) → Stops (written_row s (n - k)) (drop begun (signs t)) begun f.place f.cause → Stops (write (list n s)) (drop at (signs t)) at f.place f.cause
      row_stops f st =
          stop_after after_li li.whole reached
          (stop_after (after_comma (n - k)) (step_next 44 t to begun m) (sym m.0)
          (stop_start (free_row (n - k)) (starts_run (n - k)) st))

      pub next_row : (v : V) (after : ℕ) → Written (written_row s (n - k)) (H (begun + 1) v) t begun after → (us : List (Placed V)) → us ≡ vs ++ record { place = begun; value = v } ∷ [] → Listed H t at us (k + 1) after
      next_row v after w us e = record {
        trees = li.trees ++ w.tree ∷ [];
        pre = li.pre ++ byte 44 ∷ written_row s (n - k) w.tree;
        whole = li.whole ∙ ap (λ l. li.pre ++ l) (step_next 44 t to begun m ∙ ap (λ l. byte 44 ∷ l) w.whole) ∙ sym (append_assoc li.pre (byte 44 ∷ written_row s (n - k) w.tree) (drop after (signs t)));
        inside = w.inside;
        up = λ ys. ap all (append_assoc li.trees (w.tree ∷ []) ys) ∙ li.up (w.tree ∷ ys) ∙ ap (λ i. li.pre ++ (byte 44 ∷ written_row s (n - k) w.tree ++ rest i ys)) less ∙ sym (append_assoc li.pre (byte 44 ∷ written_row s (n - k) w.tree) (rest (n - (k + 1)) ys));
        down = λ zs q f. let d = li.down zs (byte 44 ∷ written_row s (n - k) w.tree ++ q) (f ∙ append_assoc li.pre (byte 44 ∷ written_row s (n - k) w.tree) q) in on d.0 q d.1;
        stands = past_row (n - k) begun after w.tree (reach t (written_row s (n - k) w.tree) begun after w.whole (omega (arith, m.0, m.1)) w.inside) ∙ ap (λ p. past s p w.tree) here ∙ sym (ends_more at li.trees w.tree);
        held = subst (λ l. Each s H at l (li.trees ++ w.tree ∷ [])) (sym e) (each_more at vs li.trees (record { place = begun; value = v }) w.tree li.held here (subst (λ p. H (p + 1) v w.tree) here w.held));
      }
        where
          here : begun ≡ ends s at li.trees
          here = m.0 ∙ li.stands

          less : pred (n - k) ≡ n - (k + 1)
          less = omega arith

          on : (ys : List (Tree s)) (q : List Sign) → rest (n - k) ys ≡ byte 44 ∷ written_row s (n - k) w.tree ++ q → (xs : List (Tree s)) × (rest (n - (k + 1)) xs ≡ q)
          on [] q f = absurd (let z : ◌≡◌ {A = ℕ} 93 44 = cc in omega arith)
          on (y ∷ ys) q f = (ys, ap (λ i. rest i ys) (sym less) ∙ free_row (n - k) y w.tree _ _ (tail_eq f))

          each_more : (p : ℕ) (us : List (Placed V)) (xs : List (Tree s)) (u : Placed V) (x : Tree s) → Each s H p us xs → u.place ≡ ends s p xs → H (ends s p xs + 1) u.value x → Each s H p (us ++ u ∷ []) (xs ++ x ∷ [])
          each_more p [] [] u x a q b = ((q, b), tt)
          each_more p [] (y ∷ xs) u x a q b = absurd a
          each_more p (v ∷ us) [] u x a q b = absurd a
          each_more p (v ∷ us) (y ∷ xs) u x a q b = (a.0, each_more (past s p y) us xs u x a.1 q b)

  -- k rows are read, up to `to`, and perhaps none
  abbrev pub Partly : {V : Type 0} → (ℕ → V → Tree s → Type 0) → List ℕ → ℕ → List (Placed V) → ℕ → ℕ → Type 0
  Partly H t at vs k to = ((k ≡ 0) × (vs ≡ []) × (to ≡ at)) ⊎ ((0 < k) × Listed H t at vs k to)

  pub partly_none : {V : Type 0} (H : ℕ → V → Tree s → Type 0) (t : List ℕ) (at : ℕ) (vs : List (Placed V)) (k : ℕ) → k ≡ 0 → vs ≡ [] → Partly H t at vs k at
  partly_none H t at vs k e f = inl (e, f, refl)

  module _ {V : Type 0} {H : ℕ → V → Tree s → Type 0} {t : List ℕ} {at : ℕ} (h : at ≤ length t) {vs : List (Placed V)} {k to : ℕ} (p : Partly H t at vs k to) where
    pub partly_closed : (next : ℕ) → Next 93 t to (Ok next) → Written (write (list n s)) (Each s H at vs) t at next
    partly_closed next m =
        ⊎_elim
        (λ z. empty_list H t at h vs z.1 next (subst (λ i. Next 93 t i (Ok next)) z.2 m))
        (λ z. list_closed h z.1 next m)
        p

    pub partly_comma : 0 < k → (f g : Fault) → Next 93 t to (Err f) → Next 44 t to (Err g) → Stops (write (list n s)) (drop at (signs t)) at g.place g.cause
    partly_comma some f g m o = ⊎_elim (λ z. absurd (omega arith)) (λ z. comma_stops h z.1 f g m o) p

    module _ (begun : ℕ) (b : Begins t k to begun) where
      pub partly_stops : (g : Fault) → Next 93 t to (Err g) → (f : Fault) → Stops (written_row s (n - k)) (drop begun (signs t)) begun f.place f.cause → Stops (write (list n s)) (drop at (signs t)) at f.place f.cause
      partly_stops g m f st = go p b
        where
          go : Partly H t at vs k to → Begins t k to begun → Stops (write (list n s)) (drop at (signs t)) at f.place f.cause
          go (inl (e, v, q)) (inl (d, r)) =
              let all_left : n - k ≡ n = omega arith in
              first_row_stops H t at h g (subst (λ i. Next 93 t i (Err g)) q m) f
              (subst (λ i. Stops (written_row s i) (drop at (signs t)) at f.place f.cause) all_left (subst (λ i. Stops (written_row s (n - k)) (drop i (signs t)) i f.place f.cause) (r ∙ q) st))
          go (inl (e, v, q)) (inr (d, r)) = absurd (omega arith)
          go (inr (e, l)) (inl (d, r)) = absurd (omega arith)
          go (inr (e, l)) (inr (d, r)) = row_stops h l begun r f st

      pub partly_more : (v : V) (after : ℕ) → Written (written_row s (n - k)) (H (begun + 1) v) t begun after → (us : List (Placed V)) → us ≡ vs ++ record { place = begun; value = v } ∷ [] → Partly H t at us (k + 1) after
      partly_more v after w us e = inr (omega arith, go p b)
        where
          go : Partly H t at vs k to → Begins t k to begun → Listed H t at us (k + 1) after
          go (inl (z, none, q)) (inl (d, r)) =
              let all_left : n - k ≡ n = omega arith in
              let first : 1 ≡ k + 1 = omega arith in
              let from = subst (λ i. Written (written_row s n) (H (i + 1) v) t i after) (r ∙ q) (subst (λ i. Written (written_row s i) (H (begun + 1) v) t begun after) all_left w) in
              subst (λ j. Listed H t at us j after) first
              (first_row H t at h v after from us
              (e ∙ ap (λ l. l ++ record { place = begun; value = v } ∷ []) none ∙ ap (λ i. record { place = i; value = v } ∷ []) (r ∙ q)))
          go (inl (z, none, q)) (inr (d, r)) = absurd (omega arith)
          go (inr (z, l)) (inl (d, r)) = absurd (omega arith)
          go (inr (z, l)) (inr (d, r)) = next_row h l begun r v after w us e
