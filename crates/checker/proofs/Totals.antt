-- The sum over files that are each settled once is the sum over the files in their order; and calls that write no path digest what their
-- settles count.
use Rattle.std.proofs.Common.{◌≡◌, ℕ, zero, suc, ◌+◌, ◌≤◌, List, [], ◌∷◌, ◌++◌, Ok, Err, sym, refl, ◌∙◌, subst, inl, inr, arith}
use Rattle.std.specs.List.{AllByRecursion}
use Rattle.std.proofs.lemmas.Bool.{cases_lt}
use Rattle.canonical.specs.Order.{Member}
use Rattle.hash_modulo.specs.Sets.{Bytes}
use Rattle.image.specs.Layout.{file_path}
use Rattle.links.specs.Sets.{set_of}
use Rattle.sink.specs.Write.{Held}
use Rattle.checker.specs.Calls.{Kind}
use Rattle.checker.specs.Events.{Event, took, settled, returned, told, located, rewritten, circled, lined, tailed}
use Rattle.checker.specs.Playing.{last_taken, Fits, Values, Plays}
use Rattle.checker.specs.Reports.{files_to, rounds_then, verdicts_from}
use Rattle.checker.specs.Theorem.{CountRight, Numbered, AnswersRight, settles, counted, Total, Distinct, Adds, Rise}
use Rattle.checker.specs.declared.call.Answer.{Answer}
use Rattle.checker.specs.declared.call.Call.{Call}
use Rattle.checker.specs.declared.call.Call.TheVariants as calls

-- ---- sums in order

module _ (kind : Kind) (img : Bytes) (n : ℕ) where
  -- the same files but for the file k, and its count apart
  record Without (k : ℕ) (ks : List ℕ) (t : ℕ) : Type 0 where
    pub rest : List ℕ
    pub one : ℕ
    pub others : ℕ
    pub right : CountRight kind (set_of img n) (file_path img k) one
    pub total : Total kind img n rest others
    pub sum : t ≡ one + others
    pub once : Distinct rest
    pub inside : (j : ℕ) → Member j rest → Member j ks × (j ≡ k → ⊥)
    pub back : (j : ℕ) → Member j ks → (j ≡ k → ⊥) → Member j rest

  swapped : (t a b c d : ℕ) → t ≡ a + b → b ≡ c + d → t ≡ c + (a + d)
  swapped t a b c d e f = omega arith

  without : (k : ℕ) (ks : List ℕ) (t : ℕ) → Distinct ks → Total kind img n ks t → Member k ks → Without k ks t
  without k [] t d x i = absurd i
  without k (j ∷ ks) t (new, d) (a, b, r, x, s) (inl same) = record {
    rest = ks;
    one = a;
    others = b;
    right = subst (λ (i : ℕ). CountRight kind (set_of img n) (file_path img i) a) (sym same) r;
    total = x;
    sum = s;
    once = d;
    inside = λ i m. (inr m, λ e. new (subst (λ (l : ℕ). Member l ks) (e ∙ same) m));
    back = λ i m not. elim m [ inl e ↦ absurd (not (e ∙ sym same)) | inr there ↦ there ];
  }
  without k (j ∷ ks) t (new, d) (a, b, r, x, s) (inr there) =
      let w = without k ks b d x there in
      record {
        rest = j ∷ w.rest;
        one = w.one;
        others = a + w.others;
        right = w.right;
        total = (a, w.others, r, w.total, refl);
        sum = swapped t a b w.one w.others s w.sum;
        once = (λ m. new (w.inside j m).0, w.once);
        inside = λ i m. elim m [
          | inl e ↦ (inl e, λ q. new (subst (λ (l : ℕ). Member l ks) (sym q ∙ e) there))
          | inr m ↦ (inr (w.inside i m).0, (w.inside i m).1)
        ];
        back = λ i m not. elim m [ inl e ↦ inl e | inr m ↦ inr (w.back i m not) ];
      }

  below : (j m : ℕ) → j ≤ suc m → (j ≡ suc m → ⊥) → j ≤ m
  below j m most not = elim (cases_lt m j) [ inl more ↦ absurd (not (omega arith)) | inr less ↦ less ]

  -- where these are the first m files, each once
  pub in_order : (m t : ℕ) (ks : List ℕ) → Distinct ks → ((j : ℕ) → Member j ks → Numbered m j) → ((j : ℕ) → Numbered m j → Member j ks)
      → Total kind img n ks t → Total kind img n (files_to m) t
  in_order zero t [] d few all x = x
  in_order zero t (k ∷ ks) d few all x =
      let (low, high) = few k (inl refl) in
      absurd (let f : 1 ≤ 0 = omega arith in omega arith)
  in_order (suc m) t ks d few all x =
      let w = without (suc m) ks t d x (all (suc m) (omega arith, omega arith)) in (
        w.one,
        w.others,
        w.right,
        in_order m w.others w.rest w.once
            (λ j i. let (there, not) = w.inside j i in let (low, high) = few j there in (low, below j m high not))
            (λ j q. w.back j (all j (q.0, omega (arith, q.1))) (λ e. let f : suc m ≤ m = omega (arith, q.1, e) in omega arith))
            w.total,
        w.sum,
      )

  -- a file that was settled is one of the n
  pub numbered : (before es : List Event) → AnswersRight kind img n before es → (k : ℕ) → Member k (settles es) → Numbered n k
  numbered before [] right k i = absurd i
  numbered before (took r ∷ es) (e, more) k i = numbered (before ++ took r ∷ []) es more k i
  numbered before (settled j (Ok c) ∷ es) (e, more) k i = elim i [
    | inl same ↦ subst (Numbered n) (sym same) e.0
    | inr there ↦ numbered (before ++ settled j (Ok c) ∷ []) es more k there
  ]
  numbered before (settled j (Err f) ∷ es) (e, more) k i = numbered (before ++ settled j (Err f) ∷ []) es more k i
  numbered before (returned j r ∷ es) (e, more) k i = numbered (before ++ returned j r ∷ []) es more k i
  numbered before (told j r ∷ es) (e, more) k i = numbered (before ++ told j r ∷ []) es more k i
  numbered before (located j l w out r ∷ es) (e, more) k i = numbered (before ++ located j l w out r ∷ []) es more k i
  numbered before (rewritten j w out r ∷ es) (e, more) k i = numbered (before ++ rewritten j w out r ∷ []) es more k i
  numbered before (circled r ∷ es) (e, more) k i = numbered (before ++ circled r ∷ []) es more k i
  numbered before (lined j w out r ∷ es) (e, more) k i = numbered (before ++ lined j w out r ∷ []) es more k i
  numbered before (tailed w out r ∷ es) (e, more) k i = numbered (before ++ tailed w out r ∷ []) es more k i

-- ---- calls that write no path

abbrev pub NoPath : Call → Type 0
NoPath calls.Take = Unit {0}
NoPath (calls.Settle o) = Unit {0}
NoPath (calls.PutBack o) = Unit {0}
NoPath (calls.Verdict k) = Unit {0}
NoPath (calls.Path k j w) = ⊥
NoPath (calls.Rewrite k w) = Unit {0}
NoPath calls.Circle = Unit {0}
NoPath (calls.Line k w) = Unit {0}
NoPath (calls.Tail w) = Unit {0}

pub rounds_none : (m : ℕ) (cs : List Call) → AllByRecursion NoPath cs → AllByRecursion NoPath (rounds_then m cs)
rounds_none zero cs all = all
rounds_none (suc m) cs all = (tt, (tt, rounds_none m cs all))

pub verdicts_none : (k m : ℕ) → AllByRecursion NoPath (verdicts_from k m)
verdicts_none k zero = tt
verdicts_none k (suc m) = (tt, verdicts_none (suc k) m)

nothing : (m k c r : ℕ) → m ≡ 0 → k ≡ c → r ≡ m + k → r ≡ c
nothing m k c r none is sum = omega arith

more : (m k c r x : ℕ) → m ≡ x → k ≡ c → r ≡ m + k → r ≡ x + c
more m k c r x some is sum = omega arith

module _ (kind : Kind) (img : Bytes) (n : ℕ) where
  one_adds : (last : ℕ) (c : Call) (a : Answer) (e : Event) (es : List Event) (m k r : ℕ) → NoPath c → Fits last c a e → Adds kind img n e m
      → k ≡ counted es → r ≡ m + k → r ≡ counted (e ∷ es)
  one_adds last c a (took x) es m k r p f adds is sum = nothing m k (counted es) r adds is sum
  one_adds last c a (settled j (Ok x)) es m k r p f adds is sum = more m k (counted es) r x adds is sum
  one_adds last c a (settled j (Err x)) es m k r p f adds is sum = nothing m k (counted es) r adds is sum
  one_adds last c a (returned j x) es m k r p f adds is sum = nothing m k (counted es) r adds is sum
  one_adds last c a (told j x) es m k r p f adds is sum = nothing m k (counted es) r adds is sum
  one_adds last c a (located j l w out (Ok x)) es m k r p f adds is sum = absurd (subst NoPath f.0 p)
  one_adds last c a (located j l w out (Err x)) es m k r p f adds is sum = nothing m k (counted es) r adds is sum
  one_adds last c a (rewritten j w out x) es m k r p f adds is sum = nothing m k (counted es) r adds is sum
  one_adds last c a (circled x) es m k r p f adds is sum = nothing m k (counted es) r adds is sum
  one_adds last c a (lined j w out x) es m k r p f adds is sum = nothing m k (counted es) r adds is sum
  one_adds last c a (tailed w out x) es m k r p f adds is sum = nothing m k (counted es) r adds is sum

  pub rise_counted : {S : Type 0} (held : S → Held) (last : ℕ) (cs : List Call) (bs : List Answer) (es : List Event) (x z : Values held) (r : ℕ)
      → AllByRecursion NoPath cs → Plays held kind last cs bs es x z → Rise kind img n es r → r ≡ counted es
  rise_counted held last [] [] [] x z r none p rise = rise
  rise_counted held last [] [] (e ∷ es) x z r none p rise = absurd p
  rise_counted held last [] (b ∷ bs) es x z r none p rise = absurd p
  rise_counted held last (c ∷ cs) [] es x z r none p rise = absurd p
  rise_counted held last (c ∷ cs) (b ∷ bs) [] x z r none p rise = absurd p
  rise_counted held last (c ∷ cs) (b ∷ bs) (e ∷ es) x z r (first, none) (y, t, p) (m, k, adds, rise, sum) =
      one_adds last c b e es m k r first t.fits adds (rise_counted held (last_taken last e) cs bs es y z k none p rise) sum
