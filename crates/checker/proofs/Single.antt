-- Each call has one answer only, but for the row of 20 and the file of circle.
use Rattle.std.proofs.Common.{◌≡◌, ℕ, ◌<◌, ◌≤◌, List, length, Ok, Err, Option, Result, sym, refl, ap, ◌∙◌, subst, inl, inr, arith}
use Rattle.std.proofs.lemmas.Bool.{cases_order}
use Rattle.canonical.specs.Meanings.{Meaning, canonical}
use Rattle.hash_modulo.specs.Sets.{Bytes, Means, Readable, Rests}
use Rattle.hash_modulo.specs.Strings.{RightPath}
use Rattle.hash_modulo.proofs.Digests.{one_right_path}
use Rattle.hash_modulo.proofs.Hashes.{one_meaning}
use Rattle.sink.specs.Write as sinks
use Rattle.verdict.specs.Verdicts.{Verdict}
use Rattle.checker.specs.Calls.{Kind, D, Put, NoneTaken, SomePending, Chosen, first_ready, first_pending, TakeRefused, Takes, VisitRefused, Settles, PutsBack, FileRefused, Tells, file_line, Lines, summary, Tails, Rewritable, Rewrites, HasHash, HasOutput, PathFits, Paths, OnCycle, Circles}
use Rattle.checker.specs.Refusals.{Ask, Done}
use Rattle.checker.specs.Theorem.{SameView, OneCallAnswer}
use Rattle.checker.specs.Views.{View, Open, files, path_at, Exists, TakenAt, Changes}
use Rattle.checker.specs.declared.refused.CallRefusal.{CallRefusal}
use Rattle.checker.specs.declared.refused.CallRefusal.TheVariants.{NotOpened, VisitOut, NonePending, NotTaken, NoFile, NoHash, NoOutput, NotRead, Short}
use Rattle.checker.specs.declared.state.State.TheVariants.{Pending, Taken, Settled}
use Rattle.checker.proofs.Asking.{OneRefusal, NoRefusal, one_refusal, not_refused, all_asked, all_yes}
use Rattle.checker.proofs.Keeping.{is_pending}
use Rattle.checker.proofs.Same.{equal_views, changed_alike, put_once, held_once}
use Rattle.checker.proofs.Settling.{one_path_strings, one_decision}

-- ---- take

module _ (v : View) where
  not_before : (j k : ℕ) → Chosen v j → Chosen v k → j < k → ⊥
  not_before j k (first_ready p r n) (first_ready q s m) l = m j l p r
  not_before j k (first_ready p r n) (first_pending q m o) l = m j p r
  not_before j k (first_pending p n o) (first_ready q s m) l = n k q s
  not_before j k (first_pending p n o) (first_pending q m u) l = u j l p

  one_chosen : (j k : ℕ) → Chosen v j → Chosen v k → j ≡ k
  one_chosen j k a b = elim (cases_order j k) [
    | inl e ↦ e
    | inr o ↦ elim o [ inl l ↦ absurd (not_before j k a b l) | inr l ↦ absurd (not_before k j b a l) ]
  ]

  one_take_refusal : OneRefusal (TakeRefused v)
  one_take_refusal = one_refusal (Open v) NotOpened (one_refusal (NoneTaken v) VisitOut (one_refusal (SomePending v) NonePending all_asked))

  taking : Open v → NoneTaken v → (k : ℕ) → Chosen v k → NoRefusal (TakeRefused v)
  taking o n k c = not_refused (Open v) NotOpened o (not_refused (NoneTaken v) VisitOut n (not_refused (SomePending v) NonePending (k, is_pending v k c) all_yes))

  one_take : (r s : Result ℕ CallRefusal) (w x : View) → Takes v r w → Takes v s x → (r ≡ s) × SameView w x
  one_take (Ok j) (Ok k) w x (o, n, a, c) (p, m, b, d) =
      let e : j ≡ k = one_chosen j k a b in
      (ap Ok e, changed_alike v w x k Taken Taken tt (subst (λ (i : ℕ). Changes v i Taken w) e c) d)
  one_take (Ok j) (Err f) w x (o, n, a, c) (q, b) = absurd (taking o n j a f q)
  one_take (Err f) (Ok j) w x (q, b) (o, n, a, c) = absurd (taking o n j a f q)
  one_take (Err e) (Err f) w x (p, a) (q, b) = (ap Err (one_take_refusal e f p q), equal_views w x (a ∙ sym b))

-- ---- settle and put back

module _ (v : View) (k : ℕ) where
  one_visit_refusal : OneRefusal (VisitRefused v k)
  one_visit_refusal = one_refusal (Open v) NotOpened (one_refusal (TakenAt v k) NotTaken all_asked)

  visiting : Open v → TakenAt v k → NoRefusal (VisitRefused v k)
  visiting o t = not_refused (Open v) NotOpened o (not_refused (TakenAt v k) NotTaken t all_yes)

  one_settle : (kind : Kind) (before : sinks.Meaning) (r s : Result ℕ CallRefusal) (w x : View) (after behind : sinks.Meaning)
      → Settles kind v k before r w after → Settles kind v k before s x behind → (r ≡ s) × SameView w x × (after ≡ behind)
  one_settle kind before (Ok m) (Ok n) w x after behind (s, o, t, c, d) (s', o', t', c', d') =
      let z = one_decision kind (files v) (path_at v k) before m n after behind s s' d d' in
      (ap Ok z.1, changed_alike v w x k (Settled s) (Settled s') z.0 c c', z.2)
  one_settle kind before (Ok m) (Err f) w x after behind (s, o, t, c, d) (q, b, l) = absurd (visiting o t f q)
  one_settle kind before (Err f) (Ok m) w x after behind (q, b, l) (s, o, t, c, d) = absurd (visiting o t f q)
  one_settle kind before (Err e) (Err f) w x after behind (p, a, l) (q, b, l') = (ap Err (one_visit_refusal e f p q), equal_views w x (a ∙ sym b), l ∙ sym l')

  one_put_back : (r s : Result (Unit {0}) CallRefusal) (w x : View) → PutsBack v k r w → PutsBack v k s x → (r ≡ s) × SameView w x
  one_put_back (Ok y) (Ok z) w x (o, t, c) (p, u, d) = (refl, changed_alike v w x k Pending Pending tt c d)
  one_put_back (Ok y) (Err f) w x (o, t, c) (q, b) = absurd (visiting o t f q)
  one_put_back (Err f) (Ok y) w x (q, b) (o, t, c) = absurd (visiting o t f q)
  one_put_back (Err e) (Err f) w x (p, a) (q, b) = (ap Err (one_visit_refusal e f p q), equal_views w x (a ∙ sym b))

-- ---- verdict

module _ (v : View) (k : ℕ) where
  one_file_refusal : OneRefusal (FileRefused v k)
  one_file_refusal = one_refusal (Open v) NotOpened (one_refusal (Exists v k) NoFile all_asked)

  telling : Open v → Exists v k → NoRefusal (FileRefused v k)
  telling o x = not_refused (Open v) NotOpened o (not_refused (Exists v k) NoFile x all_yes)

  one_tale : (r s : Result (Option Verdict) CallRefusal) → Tells v k r → Tells v k s → r ≡ s
  one_tale (Ok a) (Ok b) (o, x, e) (p, y, f) = ap Ok (e ∙ sym f)
  one_tale (Ok a) (Err f) (o, x, e) q = absurd (telling o x f q)
  one_tale (Err f) (Ok a) q (o, x, e) = absurd (telling o x f q)
  one_tale (Err e) (Err f) p q = ap Err (one_file_refusal e f p q)

-- ---- line and tail

module _ (v : View) (out : List ℕ) where
  abbrev Room : List ℕ → Type 0
  Room text = length text ≤ length out

  abbrev LineRefused : ℕ → CallRefusal → Type 0
  LineRefused k = Ask (Open v) NotOpened (Ask (Exists v k) NoFile (Ask (Room (file_line v k)) Short Done))

  one_line_refusal : (k : ℕ) → OneRefusal (LineRefused k)
  one_line_refusal k = one_refusal (Open v) NotOpened (one_refusal (Exists v k) NoFile (one_refusal (Room (file_line v k)) Short all_asked))

  lining : (k : ℕ) → Open v → Exists v k → Room (file_line v k) → NoRefusal (LineRefused k)
  lining k o x l = not_refused (Open v) NotOpened o (not_refused (Exists v k) NoFile x (not_refused (Room (file_line v k)) Short l all_yes))

  one_line : (k : ℕ) (r s : Result ℕ CallRefusal) (after behind : List ℕ) → Lines v k out r after → Lines v k out s behind → (r ≡ s) × (after ≡ behind)
  one_line k (Ok m) (Ok n) after behind (o, x, p) (u, y, q) = let z = put_once (file_line v k) out after behind m n p q in (ap Ok z.0, z.1)
  one_line k (Ok m) (Err f) after behind (o, x, p) (q, b) = absurd (lining k o x p.fits f q)
  one_line k (Err f) (Ok m) after behind (q, b) (o, x, p) = absurd (lining k o x p.fits f q)
  one_line k (Err e) (Err f) after behind (p, a) (q, b) = (ap Err (one_line_refusal k e f p q), a ∙ sym b)

  abbrev TailRefused : CallRefusal → Type 0
  TailRefused = Ask (Open v) NotOpened (Ask (Room (summary v)) Short Done)

  one_tail_refusal : OneRefusal TailRefused
  one_tail_refusal = one_refusal (Open v) NotOpened (one_refusal (Room (summary v)) Short all_asked)

  tailing : Open v → Room (summary v) → NoRefusal TailRefused
  tailing o l = not_refused (Open v) NotOpened o (not_refused (Room (summary v)) Short l all_yes)

  one_tail : (r s : Result ℕ CallRefusal) (after behind : List ℕ) → Tails v out r after → Tails v out s behind → (r ≡ s) × (after ≡ behind)
  one_tail (Ok m) (Ok n) after behind (o, p) (u, q) = let z = put_once (summary v) out after behind m n p q in (ap Ok z.0, z.1)
  one_tail (Ok m) (Err f) after behind (o, p) (q, b) = absurd (tailing o p.fits f q)
  one_tail (Err f) (Ok m) after behind (q, b) (o, p) = absurd (tailing o p.fits f q)
  one_tail (Err e) (Err f) after behind (p, a) (q, b) = (ap Err (one_tail_refusal e f p q), a ∙ sym b)

-- ---- rewrite

module _ (v : View) (k : ℕ) (out : List ℕ) where
  abbrev Meant : Meaning → Type 0
  Meant m = Means (files v) (path_at v k) m

  abbrev RewriteRefused : CallRefusal → Type 0
  RewriteRefused =
      Ask (Open v) NotOpened (Ask (Exists v k) NoFile (Ask (Readable (files v) (path_at v k)) NotRead (Ask (Rewritable v k (length out)) Short Done)))

  one_rewrite_refusal : OneRefusal RewriteRefused
  one_rewrite_refusal =
      one_refusal (Open v) NotOpened
      (one_refusal (Exists v k) NoFile
      (one_refusal (Readable (files v) (path_at v k)) NotRead
      (one_refusal (Rewritable v k (length out)) Short all_asked)))

  rewriting : Open v → Exists v k → (m : Meaning) → Meant m → length (canonical m) ≤ length out → NoRefusal RewriteRefused
  rewriting o x m e l =
      not_refused (Open v) NotOpened o
      (not_refused (Exists v k) NoFile x
      (not_refused (Readable (files v) (path_at v k)) NotRead (m, e)
      (not_refused (Rewritable v k (length out)) Short
      (λ n f. subst (λ (y : Meaning). length (canonical y) ≤ length out) (one_meaning (files v) (path_at v k) m n e f) l)
      all_yes)))

  one_rewrite : (r s : Result ℕ CallRefusal) (after behind : List ℕ) → Rewrites v k out r after → Rewrites v k out s behind → (r ≡ s) × (after ≡ behind)
  one_rewrite (Ok i) (Ok j) after behind (m, o, x, e, p) (n, u, y, f, q) =
      let same : n ≡ m = one_meaning (files v) (path_at v k) n m f e in
      let z = put_once (canonical m) out after behind i j p (subst (λ (y : Meaning). Put (canonical y) out j behind) same q) in
      (ap Ok z.0, z.1)
  one_rewrite (Ok i) (Err f) after behind (m, o, x, e, p) (q, b) = absurd (rewriting o x m e p.fits f q)
  one_rewrite (Err f) (Ok i) after behind (q, b) (m, o, x, e, p) = absurd (rewriting o x m e p.fits f q)
  one_rewrite (Err e) (Err f) after behind (p, a) (q, b) = (ap Err (one_rewrite_refusal e f p q), a ∙ sym b)

-- ---- path

module _ (kind : Kind) (v : View) (k j : ℕ) (out : List ℕ) (before : sinks.Meaning) where
  abbrev PathRefused : CallRefusal → Type 0
  PathRefused =
      Ask (Open v) NotOpened
      (Ask (Exists v k) NoFile (Ask (HasHash v k) NoHash (Ask (HasOutput v k j) NoOutput (Ask (PathFits kind v k j (length out)) Short Done))))

  one_path_refusal : OneRefusal PathRefused
  one_path_refusal =
      one_refusal (Open v) NotOpened
      (one_refusal (Exists v k) NoFile
      (one_refusal (HasHash v k) NoHash
      (one_refusal (HasOutput v k j) NoOutput
      (one_refusal (PathFits kind v k j (length out)) Short all_asked))))

  locating : Open v → Exists v k → HasHash v k → HasOutput v k j → (right : Bytes) → RightPath (files v) (D kind) (path_at v k) j right
      → length right ≤ length out → NoRefusal PathRefused
  locating o x h y right w l =
      not_refused (Open v) NotOpened o
      (not_refused (Exists v k) NoFile x
      (not_refused (HasHash v k) NoHash h
      (not_refused (HasOutput v k j) NoOutput y
      (not_refused (PathFits kind v k j (length out)) Short
      (λ q u. subst (λ (b : Bytes). length b ≤ length out) (one_right_path (files v) (D kind) (path_at v k) j right q w u) l)
      all_yes))))

  one_path : (r s : Result ℕ CallRefusal) (after behind : List ℕ) (sink other : sinks.Meaning)
      → Paths kind v k j out before r after sink → Paths kind v k j out before s behind other → (r ≡ s) × (after ≡ behind) × (sink ≡ other)
  one_path (Ok m) (Ok n) after behind sink other (o, x, h, y, a) (p, z, g, w, b) =
      let same : b.right ≡ a.right = one_right_path (files v) (D kind) (path_at v k) j b.right a.right b.is a.is in
      let put = put_once a.right out after behind m n a.put (subst (λ (q : Bytes). Put q out n behind) same b.put) in
      let strings = one_path_strings (files v) (D kind) (path_at v k) j a.strings b.strings a.needed b.needed in
      (ap Ok put.0, put.1, held_once kind before a.strings b.strings sink other strings a.holds b.holds)
  one_path (Ok m) (Err f) after behind sink other (o, x, h, y, a) (q, b, l) = absurd (locating o x h y a.right a.is a.put.fits f q)
  one_path (Err f) (Ok m) after behind sink other (q, b, l) (o, x, h, y, a) = absurd (locating o x h y a.right a.is a.put.fits f q)
  one_path (Err e) (Err f) after behind sink other (p, a, l) (q, b, l') = (ap Err (one_path_refusal e f p q), a ∙ sym b, l ∙ sym l')

-- ---- circle

circle_given : (v : View) (e : CallRefusal) (c : ℕ) → Circles v (Err e) → Circles v (Ok c) → ⊥
circle_given v e c q (o, h) = not_refused (Open v) NotOpened o all_yes e q

no_cycle : (v : View) (c : ℕ) → OnCycle v c → c ≡ 0 → (p : Bytes) → Rests (files v) p p → ⊥
no_cycle v c (inl h) e = h.1
no_cycle v c (inr h) e = let x = h.0.0 in absurd (omega arith)

no_circle : (v : View) (b c : ℕ) → Circles v (Ok b) → Circles v (Ok c) → b ≡ 0 → c ≡ 0
no_circle v b c (o, g) (u, inl h) e = h.0
no_circle v b c (o, g) (u, inr h) e = absurd (no_cycle v b g e (path_at v c) h.1)

-- ---- every call

pub one_call_answer : OneCallAnswer
one_call_answer kind v = record {
  take = one_take v;
  settle = λ k before r s w x after behind. one_settle v k kind before r s w x after behind;
  put_back = one_put_back v;
  verdict = one_tale v;
  path = one_path kind v;
  rewrite = one_rewrite v;
  line = λ k out. one_line v out k;
  tail = one_tail v;
  circle = circle_given v;
  no_circle = no_circle v;
}
