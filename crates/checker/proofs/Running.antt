-- What a list of calls does: the files stay and the view sound, no file is settled twice, and the counts add up.
use Rattle.std.proofs.Common.{◌≡◌, ℕ, ◌+◌, true, ◌⊎◌, List, [], ◌∷◌, Ok, Err, Option, Result, sym, refl, ap, ◌∙◌, subst, inl, inr}
use Rattle.std.proofs.lemmas.Bool.{cases_eq}
use Rattle.canonical.specs.Order.{Member}
use Rattle.hash_modulo.specs.Sets.{Bytes, Files}
use Rattle.image.specs.Layout.{file_path}
use Rattle.links.specs.Sets.{set_of}
use Rattle.sink.specs.Write as sinks
use Rattle.checker.specs.Calls.{Kind, Takes, Outcome, with_hash, without, Decides, Settles, PutsBack}
use Rattle.checker.specs.Events.{Event, took, settled, returned, told, located, rewritten, circled, lined, tailed, Stage, Happens, Leads}
use Rattle.checker.specs.Soundness.{SoundView}
use Rattle.checker.specs.Theorem.{CountRight, hashed, unhashed, settles, counted, Total, Distinct}
use Rattle.checker.specs.Views.{View, files, path_at, Changes}
use Rattle.checker.specs.declared.refused.CallRefusal.{CallRefusal}
use Rattle.checker.specs.declared.state.Hashes.{Hashes}
use Rattle.checker.specs.declared.state.Settlement.{Settlement}
use Rattle.checker.specs.declared.state.State.{State}
use Rattle.checker.specs.declared.state.State.TheVariants.{Pending, Taken, Settled}
use Rattle.checker.proofs.Keeping.{is_pending, not_settled, taken_settled, take_keeps, settle_keeps, back_keeps}

-- ---- counts

module _ (kind : Kind) (set : Files) (p : Bytes) where
  count_right : (before after : sinks.Meaning) (n : ℕ) (o : Option Hashes) → Outcome kind set p before n after o → CountRight kind set p n
  count_right before after n o (with_hash h ss e x m g c l) = hashed ss g c
  count_right before after n o (without e none c l) = unhashed none c

-- ---- what one call does

-- nothing is settled by the call
abbrev Silent : Event → Type 0
Silent e = (es : List Event) → (settles (e ∷ es) ≡ settles es) × (counted (e ∷ es) ≡ counted es)

-- what is settled in one view is settled so in another
abbrev Keeps : View → View → Type 0
Keeps v w = (k : ℕ) (s : Settlement) → v.row k ≡ Settled s → w.row k ≡ Settled s

abbrev pub SettledAt : View → ℕ → Type 0
SettledAt v k = (s : Settlement) × (v.row k ≡ Settled s)

-- the file that changed was not settled
moved_keeps : (v w : View) (k : ℕ) (x : State) → Changes v k x w → ((s : Settlement) → v.row k ≡ Settled s → ⊥) → Keeps v w
moved_keeps v w k x c not j s e = elim (cases_eq j k) [
  | inl same ↦ absurd (not s (ap v.row (sym same) ∙ e))
  | inr n ↦ c.others j n ∙ e
]

-- the file that changed is not settled now
moved_back : (v w : View) (k : ℕ) (x : State) → Changes v k x w → ((s : Settlement) → x ≡ Settled s → ⊥) → Keeps w v
moved_back v w k x c not j s e = elim (cases_eq j k) [
  | inl same ↦ absurd (not s (sym c.here ∙ ap w.row (sym same) ∙ e))
  | inr n ↦ sym (c.others j n) ∙ e
]

module _ (kind : Kind) (img : Bytes) (n : ℕ) where
  -- an opened view of the files of the image
  pub record Of (v : View) : Type 0 where
    pub opened : v.opened ≡ true
    pub image : v.image ≡ img
    pub count : v.count ≡ n

  -- what is said of such a view's own files is said of those of the image
  pub over : (P : Bytes → ℕ → Type 0) (v : View) → Of v → P v.image v.count → P img n
  over P v a x = subst (λ (i : Bytes). P i n) a.image (subst (λ (m : ℕ). P v.image m) a.count x)

  -- a call settles nothing, or one file that was taken
  pub data Way (v : View) (e : Event) (w : View) : Type 0 where
    quiet : Silent e → Keeps v w → Keeps w v → Way v e w
    gained : (k c : ℕ) → ((es : List Event) → settles (e ∷ es) ≡ k ∷ settles es) → ((es : List Event) → counted (e ∷ es) ≡ c + counted es)
        → CountRight kind (set_of img n) (file_path img k) c → v.row k ≡ Taken → (s : Settlement) → Changes v k (Settled s) w → Way v e w

  -- a call leaves the view opened, with the same files and sound
  pub record Step (v : View) (e : Event) (w : View) : Type 0 where
    pub is : Of w
    pub sound : SoundView kind w
    pub way : Way v e w

  changed : (v w : View) (k : ℕ) (x : State) → Changes v k x w → Of v → Of w
  changed v w k x c a = record { opened = c.opened ∙ a.opened; image = c.image ∙ a.image; count = c.count ∙ a.count }

  -- the call leaves the view as it is
  stays : (e : Event) (v w : View) → Silent e → w ≡ v → Of v → SoundView kind v → Step v e w
  stays e v w q same a sound = subst (λ (w : View). Step v e w) (sym same) (record { is = a; sound = sound; way = quiet q (λ k s f. f) (λ k s f. f) })

  take_step : (v w : View) (r : Result ℕ CallRefusal) → Takes v r w → Of v → SoundView kind v → Step v (took r) w
  take_step v w (Ok k) t a sound = record {
    is = changed v w k Taken t.3 a;
    sound = take_keeps kind v w (Ok k) t sound;
    way = quiet (λ es. (refl, refl))
        (moved_keeps v w k Taken t.3 (λ s. not_settled (v.row k) s (is_pending v k t.2).is))
        (moved_back v w k Taken t.3 (λ s. taken_settled Taken s refl));
  }
  take_step v w (Err e) (q, same) a sound = stays (took (Err e)) v w (λ es. (refl, refl)) same a sound

  -- the count of a settle is right for its file
  pub settle_count : (v : View) (k : ℕ) (before after : sinks.Meaning) (c : ℕ) (s : Settlement) → Decides kind (files v) (path_at v k) s before c after → Of v
      → CountRight kind (set_of img n) (file_path img k) c
  settle_count v k before after c s d a =
      over (λ i m. CountRight kind (set_of i m) (file_path i k) c) v a (count_right kind (files v) (path_at v k) before after c s.hashes d.outcome)

  settle_step : (v w : View) (k : ℕ) (before after : sinks.Meaning) (r : Result ℕ CallRefusal) → Settles kind v k before r w after
      → Of v → SoundView kind v → Step v (settled k r) w
  settle_step v w k before after (Ok c) (s, o, taken, ch, d) a sound = record {
    is = changed v w k (Settled s) ch a;
    sound = settle_keeps kind v w k before after (Ok c) (s, o, taken, ch, d) sound;
    way = gained k c (λ es. refl) (λ es. refl) (settle_count v k before after c s d a) taken.is s ch;
  }
  settle_step v w k before after (Err e) (q, same, kept) a sound = stays (settled k (Err e)) v w (λ es. (refl, refl)) same a sound

  back_step : (v w : View) (k : ℕ) (r : Result (Unit {0}) CallRefusal) → PutsBack v k r w → Of v → SoundView kind v → Step v (returned k r) w
  back_step v w k (Ok x) (o, taken, c) a sound = record {
    is = changed v w k Pending c a;
    sound = back_keeps kind v w k (Ok x) (o, taken, c) sound;
    way = quiet (λ es. (refl, refl))
        (moved_keeps v w k Pending c (λ s. taken_settled (v.row k) s taken.is))
        (moved_back v w k Pending c (λ s. not_settled Pending s refl));
  }
  back_step v w k (Err e) (q, same) a sound = stays (returned k (Err e)) v w (λ es. (refl, refl)) same a sound

  pub step : (e : Event) (s t : Stage) → Happens kind s e t → Of s.view → SoundView kind s.view → Step s.view e t.view
  step (took r) s t (h, m) a sound = take_step s.view t.view r h a sound
  step (settled k r) s t (h, b) a sound = settle_step s.view t.view k s.sink t.sink r h a sound
  step (returned k r) s t (h, m) a sound = back_step s.view t.view k r h a sound
  step (told k r) s t (h, same) a sound = stays (told k r) s.view t.view (λ es. (refl, refl)) (ap (λ (x : Stage). x.view) same) a sound
  step (located k j w out r) s t (h, same, b) a sound = stays (located k j w out r) s.view t.view (λ es. (refl, refl)) same a sound
  step (rewritten k w out r) s t (h, x) a sound = stays (rewritten k w out r) s.view t.view (λ es. (refl, refl)) x.view a sound
  step (circled r) s t (h, same) a sound = stays (circled r) s.view t.view (λ es. (refl, refl)) (ap (λ (x : Stage). x.view) same) a sound
  step (lined k w out r) s t (h, x) a sound = stays (lined k w out r) s.view t.view (λ es. (refl, refl)) x.view a sound
  step (tailed w out r) s t (h, x) a sound = stays (tailed w out r) s.view t.view (λ es. (refl, refl)) x.view a sound

  -- ---- what a list of calls does

  -- from one view to another the files ks are settled, and the counts of those settles are c in all
  pub record Gains (v : View) (ks : List ℕ) (c : ℕ) (w : View) : Type 0 where
    pub kept : Keeps v w
    pub new : (k : ℕ) → Member k ks → SettledAt w k × (SettledAt v k → ⊥)
    pub all : (k : ℕ) → SettledAt w k → SettledAt v k ⊎ Member k ks
    pub once : Distinct ks
    pub total : Total kind img n ks c

  no_gain : (v : View) → Gains v [] 0 v
  no_gain v = record { kept = λ k s e. e; new = λ k i. absurd i; all = λ k z. inl z; once = tt; total = refl }

  quiet_gains : (v u w : View) (ks : List ℕ) (c : ℕ) → Keeps v u → Keeps u v → Gains u ks c w → Gains v ks c w
  quiet_gains v u w ks c there back g = record {
    kept = λ k s e. g.kept k s (there k s e);
    new = λ k i. ((g.new k i).0, λ z. (g.new k i).1 (z.0, there k z.0 z.1));
    all = λ k z. elim (g.all k z) [ inl y ↦ inl (y.0, back k y.0 y.1) | inr i ↦ inr i ];
    once = g.once;
    total = g.total;
  }

  settle_gains : (v u w : View) (k m : ℕ) (s : Settlement) (ks : List ℕ) (c : ℕ) → CountRight kind (set_of img n) (file_path img k) m
      → v.row k ≡ Taken → Changes v k (Settled s) u → Gains u ks c w → Gains v (k ∷ ks) (m + c) w
  settle_gains v u w k m s ks c right taken ch g = record {
    kept = λ j x e. g.kept j x (there j x e);
    new = λ j i. elim i [
      | inl same ↦ ((s, g.kept j s (ap u.row same ∙ ch.here)), λ z. taken_settled (v.row j) z.0 (ap v.row same ∙ taken) z.1)
      | inr i ↦ ((g.new j i).0, λ z. (g.new j i).1 (z.0, there j z.0 z.1))
    ];
    all = λ j z. elim (g.all j z) [ inl y ↦ was j y (cases_eq j k) | inr i ↦ inr (inr i) ];
    once = (λ i. (g.new k i).1 (s, ch.here), g.once);
    total = (m, c, right, g.total, refl);
  }
    where
      there : Keeps v u
      there = moved_keeps v u k (Settled s) ch (λ x. taken_settled (v.row k) x taken)

      was : (j : ℕ) → SettledAt u j → (j ≡ k) ⊎ (j ≡ k → ⊥) → SettledAt v j ⊎ Member j (k ∷ ks)
      was j y (inl same) = inr (inl same)
      was j y (inr n) = inl (y.0, sym (ch.others j n) ∙ y.1)

  -- the same of a list of calls
  pub record Ran (v : View) (es : List Event) (w : View) : Type 0 where
    pub is : Of w
    pub sound : SoundView kind w
    pub gains : Gains v (settles es) (counted es) w

  way_gains : (v u w : View) (e : Event) (es : List Event) → Way v e u → Gains u (settles es) (counted es) w → Gains v (settles (e ∷ es)) (counted (e ∷ es)) w
  way_gains v u w e es (quiet q there back) g =
      subst (λ (ks : List ℕ). Gains v ks (counted (e ∷ es)) w) (sym (q es).0)
      (subst (λ (c : ℕ). Gains v (settles es) c w) (sym (q es).1) (quiet_gains v u w (settles es) (counted es) there back g))
  way_gains v u w e es (gained k m f q right taken s ch) g =
      subst (λ (ks : List ℕ). Gains v ks (counted (e ∷ es)) w) (sym (f es))
      (subst (λ (c : ℕ). Gains v (k ∷ settles es) c w) (sym (q es)) (settle_gains v u w k m s (settles es) (counted es) right taken ch g))

  -- a call from the view v on
  step_from : (e : Event) (v : View) (s t : Stage) → s.view ≡ v → Happens kind s e t → Of v → SoundView kind v → Step v e t.view
  step_from e v s t from h a sound = subst (λ (x : View). Step x e t.view) from (step e s t h (subst Of (sym from) a) (subst (SoundView kind) (sym from) sound))

  pub ran : (es : List Event) (v w : View) → Leads kind v es w → Of v → SoundView kind v → Ran v es w
  ran [] v w same a sound = subst (Ran v []) (sym same) (record { is = a; sound = sound; gains = no_gain v })
  ran (e ∷ es) v w (s, from, t, h, more) a sound =
      let one = step_from e v s t from h a sound in
      let rest = ran es t.view w more one.is one.sound in
      record { is = rest.is; sound = rest.sound; gains = way_gains v t.view w e es one.way rest.gains }
