-- Right paths are decided, and it does not matter by which hashes that agree they are told.
use Rattle.std.proofs.Common.{◌≡◌, List, [], ◌∷◌, sym, refl, subst, inl, inr}
use Rattle.aterm.specs.Files.{output, derivation}
use Rattle.aterm.specs.Grammar.{Tree, meaning}
use Rattle.canonical.specs.Kinds.{Value}
use Rattle.canonical.specs.Meanings.{an_output, Meaning}
use Rattle.canonical.specs.Order.{Member}
use Rattle.store_path.proofs.Deciding.{Known, both, like, same_text}
use Rattle.hash_modulo.specs.Hashes.{Digest}
use Rattle.hash_modulo.specs.Paths.{OwnPath, OutputPath}
use Rattle.hash_modulo.specs.Sets.{Bytes, Files, Row, Names}
use Rattle.hash_modulo.specs.Strings.{InputsHashed}
use Rattle.hash_modulo.proofs.Hashes.{one_hash_each}
use Rattle.hash_modulo.proofs.Paths.{own_paths, output_paths}
use Rattle.verdict.specs.Judged.{Behind, output_of, in_environment}

-- a path that is there and one only
told : (P : Bytes → Type 0) → (q : Bytes) × P q → ((p q : Bytes) → P p → P q → p ≡ q) → (p : Bytes) → Known (P p)
told P z one p = like (λ e. subst P (sym e) z.1) (λ a. one p z.0 a z.1) (same_text p z.0)

pub own? : (d : Digest) (path : Bytes) (m : Meaning) (q : Bytes) → Known (OwnPath d path m q)
own? d path m q = told (OwnPath d path m) (own_paths.some d path m) (own_paths.one d path m) q

pub agreed : (set : Files) (d : Digest) (m : Meaning) (f g : Bytes → Bytes) → InputsHashed set d m f → InputsHashed set d m g → (r : Row) → Names m r → f r.0 ≡ g r.0
agreed set d m f g a b r i = one_hash_each set d r.0 (f r.0) (g r.0) (a r i) (b r i)

-- some row of a list
some? : {A : Type 0} (P : A → Type 0) → ((a : A) → Known (P a)) → (xs : List A) → Known ((a : A) × Member a xs × P a)
some? P k [] = inr (λ z. z.1)
some? P k (x ∷ xs) = elim (k x) [
  | inl p ↦ inl (x, inl refl, p)
  | inr n ↦ elim (some? P k xs) [
    | inl z ↦ inl (z.0, inr z.1, z.2)
    | inr no_more ↦ inr (λ z. elim z.1 [ inl e ↦ n (subst P e z.2) | inr i ↦ no_more (z.0, i, z.2) ])
  ]
]

module _ (d : Digest) (p : Bytes) (m : Meaning) where
  pub output? : (g : Bytes → Bytes) (o : Value an_output) (q : Bytes) → Known (OutputPath d p g m o q)
  output? g o q = told (OutputPath d p g m o) (output_paths.some d p g m o) (λ a b. output_paths.one d p g g m o a b (λ r i. refl)) q

  pub environment? : (g : Bytes → Bytes) (x : Tree derivation) (e : Behind (Tree output)) → Known (in_environment d p g m x e)
  environment? g x e =
      like (λ z. (z.0, z.1, z.2.0, z.2.1)) (λ z. (z.0, z.1, (z.2, z.3)))
      (some? (λ v. (meaning v.0 ≡ meaning e.1.0) × OutputPath d p g m (output_of e.1) (meaning v.1))
      (λ v. both (same_text (meaning v.0) (meaning e.1.0)) (output? g (output_of e.1) (meaning v.1)))
      x.1.1.1.1.1.1)

  -- by hashes that agree
  module _ (f g : Bytes → Bytes) (agree : (r : Row) → Names m r → f r.0 ≡ g r.0) where
    pub output_moved : (o : Value an_output) (q : Bytes) → OutputPath d p f m o q → OutputPath d p g m o q
    output_moved o q a = let z = output_paths.some d p g m o in subst (OutputPath d p g m o) (sym (output_paths.one d p f g m o q z.0 agree a z.1)) z.1

    pub environment_moved : (x : Tree derivation) (e : Behind (Tree output)) → in_environment d p f m x e → in_environment d p g m x e
    environment_moved x e (v, i, n, a) = (v, i, n, output_moved (output_of e.1) (meaning v.1) a)
