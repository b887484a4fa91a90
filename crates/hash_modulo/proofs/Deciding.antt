-- Of every meaning it is decided whether its file is fixed.
use Rattle.std.proofs.Common.{◌≡◌, ℕ, ◌⊎◌, List, [], ◌∷◌, ◌++◌, length, codes, refl, subst, inl, inr}
use Rattle.std.proofs.lemmas.Bool.{cases_eq}
use Rattle.canonical.specs.Kinds.{Value}
use Rattle.canonical.specs.Meanings.{an_output, Meaning}
use Rattle.derivation.specs.Questions.{Kind, md5, sha1, sha256, sha512, spelt, digits, hex, GivenAs, Given}
use Rattle.store_path.proofs.Deciding.{Known, both, either, like, same_text, has, all}
use Rattle.hash_modulo.specs.Hashes.{Fixed}

given_as? : (k : Kind) (a h : List ℕ) → Known (GivenAs k a h)
given_as? k a h =
    like (λ p. record { named = p.0; long = p.1.0; each = p.1.1 }) (λ g. (g.named, (g.long, g.each)))
    (both (either (same_text a (spelt k)) (same_text a (codes "r:" ++ spelt k))) (both (cases_eq (length h) (digits k)) (all (has hex) h)))

given? : (a h : List ℕ) → Known (Given a h)
given? a h =
    like there back (either (given_as? md5 a h) (either (given_as? sha1 a h) (either (given_as? sha256 a h) (given_as? sha512 a h))))
  where
    there : GivenAs md5 a h ⊎ (GivenAs sha1 a h ⊎ (GivenAs sha256 a h ⊎ GivenAs sha512 a h)) → Given a h
    there (inl g) = (md5, g)
    there (inr (inl g)) = (sha1, g)
    there (inr (inr (inl g))) = (sha256, g)
    there (inr (inr (inr g))) = (sha512, g)

    back : Given a h → GivenAs md5 a h ⊎ (GivenAs sha1 a h ⊎ (GivenAs sha256 a h ⊎ GivenAs sha512 a h))
    back (md5, g) = inl g
    back (sha1, g) = inr (inl g)
    back (sha256, g) = inr (inr (inl g))
    back (sha512, g) = inr (inr (inr g))

record FixedRows (os : List (Value an_output)) : Type 0 where
  only : Value an_output
  whole : os ≡ only ∷ []
  named : only.0 ≡ codes "out"
  given : Given only.1.1.0 only.1.1.1

rows? : (os : List (Value an_output)) → Known (FixedRows os)
rows? [] = inr (λ f. let e = none f.only f.whole in cc)
  where
    none : (o : Value an_output) → [] ≡ o ∷ [] → ◌≡◌ {A = ℕ} 0 1
    none o e = cc
rows? (o ∷ []) =
    like (λ p. record { only = o; whole = refl; named = p.0; given = p.1 }) (λ f. back f)
    (both (same_text o.0 (codes "out")) (given? o.1.1.0 o.1.1.1))
  where
    back : FixedRows (o ∷ []) → (o.0 ≡ codes "out") × Given o.1.1.0 o.1.1.1
    back f =
        let e : f.only ≡ o = one f.only f.whole in
        subst (λ (x : Value an_output). (x.0 ≡ codes "out") × Given x.1.1.0 x.1.1.1) e (f.named, f.given)
      where
        one : (x : Value an_output) → o ∷ [] ≡ x ∷ [] → x ≡ o
        one x q = cc
rows? (o ∷ p ∷ os) = inr (λ f. let e = two f.only f.whole in cc)
  where
    two : (x : Value an_output) → o ∷ p ∷ os ≡ x ∷ [] → ◌≡◌ {A = ℕ} 0 1
    two x e = cc

pub fixed? : (m : Meaning) → Known (Fixed m)
fixed? m =
    like (λ f. record { only = f.only; whole = f.whole; named = f.named; given = f.given }) (λ f. record { only = f.only; whole = f.whole; named = f.named; given = f.given }) (rows? m.0)
