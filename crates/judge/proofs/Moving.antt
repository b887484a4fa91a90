-- A question with the same answers at each row has the same first no.
use Rattle.std.proofs.Common.{◌≡◌, List, [], ◌∷◌, None, sym, refl, subst, inl, inr}
use Rattle.canonical.specs.Order.{Member}
use Rattle.derivation.specs.Asked.{FirstNo, First}
use Rattle.derivation.specs.declared.spot.Spot.{Spot}
use Rattle.hash_modulo.proofs.Paths.{member_left}
use Rattle.verdict.proofs.Rows.{no_stands}

module _ {E : Type 0} (P Q : E → Type 0) where
  pub yes_moved : (rows : List (Spot × E)) → ((w : Spot) (e : E) → Member (w, e) rows → P e → Q e) → First P rows None → First Q rows None
  yes_moved [] there a = tt
  yes_moved (r ∷ rows) there a = (there r.0 r.1 (inl refl) a.0, yes_moved rows (λ w e i. there w e (inr i)) a.1)

  pub no_moved : (rows : List (Spot × E)) → ((w : Spot) (e : E) → Member (w, e) rows → P e → Q e) → ((w : Spot) (e : E) → Member (w, e) rows → Q e → P e)
      → (w : Spot) (f : FirstNo P rows w) → (h : FirstNo Q rows w) × (h.row ≡ f.row)
  no_moved rows there back w f = (
    record {
      before = f.before;
      row = f.row;
      after = f.after;
      whole = f.whole;
      clean = yes_moved f.before (λ v e i. there v e (subst (Member {X = Spot × E} (v, e)) (sym f.whole) (member_left (v, e) f.before ((w, f.row) ∷ f.after) i))) f.clean;
      refused = λ y. f.refused (back w f.row (no_stands P rows w f) y);
    },
    refl,
  )
