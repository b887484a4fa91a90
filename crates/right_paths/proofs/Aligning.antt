-- Rows beside the hashes of their files: as many, and of 32 bytes each; so the texts with hashes are short.
use Rattle.std.proofs.Common.{◌≡◌, ℕ, ◌<◌, List, [], ◌∷◌, length, ap, ◌∙◌, inl, inr, arith}
use Rattle.std.proofs.lemmas.List.{length-map}
use Rattle.canonical.specs.Meanings.{Meaning, canonical}
use Rattle.canonical.specs.Order.{Member}
use Rattle.hash_rows.specs.declared.hash.Hash.{Hash}
use Rattle.hash_modulo.specs.Hashes.{with_inputs}
use Rattle.hash_modulo.specs.Paths.{masked}
use Rattle.hash_modulo.specs.Sets.{Bytes, Row}
use Rattle.hash_modulo.proofs.Lengths.{hash_text_short, masked_text_short}
use Rattle.right_paths.specs.Inputs.{Aligned, RowsRight}
use Rattle.right_paths.specs.Worked.{Workable}

pub as_many : (g : Bytes → Bytes) (rows : List Row) (hashes : List Hash) → Aligned g rows hashes → length hashes ≡ length rows
as_many g rows hashes e =
    omega (arith, ap length e, length-map rows (λ (r : Row). g r.0), length-map hashes (λ (h : Hash). h.bytes))

wide : (g : Bytes → Bytes) (rows : List Row) (hashes : List Hash) → Aligned g rows hashes → (r : Row) → Member r rows → length (g r.0) ≡ 32
wide g [] hashes e r i = absurd i
wide g (x ∷ rows) [] e r i = let z : ◌≡◌ {A = ℕ} 0 1 = cc in absurd (omega arith)
wide g (x ∷ rows) (h ∷ hashes) e r (inl s) = let a : g x.0 ≡ h.bytes = cc in ap (λ (y : Row). length (g y.0)) s ∙ ap length a ∙ h.wide
wide g (x ∷ rows) (h ∷ hashes) e r (inr i) = wide g rows hashes (cc) r i

module _ {path : Bytes} {m : Meaning} {hashes : List Hash} {rows : List Row} (w : Workable path m hashes) where
  pub hash_short : RowsRight w.given m.1.0 rows → length (canonical (with_inputs m rows)) < 1048576
  hash_short r = hash_text_short w.given w.limits r.rises r.gathered (wide w.given m.1.0 hashes w.aligned)

  pub masked_short : RowsRight w.given m.1.0 rows → length (canonical (with_inputs (masked m) rows)) < 1048576
  masked_short r = masked_text_short w.given w.limits r.rises r.gathered (wide w.given m.1.0 hashes w.aligned)
