use Rattle.std.proofs.Common.{◌≡◌, ℕ, ◌/◌, List, [], ◌∷◌, length, sym, refl, ap, ◌∙◌, arith, rules}
use Rattle.std.specs.List.{fold, zip}
use Rattle.std.specs.Simd.{first_chunks}
use Rattle.std.proofs.lemmas.Fn.{fold_over, fronts}
use Rattle.std.proofs.lemmas.Iterator.{YieldsList-from_slice, YieldsList-from_zip, zips}
use Rattle.std.proofs.lemmas.List.Sums.{fold-append}
use Rattle.sha256.specs.Fips.{rounded}
use Rattle.sha256.proofs.Rounds.{chunks_rounds, rounds_all}
use Rattle.sha256.proofs.block.rounds.Goals as goal

pub returns : goal.returns
returns c =
    let ws = c.args.w.now in
    let start = c.args.start in
    let words = c.as_chunks.result.0.now in
    let constants = c.as_chunks-2.result.0.now in
    let ks = c.constants.result.now in
    let many : length ks ≡ 64 = search rules in
    let eighths : length ws / 8 ≡ 8 = omega (arith, c.told-w) in
    let eighths' : length ks / 8 ≡ 8 = omega arith in
    let front : words ≡ first_chunks 8 8 ws = c.as_chunks.ensures.front ∙ ap (λ n. first_chunks 8 n ws) eighths in
    let front' : constants ≡ first_chunks 8 8 ks = c.as_chunks-2.ensures.front ∙ ap (λ n. first_chunks 8 n ks) eighths' in
    let all : c.zip.result.b.rest.now ≡ constants = search rules in
    let pairs = YieldsList-from_zip {s = c.zip.result} (YieldsList-from_slice words cc) (YieldsList-from_slice constants all) in
    fold_over (zips fronts fronts) (λ p. (p.0.now, p.1.now)) _ (λ (ys : List (List ℕ × List ℕ)) (r : List ℕ). r ≡ fold (λ t p. rounded t (zip p.0 p.1)) start ys) _
    (λ ys a x b f' e k.
    let called : (b ≡ rounded a (zip x.0.now x.1.now)) × (f' ≡ _) = search rules in
    (called.0 ∙ ap (λ (t : List ℕ). rounded t (zip x.0.now x.1.now)) e ∙ sym (fold-append (λ (t : List ℕ) (p : List ℕ × List ℕ). rounded t (zip p.0 p.1)) start ys ((x.0.now, x.1.now) ∷ [])), called.1))
    c.zip.result (zip words constants) start c.fold.result pairs.runs refl c.fold.ensures.ran
    ∙ (λ i. fold (λ t p. rounded t (zip p.0 p.1)) start (zip (front i) (front' i)))
    ∙ chunks_rounds 8 start ws ks c.told-w many
    ∙ ap (λ l. rounded start (zip ws l)) c.constants.ensures
    ∙ rounds_all ws start c.told-w
