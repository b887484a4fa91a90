-- What a hasher means as a sink after begin, after a string that it took, and after one that it refused.
use Rattle.std.proofs.Common.{◌≡◌, ℕ, ◌+◌, ◌-◌, ◌%◌, ◌^◌, ◌<◌, ◌≤◌, List, [], length, Ok, Err, Result, sym, refl, ◌∙◌, arith, MatchResult}
use Rattle.std.proofs.lemmas.List.{drop_all}
use Rattle.sink.specs.Digest.{Begins, Digests}
use Rattle.sink.specs.Write.{Meaning, steps, filled, Taken, Stopped}
use Rattle.sink.proofs.Writing.{meant, parts, kept}
use Rattle.sha256.specs.Fips.{digest}
use Rattle.sha256.specs.Taking.{step}
use Rattle.sha256.specs.Hashing.{start, answer, held}
use Rattle.sha256.proofs.Steps.{standard}

pub begun_is : (x y : List ℕ) (n t : ℕ) → y ≡ start → Begins start 16777216 (held x n t).meaning (held y 0 t).meaning
begun_is x y n t e = record { is = meant _ _ _ _ _ _ e refl refl; large = omega arith }

pub held_taken : (x y : List ℕ) (n m t u : ℕ) (bs : List ℕ) → n + length bs ≤ 16777216 → y ≡ steps step x bs → m ≡ n + length bs → u % 2 ^ 64 ≡ (t + length bs) % 2 ^ 64 → Taken step (held x n t) bs (held y m u)
unfolding filled
held_taken x y n m t u bs fits stepped more total =
    (omega arith, parts _ _ _ _ _ _ _ _ _ _ stepped (omega arith) (omega arith) (sym (drop_all (length bs) [] (omega arith))) refl)

pub held_kept : (x : List ℕ) (n t : ℕ) (bs : List ℕ) → 16777216 - n < length bs → Stopped step (held x n t) bs (held x n t)
held_kept x n t bs past = kept step (held x n t) (held x n t) bs (omega arith) past refl

-- for a caller of digest_of: what it answers is the digest of the standard
pub digested_standard : {E : Type 0} (m n : Meaning) (bs : List ℕ) (r : Result (List ℕ) E) → Digests step start 16777216 answer m bs r n → MatchResult r (λ d. d ≡ digest bs) (λ _. 16777216 < length bs)
digested_standard m n bs (Ok d) (fits, is, after) = is ∙ standard bs
digested_standard m n bs (Err e) (over, after) = over
