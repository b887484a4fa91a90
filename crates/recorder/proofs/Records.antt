-- What a recorder keeps while the sink below takes the bytes.
use Rattle.std.proofs.Common.{◌≡◌, ℕ, List, [], ◌∷◌, ◌++◌, length, take, drop, set, sym, refl, ap, ◌∙◌, length-set}
use Rattle.std.proofs.lemmas.List.{take_at, drop_at, length-replicate}
use Rattle.sink.specs.Write.{Step, Meaning, Held, steps, filled, Taken}
use Rattle.sink.specs.Digest.{Begins}
use Rattle.recorder.specs.Record.{recording, recorded, recorded_start, recorded_answer, zeros, counted, counts, laid, SameDigest}
use Rattle.recorder.specs.declared.layer.Recorder.{Recorder}
use Rattle.recorder.specs.declared.table.Table.{Table}
use Rattle.sink.proofs.Writing.{parts, meant}

pub length_laid : (t : List ℕ) (c : ℕ) (bs : List ℕ) → length (laid t c bs) ≡ length t
length_laid t c [] = refl
length_laid t c (b ∷ bs) = length_laid (set t c b) (counted c) bs ∙ length-set t c b

pub steps_recording : (n : ℕ) (f : Step) (c : ℕ) (t s bs : List ℕ) → length t ≡ n → steps (recording n f) (c ∷ (t ++ s)) bs ≡ counts c bs ∷ (laid t c bs ++ steps f s bs)
steps_recording n f c t s [] long = refl
steps_recording n f c t s (b ∷ bs) long =
    let front : take n (t ++ s) ≡ t = take_at t s n long in
    let back : drop n (t ++ s) ≡ s = drop_at t s n long in
    ap (λ (v : List ℕ). steps (recording n f) (counted c ∷ (set v c b ++ f (drop n (t ++ s)) b)) bs) front
    ∙ ap (λ (v : List ℕ). steps (recording n f) (counted c ∷ (set t c b ++ f v b)) bs) back
    ∙ steps_recording n f (counted c) (set t c b) (f s b) bs (length-set t c b ∙ long)

-- what the sink below took, the recorder took
pub recorded_taken : (f : Step) (c c' : ℕ) (t t' bs : List ℕ) (h k : Held) → length t ≡ 4096 → c' ≡ counts c bs → t' ≡ laid t c bs
    → Taken f h bs k → Taken (recording 4096 f) (recorded c t h) bs (recorded c' t' k)
unfolding filled
recorded_taken f c c' t t' bs h k long count table (left, e) =
    let st : k.meaning.state ≡ steps f h.meaning.state bs = ap (λ (x : Held). x.meaning.state) e in (
      left,
      parts _ _ _ _ _ _ _ _ _ _
          (ap (λ (v : ℕ). v ∷ (t' ++ k.meaning.state)) count
          ∙ ap (λ (v : List ℕ). counts c bs ∷ (v ++ k.meaning.state)) table
          ∙ ap (λ (v : List ℕ). counts c bs ∷ (laid t c bs ++ v)) st
          ∙ sym (steps_recording 4096 f c t h.meaning.state bs long)
          )
          (ap (λ (x : Held). x.meaning.remaining) e)
          (ap (λ (x : Held). x.meaning.total) e)
          (ap (λ (x : Held). x.space) e)
          (ap (λ (x : Held). x.loan) e),
    )

pub recorded_begun : (start : List ℕ) (capacity c c' : ℕ) (t t' : List ℕ) (h k : Held) → c' ≡ 0 → t' ≡ zeros 4096 → Begins start capacity h.meaning k.meaning
    → Begins (recorded_start start) capacity (recorded c t h).meaning (recorded c' t' k).meaning
recorded_begun start capacity c c' t t' h k none blank b = record {
  is =
      meant _ _ _ _ _ _
      (ap (λ (n : ℕ). n ∷ (t' ++ k.meaning.state)) none
      ∙ ap (λ (v : List ℕ). 0 ∷ (v ++ k.meaning.state)) blank
      ∙ ap (λ (x : Meaning). 0 ∷ (zeros 4096 ++ x.state)) b.is
      )
      (ap (λ (x : Meaning). x.remaining) b.is)
      (ap (λ (x : Meaning). x.total) b.is);
  large = b.large;
}

pub answer_below : (answer : List ℕ → List ℕ) (c : ℕ) (t s : List ℕ) → length t ≡ 4096 → answer s ≡ recorded_answer answer (c ∷ (t ++ s))
answer_below answer c t s long = sym (ap answer (drop_at t s 4096 long))

pub length_zeros : (n : ℕ) → length (zeros n) ≡ n
unfolding zeros
length_zeros n = length-replicate n 0

pub same_digest : (f : Step) (start : List ℕ) (answer : List ℕ → List ℕ) → SameDigest f start answer
same_digest f start answer bs =
    ap (recorded_answer answer) (steps_recording 4096 f 0 (zeros 4096) start bs (length_zeros 4096))
    ∙ sym (answer_below answer (counts 0 bs) (laid (zeros 4096) 0 bs) (steps f start bs) (length_laid (zeros 4096) 0 bs ∙ length_zeros 4096))

pub same_below : {S : Type 0} (t : Table) (a b : S) → a ≡ b → ◌≡◌ {A = Recorder S} (record { table = t; below = a }) (record { table = t; below = b })
same_below t a b e i = record { table = t; below = e i }
