-- That every tree is judged: each question is answered yes, or there is a first question with a no, and where its first no is.
-- Source: this project's own rule (docs/CALLS.md).
use Rattle.std.specs.Prelude.{ℕ, ◌<◌, ◌⊎◌, List, Some, None}
use Rattle.aterm.specs.Grammar.{Tree}
use Rattle.aterm.specs.Files.{derivation}
use Rattle.derivation.specs.declared.spot.Spot.{Spot}
use Rattle.derivation.specs.declared.question.Question.{Question}
use Rattle.derivation.specs.Questions.{number}
use Rattle.derivation.specs.Judgement.{Answer}

-- whatever the path and the tree: each question is answered yes, or each before some question, and that one's first no is at w
abbrev pub EveryTree : Type 0
EveryTree = (path : List ℕ) (x : Tree derivation) → ((q : Question) → Answer path x q None) ⊎ ((q : Question) × (w : Spot) × ((p : Question) → number p < number q → Answer path x p None) × Answer path x q (Some w))
