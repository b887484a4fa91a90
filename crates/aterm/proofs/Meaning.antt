-- What a string's bytes mean is what the string means.
use Rattle.std.proofs.Common.{◌≡◌, true, false, eqb, List, [], ◌∷◌, refl, ap, ◌∙◌, ne_eqb}
use Rattle.std.proofs.lemmas.Bool.{cond-false}
use Rattle.aterm.specs.Grammar.{Char, plain, escaped, escape, raw, meaning}
use Rattle.aterm.specs.Meaning.{meant}
use Rattle.aterm.proofs.Free.{not_slash}

pub meant_raw : (cs : List Char) → meant false (raw cs) ≡ meaning cs
meant_raw [] = refl
meant_raw (plain c o ∷ cs) =
    cond-false (eqb c 92) (meant true (raw cs)) (c ∷ meant false (raw cs)) (ne_eqb c 92 (not_slash c o)) ∙ ap (λ l. c ∷ l) (meant_raw cs)
meant_raw (escaped c ∷ cs) = ap (λ l. escape c ∷ l) (meant_raw cs)
