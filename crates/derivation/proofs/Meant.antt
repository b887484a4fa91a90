-- What a string's bytes mean.
use Rattle.std.proofs.Common.{◌≡◌, ℕ, suc, false, nat_eq, Bool, List, [], ◌∷◌, Decides, sym, refl, ap, ◌∙◌, arith}
use Rattle.std.specs.Iterator.{YieldsFirst, ComparesItemsByEq}
use Rattle.std.proofs.lemmas.Bool.Decides.{Decides-like}
use Rattle.std.proofs.lemmas.Iterator.Consumers.{YieldsList-from_first}
use Rattle.aterm.specs.declared.meant.Meant.{Meant}
use Rattle.aterm.specs.declared.part.Span.{Span}
use Rattle.aterm.specs.Grammar.{Char, plain, escaped, raw, meaning}
use Rattle.aterm.specs.Reads.{Spans}
use Rattle.aterm.specs.Meaning.{meant, meant_left, cut}
use Rattle.aterm.proofs.Meaning.{meant_raw}
use Rattle.aterm.proofs.Runs.{eq_decides}
use Rattle.derivation.specs.Questions.{Plain}

-- a string's span gives what the string means
pub span_meaning : (text : List ℕ) (p : ℕ) (v : Span) (cs : List Char) (it : Meant) → it.rest.now ≡ cut text v.start v.end → Spans text p v.start v.end cs → meant_left it ≡ meaning cs
span_meaning text p v cs it e s = ap (meant false) (e ∙ s.cut) ∙ meant_raw cs

-- whether a string of a text means what another gives
pub key_decides : (text : List ℕ) (p : ℕ) (v : Span) (cs : List Char) (one other : Meant) → one.rest.now ≡ cut text v.start v.end → Spans text p v.start v.end cs
    → (r : Bool) → ComparesItemsByEq (YieldsFirst meant_left) (λ (s t : Meant). t ≡ s) (YieldsFirst meant_left) one other nat_eq r → Decides r (meaning cs ≡ meant_left other)
key_decides text p v cs one other e s r ran =
    eq_decides (YieldsFirst meant_left) (λ (s t : Meant). t ≡ s) (YieldsFirst meant_left) one other (meaning cs) (meant_left other)
    (YieldsList-from_first (λ x. x) meant_left (meaning cs) (span_meaning text p v cs one e s))
    (λ it i. YieldsList-from_first (λ x. x) meant_left (meant_left other) (ap meant_left i))
    r ran

-- whether two strings that were cut out mean the same
pub keys_decide : (a b : List ℕ) (cs ds : List Char) → a ≡ raw cs → b ≡ raw ds → (r : Bool) → Decides r (meant false a ≡ meant false b) → Decides r (meaning cs ≡ meaning ds)
keys_decide a b cs ds e f r d =
    let p : meant false a ≡ meaning cs = ap (meant false) e ∙ meant_raw cs in
    let q : meant false b ≡ meaning ds = ap (meant false) f ∙ meant_raw ds in
    Decides-like r (λ g. sym p ∙ g ∙ q) (λ g. p ∙ g ∙ sym q) d

-- a string without backslash means the bytes that stand there
pub plain_means : (cs : List Char) → Plain (raw cs) → meaning cs ≡ raw cs
plain_means [] p = refl
plain_means (plain c o ∷ cs) p = ap (λ l. c ∷ l) (plain_means cs (λ h. p (suc h.0, omega (arith, h.1), h.2)))
plain_means (escaped c ∷ cs) p = absurd (p (0, omega arith, λ d. refl))
