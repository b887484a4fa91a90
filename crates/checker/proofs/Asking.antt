-- A chain of questions has one refusal, and none where each is answered yes.
use Rattle.std.proofs.Common.{◌≡◌, sym, ◌∙◌, inl, inr}
use Rattle.checker.specs.Refusals.{Ask, Done}
use Rattle.checker.specs.declared.refused.CallRefusal.{CallRefusal}

abbrev pub OneRefusal : (CallRefusal → Type 0) → Type 0
OneRefusal E = (e f : CallRefusal) → E e → E f → e ≡ f

abbrev pub NoRefusal : (CallRefusal → Type 0) → Type 0
NoRefusal E = (e : CallRefusal) → E e → ⊥

module _ (Yes : Type 0) (no : CallRefusal) {rest : CallRefusal → Type 0} where
  pub one_refusal : OneRefusal rest → OneRefusal (Ask Yes no rest)
  one_refusal o e f (inl a) (inl b) = a.1 ∙ sym b.1
  one_refusal o e f (inl a) (inr b) = absurd (a.0 b.0)
  one_refusal o e f (inr a) (inl b) = absurd (b.0 a.0)
  one_refusal o e f (inr a) (inr b) = o e f a.1 b.1

  pub not_refused : Yes → NoRefusal rest → NoRefusal (Ask Yes no rest)
  not_refused y n e (inl a) = a.0 y
  not_refused y n e (inr a) = n e a.1

pub all_asked : OneRefusal Done
all_asked e f a b = absurd a

pub all_yes : NoRefusal Done
all_yes e a = a
