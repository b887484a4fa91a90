-- Every file reads or has a fault, one only, and not both.
use Rattle.std.proofs.Common.{◌≡◌, ℕ, List, [], ◌∷◌, ◌++◌, map, Some, sym, ◌∙◌, subst, inl, inr}
use Rattle.aterm.specs.Files.{derivation, whole, word}
use Rattle.aterm.specs.Grammar.{byte, end, Tree, Within, signs, write}
use Rattle.aterm.proofs.Limits.{Clear, clear_signs, clear_left, clear_right, within}
use Rattle.aterm.proofs.Total.{every_text}
use Rattle.aterm.proofs.Whole as texts
use Rattle.derivation.specs.Judgement.{Answer}
use Rattle.derivation.specs.Questions.{Yes, entries}
use Rattle.derivation.specs.declared.fault.FileFault.TheVariants.{Text, Row}
use Rattle.derivation.proofs.Judging.{one_refusal}
use Rattle.derivation.proofs.Judging as judging
use Rattle.derivation.proofs.Total.{every_tree}
use Rattle.canonical.specs.Meanings.{a_derivation}
use Rattle.canonical.proofs.Exist.{exists}
use Rattle.canonical.proofs.Home.{whole_once}
use Rattle.file_meaning.specs.Laws.{EveryFile, NotBoth, OneFault}
use Rattle.file_meaning.proofs.Trees.{passes}
use Rattle.file_meaning.proofs.Values.{keys_apart}

-- what a text writes is within the limits, since no text has the sign of a row past one
in_limits : (text : List ℕ) (x : Tree derivation) → signs text ≡ whole x → Within derivation x
in_limits text x e = within derivation x (clear_left (write derivation x) (end ∷ []) (clear_right (map byte word) (write derivation x ++ end ∷ []) (subst Clear e (clear_signs text))))

pub not_both : NotBoth
not_both path text m (Text f) r s = texts.none_if_read r.tree r.written s
not_both path text m (Row q w) r s =
    let same : s.tree ≡ r.tree = whole_once s.tree r.tree (sym s.written ∙ r.written) in
    judging.not_both (Yes q path r.tree.0) (entries r.tree) w (subst (λ (x : Tree derivation). Answer path x q (Some w)) same s.found) (r.passed q)

pub one_fault : OneFault
one_fault path text (Text f) (Text g) a b = let e = texts.one_fault text g f b a in cc
one_fault path text (Text f) (Row q w) a b = absurd (texts.none_if_read b.tree b.written a)
one_fault path text (Row q w) (Text g) a b = absurd (texts.none_if_read a.tree a.written b)
one_fault path text (Row p w) (Row q v) a b = one_refusal path text q p v w b a (whole_once a.tree b.tree (sym a.written ∙ b.written))

pub every_file : EveryFile
every_file path text = elim (every_text text) [
  | inr f ↦ inr (Text f.0, f.1)
  | inl t ↦ elim (every_tree path t.0) [
    | inl p ↦ (let m = exists a_derivation t.0 (keys_apart path t.0 (passes path t.0 p)) in
        inl (m.0, record { tree = t.0; written = t.1; within = in_limits text t.0 t.1; passed = p; means = m.1 }))
    | inr r ↦ inr (Row r.0 r.1, record { tree = t.0; written = t.1; passed = r.2; found = r.3 })
  ]
]
