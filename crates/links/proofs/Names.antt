-- A file that reads, and the names of its outputs kept apart from it.
use Rattle.std.proofs.Common.{◌≡◌, ℕ, ◌<◌, ◌≤◌, Bool, true, false, List, [], ◌∷◌, map, length, get_or, take, Some, Ok, Err, Result, MatchOption, MatchBool, Decides, sym, refl, ap, ◌∙◌, subst, inl, inr, arith}
use Rattle.std.specs.List.{AllWithin, HoldsAt}
use Rattle.std.specs.Result.{result_ok}
use Rattle.std.proofs.ByRecursion.{all_from_every}
use Rattle.std.proofs.lemmas.Bool.{false≢true}
use Rattle.std.proofs.lemmas.List.{ext_get_or, get_or-map, get_or-take, length-map, length-take-le}
use Rattle.aterm.specs.Files.{output, in_output}
use Rattle.aterm.specs.Grammar.{Tree, raw}
use Rattle.aterm.specs.Meaning.{cut}
use Rattle.aterm.specs.Reads.{Each, past}
use Rattle.aterm.specs.declared.file.Derivation.{Derivation}
use Rattle.aterm.specs.declared.file.Output.{Output}
use Rattle.aterm.specs.declared.part.Span.{Span}
use Rattle.aterm.specs.declared.rows.Placed.{Placed}
use Rattle.canonical.specs.Order.{Member}
use Rattle.canonical.proofs.Members.{member_all, member_at}
use Rattle.derivation.specs.Judgement.{Accepted, JudgedFile}
use Rattle.derivation.specs.declared.fault.FileFault.{FileFault}
use Rattle.hash_modulo.specs.Sets.{Bytes}
use Rattle.links.specs.Owners.{OwnsOutput}
use Rattle.links.proofs.Turns.{some_row}

-- a file that reads is accepted
pub accepted : (path text : Bytes) (r : Result Derivation FileFault) (d : Derivation) → JudgedFile path text r → Some d ≡ result_ok r → Accepted path text d
accepted path text (Ok x) d p e = subst (λ o. MatchOption o ⊥ (Accepted path text)) (sym e) p
accepted path text (Err x) d p e = absurd (subst (λ o. MatchOption o ⊥ (λ _. Unit {0})) e tt)

pub member_map : {X Y : Type 0} (f : X → Y) (xs : List X) (y : Y) → Member y (map f xs) → (x : X) × Member x xs × (y ≡ f x)
member_map f [] y i = absurd i
member_map f (x ∷ xs) y (inl e) = (x, inl refl, e)
member_map f (x ∷ xs) y (inr i) = let w = member_map f xs y i in (w.0, inr w.1, w.2)

pub map_member : {X Y : Type 0} (f : X → Y) (xs : List X) (x : X) → Member x xs → Member (f x) (map f xs)
map_member f [] x i = absurd i
map_member f (y ∷ xs) x (inl e) = inl (ap f e)
map_member f (y ∷ xs) x (inr i) = inr (map_member f xs x i)

-- an array whose first places hold what is had of each row
pub take_rows : {X Y : Type 0} (f : X → Y) (xs : List X) (ys : List Y) (d : Y) → length xs ≤ length ys
    → ((i : ℕ) (x : X) → i < length xs → get_or ys i d ≡ f (get_or xs i x)) → take (length xs) ys ≡ map f xs
take_rows f xs ys d few each =
    let n : length (take (length xs) ys) ≡ length xs = length-take-le (length xs) ys few in
    ext_get_or d _ _ (n ∙ sym (length-map xs f)) (λ i l.
    let b : i < length xs = omega (arith, l, n) in
    let x = some_row xs i b in
    get_or-take (length xs) ys i d b ∙ each i x b ∙ sym (get_or-map f xs i x d b))

-- where rows hold outputs, the bytes at their first places are the outputs' names
pub names_held : (text : Bytes) (from : ℕ) (vs : List (Placed Output)) (os : List (Tree output)) → Each output (in_output text) from vs os
    → map (λ (s : Span). cut text s.start s.«end») (map (λ (v : Placed Output). v.value.name) vs) ≡ map (λ (t : Tree output). raw t.0) os
names_held text from [] [] h = refl
names_held text from [] (o ∷ os) h = absurd h
names_held text from (v ∷ vs) [] h = absurd h
names_held text from (v ∷ vs) (o ∷ os) h =
    ap (λ (n : Bytes). n ∷ map (λ (s : Span). cut text s.start s.«end») (map (λ (u : Placed Output). u.value.name) vs)) h.0.1.0.cut
    ∙ ap (λ (ns : List Bytes). raw o.0 ∷ ns) (names_held text (past output from o) vs os h.1)

-- a test whether one of the names is n answers whether one of the outputs has it
module _ {X : Type 0} (f : X → Bytes) (vs : List X) (os : List (Tree output)) (n : Bytes) (same : map f vs ≡ map (λ (t : Tree output). raw t.0) os) where
  pub decides_named : (b : Bool) → MatchBool b ((k : ℕ) × (k < length vs) × HoldsAt (λ v. f v ≡ n) vs k) (AllWithin (λ v. f v ≡ n → ⊥) vs 0 (length vs)) → Decides b (OwnsOutput os n)
  decides_named true (k, l, holds) = (
    λ _.
        let v = some_row vs k l in
        let there : Member n (map f vs) = subst (λ (m : Bytes). Member m (map f vs)) (holds v) (map_member f vs (get_or vs k v) (member_at vs k v l)) in
        let w = member_map (λ (t : Tree output). raw t.0) os n (subst (Member n) same there) in
        (w.0, w.1, sym w.2),
    λ _. refl,
  )
  decides_named false none = (
    λ e. absurd (false≢true e),
    λ z.
        let there : Member n (map (λ (t : Tree output). raw t.0) os) = subst (λ (m : Bytes). Member m (map (λ (t : Tree output). raw t.0) os)) z.2 (map_member (λ (t : Tree output). raw t.0) os z.0 z.1) in
        let w = member_map f vs n (subst (Member n) (sym same) there) in
        absurd (member_all (λ v. f v ≡ n → ⊥) vs w.0 (all_from_every (λ v. f v ≡ n → ⊥) vs (λ k d _ l. none k d (omega arith) l)) w.1 (sym w.2)),
  )
