-- A tree that a text writes keeps the limits.
use Rattle.std.proofs.Common.{ℕ, zero, suc, ◌≤◌, List, [], ◌∷◌, ◌++◌, length, arith}
use Rattle.aterm.specs.Grammar.{Sign, byte, over, end, signs, Shape, string, row, list, Fields, last, field, Tree, Trees, opener, write, writes, more, rows, Every, Within, WithinAll}

-- no row beyond a limit begins there
abbrev pub Clear : List Sign → Type 0
Clear [] = Unit {0}
Clear (byte b ∷ l) = Clear l
Clear (over b ∷ l) = ⊥
Clear (end ∷ l) = Clear l

pub clear_signs : (t : List ℕ) → Clear (signs t)
clear_signs [] = tt
clear_signs (b ∷ t) = clear_signs t

pub clear_left : (a b : List Sign) → Clear (a ++ b) → Clear a
clear_left [] b c = tt
clear_left (byte x ∷ a) b c = clear_left a b c
clear_left (over x ∷ a) b c = c
clear_left (end ∷ a) b c = clear_left a b c

pub clear_right : (a b : List Sign) → Clear (a ++ b) → Clear b
clear_right [] b c = c
clear_right (byte x ∷ a) b c = clear_right a b c
clear_right (over x ∷ a) b c = absurd c
clear_right (end ∷ a) b c = clear_right a b c

module _ {X : Type 0} (o : ℕ) (w : X → List Sign) (P : X → Type 0) (each : (x : X) → Clear (w x) → P x) where
  within_more : (n : ℕ) (xs : List X) → Clear (more o w n xs) → (length xs ≤ n) × Every P xs
  within_more n [] c = (omega arith, tt)
  within_more zero (x ∷ xs) c = absurd c
  within_more (suc n) (x ∷ xs) c =
      let r = within_more n xs (clear_right (w x) (more o w n xs) c) in
      (omega (arith, r.0), (each x (clear_left (w x) (more o w n xs) c), r.1))

  within_rows : (n : ℕ) (xs : List X) → Clear (rows o w n xs) → (length xs ≤ n) × Every P xs
  within_rows n [] c = (omega arith, tt)
  within_rows zero (x ∷ xs) c = absurd c
  within_rows (suc n) (x ∷ xs) c =
      let r = within_more n xs (clear_right (w x) (more o w n xs) c) in
      (omega (arith, r.0), (each x (clear_left (w x) (more o w n xs) c), r.1))

mutual
  pub within : (s : Shape) (t : Tree s) → Clear (write s t) → Within s t
  within string t c = tt
  within (row fs) t c = within_all fs t c
  within (list n s) t c = within_rows (opener s) (write s) (Within s) (within s) n t c

  pub within_all : (fs : Fields) (t : Trees fs) → Clear (writes fs t) → WithinAll fs t
  within_all (last s) t c = within s t (clear_left (write s t) (byte 41 ∷ []) c)
  within_all (field s fs) t c = (within s t.0 (clear_left (write s t.0) (byte 44 ∷ writes fs t.1) c), within_all fs t.1 (clear_right (write s t.0) (byte 44 ∷ writes fs t.1) c))
