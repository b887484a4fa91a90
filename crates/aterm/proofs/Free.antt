-- No writing goes on past another.
use Rattle.std.proofs.Common.{◌≡◌, ℕ, zero, suc, pred, T, List, [], ◌∷◌, sym, ◌∙◌, subst, append_assoc, arith}
use Rattle.aterm.specs.Grammar.{Sign, byte, plain, escaped, ordinary, Shape, string, row, list, Fields, last, field, Tree, Trees, opener, begin, more, rows, write, writes}
use Rattle.aterm.proofs.Laws.{tail_eq, Free}

pub head_byte : {a b : ℕ} {r s : List Sign} → byte a ∷ r ≡ byte b ∷ s → a ≡ b
head_byte e = cc

pub not_quote : (c : ℕ) → T (ordinary c) → c ≡ 34 → ⊥
not_quote c o e = subst (λ n. T (ordinary n)) e o

pub not_slash : (c : ℕ) → T (ordinary c) → c ≡ 92 → ⊥
not_slash c o e = subst (λ n. T (ordinary n)) e o

free_string : Free (write string)
free_string [] [] r s e = tail_eq e
free_string [] (plain c o ∷ ys) r s e = absurd (not_quote c o (sym (head_byte e)))
free_string [] (escaped c ∷ ys) r s e = absurd (let z : ◌≡◌ {A = ℕ} 34 92 = head_byte e in omega arith)
free_string (plain c o ∷ xs) [] r s e = absurd (not_quote c o (head_byte e))
free_string (plain c o ∷ xs) (plain d u ∷ ys) r s e = free_string xs ys r s (tail_eq e)
free_string (plain c o ∷ xs) (escaped d ∷ ys) r s e = absurd (not_slash c o (head_byte e))
free_string (escaped c ∷ xs) [] r s e = absurd (let z : ◌≡◌ {A = ℕ} 92 34 = head_byte e in omega arith)
free_string (escaped c ∷ xs) (plain d u ∷ ys) r s e = absurd (not_slash d u (sym (head_byte e)))
free_string (escaped c ∷ xs) (escaped d ∷ ys) r s e = free_string xs ys r s (tail_eq (tail_eq e))

module _ {X : Type 0} (w : X → List Sign) (free : Free w) (o : ℕ) where
  pub free_more : (n : ℕ) → Free (more o w n)
  free_more n [] [] r s e = tail_eq e
  free_more n [] (y ∷ ys) r s e = absurd (let z : ◌≡◌ {A = ℕ} 93 44 = head_byte e in omega arith)
  free_more n (x ∷ xs) [] r s e = absurd (let z : ◌≡◌ {A = ℕ} 44 93 = head_byte e in omega arith)
  free_more n (x ∷ xs) (y ∷ ys) r s e =
      free_more (pred n) xs ys r s (free x y _ _ (sym (append_assoc (w x) _ r) ∙ tail_eq (tail_eq e) ∙ append_assoc (w y) _ s))

  pub not_close : (n : ℕ) (r s : List Sign) → (o ≡ 93 → ⊥) → byte 93 ∷ r ≡ begin n o ∷ s → ⊥
  not_close zero r s ne e = cc
  not_close (suc n) r s ne e = ne (sym (head_byte e))

  pub free_rows : (o ≡ 93 → ⊥) → (n : ℕ) → Free (rows o w n)
  free_rows ne n [] [] r s e = tail_eq e
  free_rows ne n [] (y ∷ ys) r s e = absurd (not_close n _ _ ne e)
  free_rows ne n (x ∷ xs) [] r s e = absurd (not_close n _ _ ne (sym e))
  free_rows ne n (x ∷ xs) (y ∷ ys) r s e =
      free_more (pred n) xs ys r s (free x y _ _ (sym (append_assoc (w x) _ r) ∙ tail_eq e ∙ append_assoc (w y) _ s))

pub opener_close : (s : Shape) → opener s ≡ 93 → ⊥
opener_close string e = omega arith
opener_close (row fs) e = omega arith
opener_close (list n s) e = omega arith

mutual
  pub free_write : (s : Shape) → Free (write s)
  free_write string = free_string
  free_write (row fs) = free_writes fs
  free_write (list n s) = free_rows (write s) (free_write s) (opener s) (opener_close s) n

  pub free_writes : (fs : Fields) → Free (writes fs)
  free_writes (last s) x y r t e = tail_eq (free_write s x y _ _ (sym (append_assoc (write s x) _ r) ∙ tail_eq e ∙ append_assoc (write s y) _ t))
  free_writes (field s fs) x y r t e =
      free_writes fs x.1 y.1 r t (tail_eq (free_write s x.0 y.0 _ _ (sym (append_assoc (write s x.0) _ r) ∙ tail_eq e ∙ append_assoc (write s y.0) _ t)))

-- some tree of each shape
mutual
  pub some_tree : (s : Shape) → Tree s
  some_tree string = []
  some_tree (row fs) = some_trees fs
  some_tree (list n s) = []

  pub some_trees : (fs : Fields) → Trees fs
  some_trees (last s) = some_tree s
  some_trees (field s fs) = (some_tree s, some_trees fs)
