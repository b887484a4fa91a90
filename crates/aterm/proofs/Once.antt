-- No two trees are written alike.
use Rattle.std.proofs.Common.{◌≡◌, ℕ, pred, T, List, [], ◌∷◌, ◌++◌, sym, refl, ap, ◌∙◌, subst, append_assoc, arith}
use lib.Dec.{T_prop}
use Rattle.aterm.specs.Grammar.{Sign, byte, plain, escaped, ordinary, Shape, string, row, list, Fields, last, field, opener, more, rows, write, writes}
use Rattle.aterm.proofs.Laws.{tail_eq, Free}
use Rattle.aterm.proofs.Free.{free_write, opener_close, head_byte, not_quote, not_slash, not_close}

abbrev Once : {X : Type 0} → (X → List Sign) → Type 0
Once {X} w = (x y : X) (r s : List Sign) → w x ++ r ≡ w y ++ s → x ≡ y

same_plain : (c d : ℕ) (o : T (ordinary c)) (u : T (ordinary d)) → c ≡ d → plain c o ≡ plain d u
same_plain c d o u e =
    let P : ℕ → Type 0 = λ n. (v : T (ordinary n)) → plain c o ≡ plain n v in
    subst P e (λ v. ap (plain c) (T_prop (ordinary c) o v)) u

once_string : Once (write string)
once_string [] [] r s e = refl
once_string [] (plain c o ∷ ys) r s e = absurd (not_quote c o (sym (head_byte e)))
once_string [] (escaped c ∷ ys) r s e = absurd (let z : ◌≡◌ {A = ℕ} 34 92 = head_byte e in omega arith)
once_string (plain c o ∷ xs) [] r s e = absurd (not_quote c o (head_byte e))
once_string (plain c o ∷ xs) (plain d u ∷ ys) r s e =
    let one = same_plain c d o u (head_byte e) in
    let more = once_string xs ys r s (tail_eq e) in
    λ i. one i ∷ more i
once_string (plain c o ∷ xs) (escaped d ∷ ys) r s e = absurd (not_slash c o (head_byte e))
once_string (escaped c ∷ xs) [] r s e = absurd (let z : ◌≡◌ {A = ℕ} 92 34 = head_byte e in omega arith)
once_string (escaped c ∷ xs) (plain d u ∷ ys) r s e = absurd (not_slash d u (sym (head_byte e)))
once_string (escaped c ∷ xs) (escaped d ∷ ys) r s e =
    let one : c ≡ d = head_byte (tail_eq e) in
    let more = once_string xs ys r s (tail_eq (tail_eq e)) in
    λ i. escaped (one i) ∷ more i

module _ {X : Type 0} (w : X → List Sign) (free : Free w) (once : Once w) (o : ℕ) where
  once_more : (n : ℕ) → Once (more o w n)
  once_more n [] [] r s e = refl
  once_more n [] (y ∷ ys) r s e = absurd (let z : ◌≡◌ {A = ℕ} 93 44 = head_byte e in omega arith)
  once_more n (x ∷ xs) [] r s e = absurd (let z : ◌≡◌ {A = ℕ} 44 93 = head_byte e in omega arith)
  once_more n (x ∷ xs) (y ∷ ys) r s e =
      let f = sym (append_assoc (w x) (more o w (pred n) xs) r) ∙ tail_eq (tail_eq e) ∙ append_assoc (w y) (more o w (pred n) ys) s in
      let one = once x y _ _ f in
      let rest = once_more (pred n) xs ys r s (free x y _ _ f) in
      λ i. one i ∷ rest i

  once_rows : (o ≡ 93 → ⊥) → (n : ℕ) → Once (rows o w n)
  once_rows ne n [] [] r s e = refl
  once_rows ne n [] (y ∷ ys) r s e = absurd (not_close w free o n _ _ ne e)
  once_rows ne n (x ∷ xs) [] r s e = absurd (not_close w free o n _ _ ne (sym e))
  once_rows ne n (x ∷ xs) (y ∷ ys) r s e =
      let f = sym (append_assoc (w x) (more o w (pred n) xs) r) ∙ tail_eq e ∙ append_assoc (w y) (more o w (pred n) ys) s in
      let one = once x y _ _ f in
      let rest = once_more (pred n) xs ys r s (free x y _ _ f) in
      λ i. one i ∷ rest i

mutual
  pub once_write : (s : Shape) → Once (write s)
  once_write string = once_string
  once_write (row fs) = once_writes fs
  once_write (list n s) = once_rows (write s) (free_write s) (once_write s) (opener s) (opener_close s) n

  pub once_writes : (fs : Fields) → Once (writes fs)
  once_writes (last s) x y r t e = once_write s x y _ _ (sym (append_assoc (write s x) (byte 41 ∷ []) r) ∙ tail_eq e ∙ append_assoc (write s y) (byte 41 ∷ []) t)
  once_writes (field s fs) x y r t e =
      let f = sym (append_assoc (write s x.0) (byte 44 ∷ writes fs x.1) r) ∙ tail_eq e ∙ append_assoc (write s y.0) (byte 44 ∷ writes fs y.1) t in
      let one = once_write s x.0 y.0 _ _ f in
      let rest = once_writes fs x.1 y.1 r t (tail_eq (free_write s x.0 y.0 _ _ f)) in
      λ i. (one i, rest i)
