-- The set of files of an image, by their numbers.
use mathlib.Core.HLevel.{⊥_prop}
use Rattle.std.proofs.Common.{◌≡◌, ℕ, zero, suc, ◌-◌, ◌<◌, ◌≤◌, ◌⊎◌, List, [], ◌∷◌, length, Some, None, codes, Option, sym, refl, ap, ◌∙◌, inl, inr, arith, length-append}
use mathlib.Core.Logic.{∥∥₁_elim}
use Rattle.std.specs.Str.{bytes_eq}
use Rattle.std.proofs.lemmas.Slice.Eq.{bytes_eq-Decides}
use Rattle.std.proofs.lemmas.Bool.{cases_Bool, cases_eq, cases_order, cond-true, cond-false}
use Rattle.canonical.specs.Order.{Member}
use Rattle.hash_modulo.specs.Sets.{Bytes}
use Rattle.image.specs.Layout.{file_path, file_text, link}
use Rattle.image.specs.Opening.{Opens, New, Every}
use Rattle.image.specs.declared.image.File.{File}
use Rattle.image.proofs.Opened.{text_short}
use Rattle.store_path.specs.Names.{StorePath}
use Rattle.store_path.proofs.Deciding.{same_text}
use Rattle.links.specs.Laws.{FileOf, SetFinite, SetHas, SetOnly, OneNumber, PathsNamed, Among, SamePairs}
use Rattle.links.specs.Owners.{Stands}
use Rattle.links.specs.Sets.{set_of, Nowhere, Found, FoundFile}

-- no two of the first n files have the same path
abbrev pub Apart : List ℕ → ℕ → Type 0
Apart img n = (j k : ℕ) → 1 ≤ j → j ≤ n → 1 ≤ k → k ≤ n → file_path img j ≡ file_path img k → j ≡ k

new_apart : (img : List ℕ) (n : ℕ) → Every (New img) n → (j k : ℕ) → 1 ≤ j → j < k → k ≤ n → file_path img j ≡ file_path img k → ⊥
new_apart img n new j k from before within same = new (k - 1) (omega arith) (j - 1) (omega arith) same

pub one_number : OneNumber
one_number img n opens j k a b c d same = elim (cases_order j k) [
  | inl e ↦ e
  | inr o ↦ elim o [
    | inl h ↦ absurd (new_apart img n opens.different j k a h d same)
    | inr h ↦ absurd (new_apart img n opens.different k j c h b (sym same))
  ]
]

-- the same where no more is known than that the image opens
pub apart : (img : List ℕ) (n : ℕ) → ∥ Opens img n ∥₁ → Apart img n
apart img n opens j k a b c d same = elim (cases_eq j k) [
  | inl e ↦ e
  | inr ne ↦ absurd (∥∥₁_elim opens ⊥_prop (λ w. ne (one_number img n w j k a b c d same)))
]

module _ (img : List ℕ) where
  -- the last file has the path asked for, or an earlier one may
  here : (n : ℕ) (p : Bytes) → file_path img (suc n) ≡ p → set_of img (suc n) p ≡ Some (file_text img (suc n))
  here n p e = cond-true (bytes_eq (file_path img (suc n)) p) (Some (file_text img (suc n))) (set_of img n p) ((bytes_eq-Decides (file_path img (suc n)) p).1 e)

  earlier : (n : ℕ) (p : Bytes) → (file_path img (suc n) ≡ p → ⊥) → set_of img (suc n) p ≡ set_of img n p
  earlier n p ne = elim (cases_Bool (bytes_eq (file_path img (suc n)) p)) [
    | inl t ↦ absurd (ne ((bytes_eq-Decides (file_path img (suc n)) p).0 t))
    | inr f ↦ cond-false (bytes_eq (file_path img (suc n)) p) (Some (file_text img (suc n))) (set_of img n p) f
  ]

  only : (n : ℕ) (p t : Bytes) → set_of img n p ≡ Some t → FileOf img n p t
  only zero p t e = let z : ◌≡◌ {A = ℕ} 0 1 = cc in absurd (omega arith)
  only (suc n) p t e = elim (same_text (file_path img (suc n)) p) [
    | inl h ↦ (let s = here n p h in record { number = suc n; from = omega arith; to = omega arith; path = h; text = cc })
    | inr ne ↦ (let f = only n p t (sym (earlier n p ne) ∙ e) in record { number = f.number; from = f.from; to = omega (arith, f.to); path = f.path; text = f.text })
  ]

  pub has : (n : ℕ) → Apart img n → (k : ℕ) → 1 ≤ k → k ≤ n → (p : Bytes) → file_path img k ≡ p → set_of img n p ≡ Some (file_text img k)
  has zero a k from to p e = absurd (omega arith)
  has (suc n) a k from to p e = elim (same_text (file_path img (suc n)) p) [
    | inl h ↦ here n p h ∙ ap (λ (j : ℕ). Some (file_text img j)) (a (suc n) k (omega arith) (omega arith) from to (h ∙ sym e))
    | inr ne ↦ elim (cases_eq k (suc n)) [
      | inl q ↦ absurd (ne (ap (file_path img) (sym q) ∙ e))
      | inr less ↦ earlier n p ne ∙ has n (λ i j b c d f. a i j b (omega arith) d (omega arith)) k from (omega arith) p e
    ]
  ]

  abbrev paths : ℕ → List Bytes
  paths zero = []
  paths (suc n) = file_path img (suc n) ∷ paths n

  listed : (n k : ℕ) → 1 ≤ k → k ≤ n → (p : Bytes) → file_path img k ≡ p → Member p (paths n)
  listed zero k from to p e = absurd (omega arith)
  listed (suc n) k from to p e = elim (cases_eq k (suc n)) [
    | inl q ↦ inl (sym e ∙ ap (file_path img) q)
    | inr less ↦ inr (listed n k from (omega arith) p e)
  ]

pub set_only : SetOnly
set_only = only

pub set_has : SetHas
set_has img n opens k from to = has img n (one_number img n opens) k from to (file_path img k) refl

pub set_finite : SetFinite
set_finite img n opens = (paths img n, λ p z. (let f = only img n p z.0 z.1 in listed img n f.number f.from f.to p f.path))

-- where none of them has the path, no text is there
pub none_there : (img : List ℕ) (n : ℕ) (p t : Bytes) → Nowhere img n p → set_of img n p ≡ Some t → ⊥
none_there img n p t no-file e = let f = only img n p t e in no-file f.number f.from f.to f.path

pub not_there : (img : List ℕ) (n : ℕ) (p : Bytes) (o : Option ℕ) → Found img n p o → ((number : ℕ) → o ≡ Some number → 1 ≤ number → number ≤ n → ⊥) → (t : Bytes) → set_of img n p ≡ Some t → ⊥
not_there img n p None found out t e = none_there img n p t found e
not_there img n p (Some number) (from, to, is) out t e = out number refl from to

-- the file of a number that was found
pub found_there : (img : List ℕ) (n : ℕ) (p : Bytes) (number : ℕ) → Found img n p (Some number) → ∥ Opens img n ∥₁ → set_of img n p ≡ Some (file_text img number)
found_there img n p number (from, to, is) opens = has img n (apart img n opens) number from to p is

-- and a file that was found at its path
pub stands : (img : List ℕ) (n : ℕ) (p : Bytes) (number : ℕ) (file : File) → FoundFile img n p (Some (number, file)) → ∥ Opens img n ∥₁ → Stands img n number file.path.now file.text.now
stands img n p number file (found, path, text) opens = record {
  from = found.0;
  named = found.2 ∙ sym path;
  there = ap (set_of img n) path ∙ found_there img n p number found opens ∙ ap Some (sym text);
}

store_long : (p : Bytes) → StorePath p → length p ≤ 255
store_long p s =
    let a = ap length s.whole ∙ length-append (codes "/nix/store/") s.rest in
    let b = ap length s.based.whole ∙ length-append s.based.digits _ in
    omega (arith, s.based.long, s.based.named.most)

pub paths_named : PathsNamed
paths_named img n opens k from to =
    let m : k - 1 < n = omega arith in
    let named = opens.named (k - 1) m in
    record {
      store = named.store;
      drv = named.drv;
      short = store_long (file_path img k) named.store;
      text = text_short img (link img (k - 1)) (file_text img k) refl (opens.inside (k - 1) m);
    }

option : (o : Option Bytes) → (o ≡ None) ⊎ ((t : Bytes) × (o ≡ Some t))
option None = inl refl
option (Some t) = inr (t, refl)

module _ (img jmg : List ℕ) (n m : ℕ) (opens : Opens jmg m) (there : Among img n jmg m) where
  passes : (p t : Bytes) → set_of img n p ≡ Some t → set_of jmg m p ≡ Some t
  passes p t e =
      let f = only img n p t e in
      let g = there f.number f.from f.to in
      has jmg m (one_number jmg m opens) g.number g.from g.to p (g.path ∙ f.path) ∙ ap Some (g.text ∙ f.text)

pub same_pairs : SamePairs
same_pairs img jmg n m o q there back p = elim (option (set_of img n p)) [
  | inr t ↦ t.1 ∙ sym (passes img jmg n m q there p t.0 t.1)
  | inl none ↦ elim (option (set_of jmg m p)) [
    | inl e ↦ none ∙ sym e
    | inr t ↦ (let back' = passes jmg img m n o back p t.0 t.1 in let z : ◌≡◌ {A = ℕ} 0 1 = cc in absurd (omega arith))
  ]
]
