-- The list of an image's files, by their places.
use Rattle.std.proofs.Common.{◌≡◌, ℕ, zero, suc, ◌+◌, ◌<◌, List, length, get_or, refl, ap, ◌∙◌, arith}
use Rattle.std.specs.Iterator.{YieldsFirstBy}
use Rattle.std.specs.Iterator.Adapters.{enumerate_source, enumerate_count, enumerate_steps}
use Rattle.std.specs.List.{enumerate_from}
use Rattle.std.specs.declared.iter.Enumerate.{Enumerate}
use Rattle.std.proofs.lemmas.Iterator.{YieldsList}
use Rattle.std.proofs.lemmas.Iterator.Consumers.{YieldsList-from_first, YieldsList-from_enumerate}
use Rattle.image.specs.InOrder.{pair, files_from, files_left}
use Rattle.image.specs.Layout.{file_path, file_text}
use Rattle.image.specs.declared.in_order.Files.{Files}

pub files_length : (img : List ℕ) (k n : ℕ) → length (files_from img k n) ≡ n
files_length img k zero = refl
files_length img k (suc n) = ap suc (files_length img (suc k) n)

pub files_at : (img : List ℕ) (k n i : ℕ) (d : List ℕ × List ℕ) → i < n → get_or (files_from img k n) i d ≡ (file_path img (k + i), file_text img (k + i))
files_at img k zero i d h = absurd (omega arith)
files_at img k (suc n) zero d h = ap (λ (j : ℕ). (file_path img j, file_text img j)) {x = k} {y = k + 0} (omega arith)
files_at img k (suc n) (suc i) d h = files_at img (suc k) n i d (omega arith) ∙ ap (λ (j : ℕ). (file_path img j, file_text img j)) {x = suc k + i} {y = k + suc i} (omega arith)

-- what `enumerate` makes of the files fs gives each with the number of those before it
pub numbered : (img : List ℕ) (n : ℕ) (fs : Files) (e : Enumerate Files) → files_left fs ≡ files_from img 1 n → enumerate_source e ≡ fs → enumerate_count e ≡ 0
    → YieldsList {B = ℕ × (List ℕ × List ℕ)} (enumerate_steps (YieldsFirstBy pair files_left)) (λ p. (p.0, pair p.1)) e (enumerate_from 0 (files_from img 1 n))
numbered img n fs e are source count = YieldsList-from_enumerate (YieldsList-from_first pair files_left (files_from img 1 n) (ap files_left source ∙ are)) count
