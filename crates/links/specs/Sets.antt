-- The set of files of an image, and the number of the file at a path.
-- Source: this project's own rule (docs/FORMATS.md, "Image"): files are numbered from 1 in chain order, and no two have the same path.
use Rattle.std.specs.Prelude.{◌≡◌, ℕ, zero, suc, ◌≤◌, cond, List, Some, None, Option, ◌≢◌}
use Rattle.std.specs.Str.{bytes_eq}
use Rattle.hash_modulo.specs.Sets.{Bytes, Files}
use Rattle.image.specs.Layout.{file_path, file_text}
use Rattle.image.specs.declared.image.File.{File}

-- the set of the first n files of an image, by their paths
abbrev pub set_of : List ℕ → ℕ → Files
set_of img zero p = None
set_of img (suc n) p = cond (bytes_eq (file_path img (suc n)) p) (Some (file_text img (suc n))) (set_of img n p)

-- none of the first n files has this path
abbrev pub Nowhere : List ℕ → ℕ → Bytes → Type 0
Nowhere img n p = (k : ℕ) → 1 ≤ k → k ≤ n → file_path img k ≢ p

-- the number of the file at this path, of the first n, or none
abbrev pub Found : List ℕ → ℕ → Bytes → Option ℕ → Type 0
Found img n p None = Nowhere img n p
Found img n p (Some number) = (1 ≤ number) × (number ≤ n) × (file_path img number ≡ p)

-- the same with the file
abbrev pub FoundFile : List ℕ → ℕ → Bytes → Option (ℕ × File) → Type 0
FoundFile img n p None = Nowhere img n p
FoundFile img n p (Some (number, file)) = Found img n p (Some number) × (file.path.now ≡ p) × (file.text.now ≡ file_text img number)
