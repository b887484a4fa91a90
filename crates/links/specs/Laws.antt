-- What holds of the set of files of an image that opens.
-- Source: this project's own rule (docs/FORMATS.md, "Image").
use Rattle.std.specs.Prelude.{◌≡◌, ℕ, ◌≤◌, List, length, Some}
use Rattle.hash_modulo.specs.Sets.{Bytes, Finite}
use Rattle.image.specs.Layout.{file_path, file_text}
use Rattle.image.specs.Opening.{Opens}
use Rattle.store_path.specs.Names.{StorePath, Drv}
use Rattle.links.specs.Sets.{set_of}

-- it is finite
abbrev pub SetFinite : Type 0
SetFinite = (img : List ℕ) (n : ℕ) → Opens img n → Finite (set_of img n)

-- it has every file of the image
abbrev pub SetHas : Type 0
SetHas = (img : List ℕ) (n : ℕ) → Opens img n → (k : ℕ) → 1 ≤ k → k ≤ n → set_of img n (file_path img k) ≡ Some (file_text img k)

-- one of the first n files has this path and this text
pub record FileOf (img : List ℕ) (n : ℕ) (p t : Bytes) : Type 0 where
  pub number : ℕ
  pub from : 1 ≤ number
  pub to : number ≤ n
  pub path : file_path img number ≡ p
  pub text : file_text img number ≡ t

-- and no other
abbrev pub SetOnly : Type 0
SetOnly = (img : List ℕ) (n : ℕ) (p t : Bytes) → set_of img n p ≡ Some t → FileOf img n p t

-- a path has one number
abbrev pub OneNumber : Type 0
OneNumber = (img : List ℕ) (n : ℕ) → Opens img n → (j k : ℕ) → 1 ≤ j → j ≤ n → 1 ≤ k → k ≤ n → file_path img j ≡ file_path img k → j ≡ k

-- a file's path and text are within their limits
pub record NamedFile (p t : Bytes) : Type 0 where
  pub store : StorePath p
  pub drv : Drv p
  pub short : length p ≤ 255
  pub text : length t ≤ 262144

abbrev pub PathsNamed : Type 0
PathsNamed = (img : List ℕ) (n : ℕ) → Opens img n → (k : ℕ) → 1 ≤ k → k ≤ n → NamedFile (file_path img k) (file_text img k)

-- each file of one image is, by its path and text, a file of another
abbrev pub Among : List ℕ → ℕ → List ℕ → ℕ → Type 0
Among img n jmg m = (k : ℕ) → 1 ≤ k → k ≤ n → FileOf jmg m (file_path img k) (file_text img k)

-- images with the same pairs of path and text have equal sets, whatever their order
abbrev pub SamePairs : Type 0
SamePairs = (img jmg : List ℕ) (n m : ℕ) → Opens img n → Opens jmg m → Among img n jmg m → Among jmg m img n → (p : Bytes) → set_of img n p ≡ set_of jmg m p
