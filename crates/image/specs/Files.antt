-- What the code's image and files stand for.
-- Source: this project's own format (docs/FORMATS.md, "Image").
use Rattle.std.specs.Prelude.{◌≡◌, ℕ, ◌≤◌, List, length, Some, None, Ok, Err, Option, Result}
use Rattle.std.specs.Borrow.{Bor}
use Rattle.image.specs.Layout.{file_path, file_text}
use Rattle.image.specs.Opening.{Opens, Refused}
use Rattle.image.specs.declared.image.File.{File}
use Rattle.image.specs.declared.image.Image.{Image}
use Rattle.image.specs.declared.refusal.Refusal.{Refusal}

-- the bytes of an image that has opened, and how many files it has
abbrev pub bytes_of : Image → List ℕ
bytes_of image = image.chain.bytes.now

abbrev pub files_of : Image → ℕ
files_of image = image.chain.count

-- opening the bytes that are lent answers r: an image over the same loan, or the refusal
abbrev pub Opened : Bor (List ℕ) → Result Image Refusal → Type 0
Opened bytes (Ok image) = (image.chain.bytes ≡ bytes) × Opens bytes.now (files_of image)
Opened bytes (Err e) = Refused bytes.now e

-- the file k of an image is there exactly where the image has so many
abbrev pub FileAt : List ℕ → ℕ → ℕ → Option File → Type 0
FileAt img n k None = (1 ≤ k → k ≤ n → ⊥)
FileAt img n k (Some f) = (1 ≤ k) × (k ≤ n) × (f.path.now ≡ file_path img k) × (f.text.now ≡ file_text img k) × (length f.text.now ≤ 262144)
