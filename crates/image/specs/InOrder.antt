-- Which files of an image come, one after another.
-- Source: this project's own format (docs/FORMATS.md, "Image").
use Rattle.std.specs.Prelude.{ℕ, zero, suc, ◌-◌, List, [], ◌∷◌}
use Rattle.image.specs.Files.{bytes_of, files_of}
use Rattle.image.specs.Layout.{file_path, file_text}
use Rattle.image.specs.declared.image.File.{File}
use Rattle.image.specs.declared.in_order.Files.{Files}

-- the path and the text of a file
abbrev pub pair : File → List ℕ × List ℕ
pair f = (f.path.now, f.text.now)

-- the path and the text of each of n files, from the file k on
abbrev pub files_from : List ℕ → ℕ → ℕ → List (List ℕ × List ℕ)
files_from img k zero = []
files_from img k (suc n) = (file_path img k, file_text img k) ∷ files_from img (suc k) n

-- those that are left
abbrev pub files_left : Files → List (List ℕ × List ℕ)
files_left s = files_from (bytes_of s.image.now) s.number (suc (files_of s.image.now) - s.number)
