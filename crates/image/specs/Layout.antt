-- The layout of an image of derivation files: unsigned fields, low byte first.
-- Source: this project's own format (docs/FORMATS.md, "Image").
use Rattle.std.specs.Prelude.{ℕ, zero, suc, ◌+◌, ◌-◌, ◌*◌, List, take, drop, slice_index}

abbrev pub le16 : List ℕ → ℕ → ℕ
le16 img at = slice_index img at + slice_index img (at + 1) * 256

abbrev pub le32 : List ℕ → ℕ → ℕ
le32 img at = slice_index img at + slice_index img (at + 1) * 256 + slice_index img (at + 2) * 65536 + slice_index img (at + 3) * 16777216

-- the header
abbrev pub slot_count : List ℕ → ℕ
slot_count img = le16 img 0

abbrev pub first_index : List ℕ → ℕ
first_index img = le16 img 2

-- where the slot i begins, counted from 1
abbrev pub slot_at : ℕ → ℕ
slot_at i = 4 + 16 * (i - 1)

-- the fields of the slot i
abbrev pub next_index : List ℕ → ℕ → ℕ
next_index img i = le16 img (slot_at i)

abbrev pub path_length : List ℕ → ℕ → ℕ
path_length img i = le16 img (slot_at i + 2)

abbrev pub path_offset : List ℕ → ℕ → ℕ
path_offset img i = le32 img (slot_at i + 4)

abbrev pub text_offset : List ℕ → ℕ → ℕ
text_offset img i = le32 img (slot_at i + 8)

abbrev pub text_length : List ℕ → ℕ → ℕ
text_length img i = le32 img (slot_at i + 12)

-- the parts of the image that the slot i names
unfoldable pub path_in : List ℕ → ℕ → List ℕ
path_in img i = take (path_length img i) (drop (path_offset img i) img)

unfoldable pub text_in : List ℕ → ℕ → List ℕ
text_in img i = take (text_length img i) (drop (text_offset img i) img)

-- the index that the chain comes to after n links: the header holds the first, and each slot the next
unfoldable pub link : List ℕ → ℕ → ℕ
link img zero = first_index img
link img (suc n) = next_index img (link img n)

-- the slot that holds that index, 0 for the header
unfoldable pub holder : List ℕ → ℕ → ℕ
holder img zero = 0
holder img (suc n) = link img n

-- the path and the text of the file k: files are numbered from 1 in chain order
abbrev pub file_path : List ℕ → ℕ → List ℕ
file_path img k = path_in img (link img (k - 1))

abbrev pub file_text : List ℕ → ℕ → List ℕ
file_text img k = text_in img (link img (k - 1))
