-- What is kept of each file of an image: whether it reads, and for each input row the file that it names.
-- Source: this project's own rule (docs/CALLS.md, "Verdict"), over the image of docs/FORMATS.md, "Image".
use Rattle.std.specs.Prelude.{◌≡◌, ℕ, ◌-◌, ◌<◌, ◌≤◌, [], length, Some, None, Option, Decides, slice_index_or}
use Rattle.aterm.specs.Files.{input, derivation, whole, in_input}
use Rattle.aterm.specs.Grammar.{Tree, Within, signs, meaning}
use Rattle.aterm.specs.declared.file.Input.{Input}
use Rattle.derivation.specs.Judgement.{Answer, IsFileFault}
use Rattle.derivation.specs.Plain.{PlainInput}
use Rattle.derivation.specs.declared.fault.FileFault.{FileFault}
use Rattle.derivation.specs.declared.question.Question.{Question}
use Rattle.hash_modulo.specs.Sets.{Bytes, Owned}
use Rattle.image.specs.Layout.{file_path, file_text}
use Rattle.verdict.specs.Judged.{row_of}
use Rattle.links.specs.Sets.{set_of, Found}
use Rattle.links.specs.declared.link.Link.{Link}
use Rattle.links.specs.declared.link.Links.{Links}
use Rattle.links.specs.declared.table.LinkTable.{LinkTable}

abbrev pub no_input : Tree input
no_input = ([], [])

-- the file at this path with this text reads as the tree x
pub record ReadsAs (path text : Bytes) (x : Tree derivation) : Type 0 where
  pub written : signs text ≡ whole x
  pub within : Within derivation x
  pub passed : (q : Question) → Answer path x q None

-- of the image of n files
module _ (img : Bytes) (n : ℕ) where
  -- the link of an input row: the number of the file that it names, if there is one, and whether that owns the outputs named, if it reads
  abbrev pub LinkRight : Tree input → Option Link → Type 0
  LinkRight t None = Found img n (meaning t.0) None
  LinkRight t (Some w) = Found img n (meaning t.0) (Some w.file) × Decides w.owned (Owned (set_of img n) (row_of t))

  -- w is the link of the row whose value is v
  abbrev pub RowLinked : Bytes → Input → Option Link → Type 0
  RowLinked text v w = (at : ℕ) (t : Tree input) → in_input text at v t → PlainInput t → LinkRight t w

  -- a file that reads has a link for each input row, in text order
  pub record RowsLinked (path text : Bytes) (l : Links) : Type 0 where
    pub tree : Tree derivation
    pub reads : ReadsAs path text tree
    pub count : l.count ≡ length tree.1.0
    pub right : (i : ℕ) → i < l.count → LinkRight (slice_index_or tree.1.0 i no_input) (slice_index_or l.rows i None)

  -- what is kept of the file at this path with this text: nothing where it does not read
  abbrev pub FileLinked : Bytes → Bytes → Option Links → Type 0
  FileLinked path text None = (f : FileFault) × IsFileFault path text f
  FileLinked path text (Some l) = RowsLinked path text l

  -- and of the file of this number
  abbrev pub Linked : ℕ → Option Links → Type 0
  Linked k l = FileLinked (file_path img k) (file_text img k) l

  -- and of a number, which may be past the files: nothing then
  pub record LinkedAt (k : ℕ) (l : Option Links) : Type 0 where
    pub within : 1 ≤ k → k ≤ n → Linked k l
    pub past : n < k → l ≡ None

-- what a table keeps of the file of this number
abbrev pub links_at : LinkTable → ℕ → Option Links
links_at t k = slice_index_or t.files (k - 1) None

-- it keeps what is right of every file of the image
abbrev pub AllLinked : Bytes → ℕ → LinkTable → Type 0
AllLinked img n t = (k : ℕ) → 1 ≤ k → k ≤ n → Linked img n k (links_at t k)

-- l is what it keeps; of a number past its end nothing
pub record Kept (t : LinkTable) (k : ℕ) (l : Option Links) : Type 0 where
  pub within : 1 ≤ k → k ≤ 256 → l ≡ links_at t k
  pub past : (1 ≤ k → k ≤ 256 → ⊥) → l ≡ None
