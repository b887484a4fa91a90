-- Worked examples of the definitions as one table: what is found by them and what is wanted, a string, and files with their verdicts.
-- Source: the rules of base 32, of the fold, of strings and of verdicts as `store_path`, `canonical` and `verdict` state them, worked by hand.
use Rattle.std.specs.Prelude.{◌≡◌, ◌-◌, cond, List, [], ◌∷◌, ◌++◌, length, replicate, Some, None, codes, Ok, Err}
use Rattle.std.specs.List.{AllByRecursion}
use Rattle.std.specs.Str.{bytes_eq}
use Rattle.aterm.specs.Grammar.{Char, raw, meaning}
use Rattle.canonical.specs.Decode.{said}
use Rattle.canonical.specs.Strings.{quoted}
use Rattle.derivation.specs.Asked.{field_number}
use Rattle.derivation.specs.declared.field.Field.TheVariants.{Environment}
use Rattle.hash_modulo.specs.Sets.{Bytes, Files}
use Rattle.store_path.specs.Base32.{base32, fold}
use Rattle.verdict.specs.Judged.{Judged}
use Rattle.verdict.specs.declared.fault.Fault.TheVariants.{WrongVariable}
use Rattle.verdict.specs.Verdicts.{Verdict}
use Rattle.samples.specs.Zeros.{zero_answer}

-- one example: what is found and what is wanted; a string with its quotes, what it means and its canonical text; the verdict of the file at a path of a set
pub data Sample : Type 0 where
  sample : Bytes → Bytes → Sample
  string : Bytes → Bytes → Bytes → Sample
  judged : Files → Bytes → Verdict → Sample

-- some string is written so, means this, and has this canonical text
pub record Said (stands means canonical : Bytes) : Type 0 where
  pub string : List Char
  pub written : 34 ∷ (raw string ++ (34 ∷ [])) ≡ stands
  pub meant : meaning string ≡ means
  pub read : said stands 1 (length stands - 1) ≡ means
  pub again : quoted (meaning string) ≡ canonical

-- the file at p has this verdict and no other, where every digest is 32 zeros
pub record VerdictIs (set : Files) (p : Bytes) (v : Verdict) : Type 0 where
  pub judged : Judged set zero_answer p v
  pub only : (w : Verdict) → Judged set zero_answer p w → w ≡ v

abbrev pub Holds : Sample → Type 0
Holds (sample found wanted) = found ≡ wanted
Holds (string stands means canonical) = Said stands means canonical
Holds (judged set p v) = VerdictIs set p v

-- the set with one file
abbrev pub only_file : Bytes → Bytes → Files
only_file path text p = cond (bytes_eq p path) (Some text) None

unfoldable pub path : Bytes
path = codes "/nix/store/00000000000000000000000000000000-a.drv"

-- a file that is right, and the same with an empty environment
unfoldable pub right_text : Bytes
right_text = codes "Derive([(\"out\",\"/nix/store/00000000000000000000000000000000-a\",\"\",\"\")],[],[],\"s\",\"b\",[],[(\"out\",\"/nix/store/00000000000000000000000000000000-a\")])"

unfoldable pub bare_text : Bytes
bare_text = codes "Derive([(\"out\",\"/nix/store/00000000000000000000000000000000-a\",\"\",\"\")],[],[],\"s\",\"b\",[],[])"

unfoldable pub samples : List Sample
samples =
    sample (base32 (replicate 20 0)) (codes "00000000000000000000000000000000")
    ∷ sample (base32 (1 ∷ replicate 19 0)) (codes "00000000000000000000000000000001")
    ∷ sample (base32 (replicate 19 0 ++ (128 ∷ []))) (codes "h0000000000000000000000000000000")
    ∷ sample (base32 (replicate 20 255)) (codes "zzzzzzzzzzzzzzzzzzzzzzzzzzzzzzzz")
    ∷ sample (fold (replicate 32 1)) (replicate 12 0 ++ replicate 8 1)
    ∷ string (codes "\"\\a\"") (codes "a") (codes "\"a\"")
    ∷ judged (only_file path right_text) path (Ok tt)
    ∷ judged (only_file path bare_text) path (Err (WrongVariable (record { field = field_number Environment; row = 0; place = 0 })))
    ∷ []

-- each is as it is wanted
abbrev pub Samples : Type 0
Samples = AllByRecursion Holds samples
