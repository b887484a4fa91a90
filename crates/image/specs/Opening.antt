-- Which images open, and with which refusal an image does not: the questions put to it, in their order.
-- Source: this project's own format (docs/FORMATS.md, "Image"; docs/CALLS.md, "Open").
use Rattle.std.specs.Prelude.{◌≡◌, ℕ, ◌+◌, ◌<◌, ◌≤◌, Bool, true, false, List, length, Ok, Err, Result, MatchResult, ◌≢◌}
use Rattle.store_path.specs.Names.{StorePath, Drv}
use Rattle.image.specs.Chain.{Sized, Slotted, Chained, BadLink}
use Rattle.image.specs.Layout.{path_length, path_offset, text_length, text_offset, path_in, link}
use Rattle.image.specs.declared.refusal.Refusal.{Refusal}
use Rattle.image.specs.declared.refusal.Refusal.TheVariants.{Size, Slots, Link, Part, Path, Repeated}

-- the parts of the slot i lie inside the image, and its text is not too long
pub record Inside (img : List ℕ) (i : ℕ) : Type 0 where
  pub path : path_offset img i + path_length img i ≤ length img
  pub text : text_offset img i + text_length img i ≤ length img
  pub short : text_length img i ≤ 262144

-- the path of the slot i is a store path that ends in `.drv`
pub record Named (img : List ℕ) (i : ℕ) : Type 0 where
  pub store : StorePath (path_in img i)
  pub drv : Drv (path_in img i)

-- the file after n links has the path of no file before it
abbrev pub New : List ℕ → ℕ → Type 0
New img n = (m : ℕ) → m < n → path_in img (link img m) ≢ path_in img (link img n)

abbrev pub InsideAt : List ℕ → ℕ → Type 0
InsideAt img n = Inside img (link img n)

abbrev pub NamedAt : List ℕ → ℕ → Type 0
NamedAt img n = Named img (link img n)

-- the question has the answer yes at every link below n
abbrev pub Every : (ℕ → Type 0) → ℕ → Type 0
Every Yes n = (m : ℕ) → m < n → Yes m

-- of the first n links this slot is the first at which the answer is no
pub record FirstNo (img : List ℕ) (Yes : ℕ → Type 0) (n slot : ℕ) : Type 0 where
  pub after : ℕ
  pub below : after < n
  pub before : Every Yes after
  pub refused : Yes after → ⊥
  pub tells : slot ≡ link img after

-- of the first n links this slot is the first at which what is asked says no
pub record FirstSaid (img : List ℕ) (Says : ℕ → Bool → Type 0) (n slot : ℕ) : Type 0 where
  pub after : ℕ
  pub below : after < n
  pub before : Every (λ m. Says m true) after
  pub refused : Says after false
  pub tells : slot ≡ link img after

-- what is asked says yes at each of the first n links, or r is the first slot at which it says no
pub record Asked (img : List ℕ) (Says : ℕ → Bool → Type 0) (n : ℕ) (r : Result (Unit {0}) ℕ) : Type 0 where
  pub told : MatchResult r (λ _. Every (λ m. Says m true) n) (FirstSaid img Says n)

-- an image that opens, with n files
pub record Opens (img : List ℕ) (n : ℕ) : Type 0 where
  pub sized : Sized img
  pub slotted : Slotted img
  pub chained : Chained img n
  pub inside : Every (InsideAt img) n
  pub named : Every (NamedAt img) n
  pub different : Every (New img) n

-- the first question with the answer no decides the refusal
abbrev pub Refused : List ℕ → Refusal → Type 0
Refused img Size = Sized img → ⊥
Refused img Slots = Sized img × (Slotted img → ⊥)
Refused img (Link slot) = Sized img × Slotted img × BadLink img slot
Refused img (Part slot) = Sized img × Slotted img × ((n : ℕ) × Chained img n × FirstNo img (InsideAt img) n slot)
Refused img (Path slot) = Sized img × Slotted img × ((n : ℕ) × Chained img n × Every (InsideAt img) n × FirstNo img (NamedAt img) n slot)
Refused img (Repeated slot) = Sized img × Slotted img × ((n : ℕ) × Chained img n × Every (InsideAt img) n × Every (NamedAt img) n × FirstNo img (New img) n slot)

-- the number and the slot by which a refusal is told
abbrev pub refusal_number : Refusal → ℕ
refusal_number Size = 2
refusal_number Slots = 3
refusal_number (Link _) = 4
refusal_number (Part _) = 5
refusal_number (Path _) = 6
refusal_number (Repeated _) = 7

abbrev pub refusal_slot : Refusal → ℕ
refusal_slot Size = 0
refusal_slot Slots = 0
refusal_slot (Link slot) = slot
refusal_slot (Part slot) = slot
refusal_slot (Path slot) = slot
refusal_slot (Repeated slot) = slot

-- the answer to an image: the number of its files, or the refusal
abbrev pub Answer : List ℕ → Result ℕ Refusal → Type 0
Answer img (Ok n) = Opens img n
Answer img (Err e) = Refused img e

-- every image has an answer
abbrev pub SomeAnswer : Type 0
SomeAnswer = (img : List ℕ) → (a : Result ℕ Refusal) × Answer img a

-- and one only
abbrev pub OneAnswer : Type 0
OneAnswer = (img : List ℕ) (a b : Result ℕ Refusal) → Answer img a → Answer img b → a ≡ b

-- the answer of the questions on each file, where the chain has n files
abbrev pub FilesTold : {T : Type 0} → List ℕ → ℕ → Result T Refusal → Type 0
FilesTold img n (Ok _) = Every (InsideAt img) n × Every (NamedAt img) n × Every (New img) n
FilesTold img n (Err e) = Sized img → Slotted img → Chained img n → Refused img e
