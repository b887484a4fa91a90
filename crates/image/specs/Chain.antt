-- Which images have a chain of slots that comes to its end, and which index is the first that breaks it.
-- Source: this project's own format (docs/FORMATS.md, "Image").
use Rattle.std.specs.Prelude.{◌≡◌, ℕ, ◌+◌, ◌*◌, ◌<◌, ◌≤◌, List, length, ◌≢◌}
use Rattle.image.specs.Layout.{slot_count, link, holder}

-- an image has 4 to 4,194,304 bytes
pub record Sized (img : List ℕ) : Type 0 where
  pub least : 4 ≤ length img
  pub most : length img ≤ 4194304

-- at most 256 slots, all inside the image
pub record Slotted (img : List ℕ) : Type 0 where
  pub few : slot_count img ≤ 256
  pub inside : 4 + 16 * slot_count img ≤ length img

-- after n links the chain is at a slot, and at one where it has not been before
pub record Good (img : List ℕ) (n : ℕ) : Type 0 where
  pub some : 0 < link img n
  pub within : link img n ≤ slot_count img
  pub fresh : (m : ℕ) → m < n → link img m ≢ link img n

-- the chain has n files: index zero ends it
pub record Chained (img : List ℕ) (n : ℕ) : Type 0 where
  pub ends : link img n ≡ 0
  pub good : (m : ℕ) → m < n → Good img m

-- the first index that does not end the chain and is past the slots or was there before is held by this slot
pub record BadLink (img : List ℕ) (slot : ℕ) : Type 0 where
  pub after : ℕ
  pub good : (m : ℕ) → m < after → Good img m
  pub goes_on : 0 < link img after
  pub bad : Good img after → ⊥
  pub holds : slot ≡ holder img after
