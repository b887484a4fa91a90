-- What a name, a store path and a derivation's path are, by their bytes.
-- Source: the Nix manual, "Store Path", and E. Dolstra, The Purely Functional Software Deployment Model (2006), section 5.1.
use Rattle.std.specs.Prelude.{◌≡◌, ℕ, ◌≤◌, List, ◌∷◌, ◌++◌, length, codes, slice_index_or}
use Rattle.std.specs.List.{ContainsAt as Has, AllByRecursion}

-- the bytes of a name
abbrev pub name_bytes : List ℕ
name_bytes = codes "0123456789abcdefghijklmnopqrstuvwxyzABCDEFGHIJKLMNOPQRSTUVWXYZ+-._?="

-- the digits 0 to 31
abbrev pub digits_32 : List ℕ
digits_32 = codes "0123456789abcdfghijklmnpqrsvwxyz"

pub record Name (s : List ℕ) : Type 0 where
  pub some : 1 ≤ length s
  pub most : length s ≤ 211
  pub first : slice_index_or s 0 0 ≡ 46 → ⊥
  pub bytes : AllByRecursion (Has name_bytes) s

-- 32 digits, a hyphen and a name
pub record Based (s : List ℕ) : Type 0 where
  pub digits : List ℕ
  pub name : List ℕ
  pub whole : s ≡ digits ++ 45 ∷ name
  pub long : length digits ≡ 32
  pub each : AllByRecursion (Has digits_32) digits
  pub named : Name name

pub record StorePath (s : List ℕ) : Type 0 where
  pub rest : List ℕ
  pub whole : s ≡ codes "/nix/store/" ++ rest
  pub based : Based rest

-- s is these digits, a hyphen and this name
pub record Joined (s digits name : List ℕ) : Type 0 where
  pub whole : s ≡ digits ++ 45 ∷ name
  pub long : length digits ≡ 32
  pub each : AllByRecursion (Has digits_32) digits
  pub named : Name name

-- s is a store path with these digits and this name
pub record Apart (s digits name : List ℕ) : Type 0 where
  pub whole : s ≡ codes "/nix/store/" ++ (digits ++ 45 ∷ name)
  pub long : length digits ≡ 32
  pub each : AllByRecursion (Has digits_32) digits
  pub named : Name name

-- ends in `.drv`
pub record Drv (s : List ℕ) : Type 0 where
  pub stem : List ℕ
  pub whole : s ≡ stem ++ codes ".drv"
