-- Base 32 as store paths write it, and the fold of a digest of 32 bytes to 20.
-- Source: the Nix manual, "Store Path" (the digits), and E. Dolstra, The Purely Functional Software Deployment Model (2006),
-- section 5.1: printHash32 (here `base32`), and the truncation of a hash by xor (compressHash of Nix, here `fold`).
use Rattle.std.specs.Prelude.{ℕ, ◌+◌, ◌-◌, ◌*◌, ◌/◌, ◌%◌, ◌^◌, List, [], ◌∷◌, map, length, filter, bit_xor, nat_eq, slice_index}
use Rattle.std.specs.List.{range_with_len}
use Rattle.store_path.specs.Names.{digits_32}

-- bit b of a string of bytes is bit b mod 8 of byte b div 8, bit 0 the lowest
abbrev pub bit : List ℕ → ℕ → ℕ
bit bs b = slice_index bs (b / 8) / 2 ^ (b % 8) % 2

-- the number in the bits b to b + 4
abbrev pub five : List ℕ → ℕ → ℕ
five bs b = bit bs b + 2 * bit bs (b + 1) + 4 * bit bs (b + 2) + 8 * bit bs (b + 3) + 16 * bit bs (b + 4)

-- the character at place p, counted from 0 at the left end: the digit 31 - p from the right
abbrev pub character : List ℕ → ℕ → ℕ
character bs p = slice_index digits_32 (five bs (5 * (31 - p)))

-- 20 bytes as 32 characters
unfoldable pub base32 : List ℕ → List ℕ
base32 bs = map (character bs) (range_with_len 0 32)

abbrev pub xor_all : List ℕ → ℕ
xor_all [] = 0
xor_all (x ∷ xs) = bit_xor x (xor_all xs)

-- the indices below n that are i modulo 20
abbrev pub indices : ℕ → ℕ → List ℕ
indices n i = filter (λ k. nat_eq (k % 20) i) (range_with_len 0 n)

-- the xor of the bytes at those indices
abbrev pub folded : List ℕ → ℕ → ℕ → ℕ
folded bs n i = xor_all (map (λ k. slice_index bs k) (indices n i))

-- 20 bytes: byte i is the xor of all bytes whose index is i modulo 20
unfoldable pub fold : List ℕ → List ℕ
fold bs = map (folded bs (length bs)) (range_with_len 0 20)
