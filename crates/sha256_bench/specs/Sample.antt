-- The bytes that the measuring program digests.
-- Source: this project's own choice.
use Rattle.std.specs.Prelude.{ℕ, zero, suc, ◌%◌, List, [], ◌∷◌, ◌++◌}

-- the first n of them
unfoldable pub sample : ℕ → List ℕ
sample zero = []
sample (suc n) = sample n ++ n % 251 ∷ []
