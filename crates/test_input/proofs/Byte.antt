-- What `{:02x}` writes of a byte.
use Rattle.std.proofs.Common.{◌≡◌, ℕ, ◌-◌, ◌^◌, ◌<◌, List, [], false, Option, Some, option_map, ap, ◌∙◌}
use Rattle.std.proofs.lemmas.Fmt.{hex_byte}
use Rattle.std.specs.Fmt.{radix_digits, padded_integral, format_spec}
use Rattle.sink.specs.Numerals.{pair}

pub padded_is_pair : (digits : Option (List ℕ)) (b : ℕ) → b < 256 → digits ≡ Some (radix_digits 16 false b)
    → option_map (padded_integral (format_spec 32 0 4 2 (2 ^ 64 - 1)) false []) digits ≡ Some (pair b)
padded_is_pair digits b small e =
    ap (option_map (padded_integral (format_spec 32 0 4 2 (2 ^ 64 - 1)) false [])) e ∙ ap (λ (text : List ℕ). Some text) (hex_byte false b small)
