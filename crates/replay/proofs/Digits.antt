-- What `{:08x}` or `{:02x}` writes of a number: its digits in base 16, with zeros before them where there are fewer.
use Rattle.std.proofs.Common.{◌≡◌, ℕ, ◌-◌, ◌^◌, false, [], refl}
use Rattle.std.specs.Fmt.{digits, padded_integral, format_spec}
use Rattle.std.proofs.Padding.{padded_integral_zeros}
use Rattle.replay.specs.Printed.{in_base_16}

pub zeros_first : (least n : ℕ) → padded_integral (format_spec 32 0 4 least (2 ^ 64 - 1)) false [] (digits 16 false n) ≡ in_base_16 least n
unfolding in_base_16
zeros_first least n = padded_integral_zeros (format_spec 32 0 4 least (2 ^ 64 - 1)) (digits 16 false n) refl refl
