-- A line of example 4.3 of docs/RULES.md, computed over the definitions: the nine weights of Fcc in full range.
-- Assumes nothing.
use mathlib.Core.Path.{◌≡◌, refl}
use lib.IntN.{pos}
use lib.Ieee.{of_bits, of_int, neg, mul, div, sub}
use Rattle.yuv_support.specs.declared.YuvRange.TheVariants.{Full}
use Rattle.yuv_support.specs.declared.YuvStandardMatrix.TheVariants.{Fcc}
use Rattle.forward_transform.specs.Rounding.{round_half_away}
use Rattle.built_coefficients.specs.Built.{set, minus, forward_transform}

pub fcc_full :
    forward_transform Full Fcc ≡ set
    (pos 2458) (pos 4833) (pos 901)
    (minus 1381) (minus 2715) (pos 4096)
    (pos 4096) (minus 3452) (minus 644)
unfolding forward_transform of_bits of_int neg mul div sub round_half_away
fcc_full = refl
