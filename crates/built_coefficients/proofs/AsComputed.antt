-- Stored weights are computed weights: number for number those of the matrix's own kr and kb, but for Smpte240, whose two stored sets are those of its
-- kr and kb exchanged. So Custom(0.299, 0.114), which goes through f32, gets the weights that are stored for Bt601.
-- The idea: antt computes the ten sets.
-- Assumes nothing.
use mathlib.Core.Path.{◌≡◌, refl}
use lib.Dec.{T}
use lib.Ieee.{of_bits, of_int, neg, mul, div, sub}
use Rattle.yuv_support.specs.declared.YuvRange.{YuvRange}
use Rattle.yuv_support.specs.declared.YuvRange.TheVariants.{Limited, Full}
use Rattle.yuv_support.specs.declared.YuvStandardMatrix.{YuvStandardMatrix}
use Rattle.yuv_support.specs.declared.YuvStandardMatrix.TheVariants.{Bt601, Bt709, Bt2020, Smpte240, Bt470_6, Fcc, Custom}
use Rattle.yuv_support.specs.Matrix.{in_half, accepted}
use Rattle.yuv_support.proofs.Accepted.{accepted_pair}
use Rattle.forward_transform.specs.Rounding.{round_half_away}
use Rattle.forward_transform.specs.Transform.{computed_weights}
use Rattle.built_coefficients.specs.Built.{forward_transform, pair_of}

pub as_computed : (range : YuvRange) (matrix : YuvStandardMatrix) → forward_transform range matrix ≡ computed_weights range (pair_of matrix)
unfolding forward_transform of_bits of_int neg mul div sub round_half_away
as_computed Limited Bt601 = refl
as_computed Full Bt601 = refl
as_computed Limited Bt709 = refl
as_computed Full Bt709 = refl
as_computed Limited Bt2020 = refl
as_computed Full Bt2020 = refl
as_computed Limited Smpte240 = refl
as_computed Full Smpte240 = refl
as_computed Limited Bt470_6 = refl
as_computed Full Bt470_6 = refl
as_computed range Fcc = refl
as_computed range (Custom kr kb) = refl

-- and that both its numbers pass, where the matrix does
pub pair_accepted : (matrix : YuvStandardMatrix) → T (accepted matrix) → T (in_half (pair_of matrix).kr) × T (in_half (pair_of matrix).kb)
pair_accepted Bt601 h = accepted_pair Bt601 h
pair_accepted Bt709 h = accepted_pair Bt709 h
pair_accepted Bt2020 h = accepted_pair Bt2020 h
pair_accepted Smpte240 h = let p = accepted_pair Smpte240 h in (p.1, p.0)
pair_accepted Bt470_6 h = accepted_pair Bt470_6 h
pair_accepted Fcc h = accepted_pair Fcc h
pair_accepted (Custom kr kb) h = accepted_pair (Custom kr kb) h
