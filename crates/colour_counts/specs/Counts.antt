-- How many of the 16,777,216 colours have each luma: docs/RULES.md, 5.3.
-- Assumes nothing.
use Rattle.std.specs.Prelude.{ℕ, zero, suc, ◌+◌, ◌*◌, ◌/◌, ◌%◌, ◌<◌, ◌≡◌, cond, List, T, eqb, Result}
use Rattle.yuv_support.specs.declared.YuvSourceChannels.TheVariants.{Rgb}
use Rattle.yuv_support.specs.declared.YuvChromaSubsampling.TheVariants.{Yuv420}
use Rattle.yuv_support.specs.declared.YuvRange.{YuvRange}
use Rattle.yuv_support.specs.declared.YuvStandardMatrix.{YuvStandardMatrix}
use Rattle.yuv_support.specs.Matrix.{accepted}
use Rattle.sharp_gamma.specs.declared.SharpYuvGammaTransfer.TheVariants.{Srgb}
use Rattle.sharp_gamma.specs.declared.TableRounding.TheVariants.{Truncated}
use Rattle.definitions.specs.declared.YuvSettings.{YuvSettings}
use Rattle.definitions.specs.Painted.{Painted}
use Rattle.definitions.specs.Pixel.{luma_of}
use Rattle.yuv_error.specs.declared.YuvError.{YuvError}
use Rattle.yuv_error.specs.Numbers.{numbers_of}
use Rattle.yuv_error.specs.Rules.{first_numbers, matrix_rules}
use Rattle.yuv_error.specs.Lent.{taken}

-- RULES 5.3: 256 × 256 × 256
abbrev pub colours : ℕ
colours = 16777216

-- RULES 5.3: settings with this range and matrix; luma depends on no other (`ByRangeAndMatrix`)
abbrev pub settings_of : YuvRange → YuvStandardMatrix → YuvSettings
settings_of range matrix = record { channels = Rgb; sampling = Yuv420; range = range; matrix = matrix; transfer = Srgb; rounding = Truncated }

-- RULES 5.3: the number of a colour
abbrev pub colour_number : (r g b : ℕ) → ℕ
colour_number r g b = r * 65536 + g * 256 + b

-- RULES 5.3: the luma rule (5.1) at colour number c
abbrev pub luma_of_colour : YuvRange → YuvStandardMatrix → (c : ℕ) → ℕ
luma_of_colour range matrix c = luma_of (settings_of range matrix) (c / 65536) (c / 256 % 256) (c % 256)

-- RULES 5.3: how many of f 0, f 1, .., f (n − 1) are y
unfoldable pub count_below : (f : ℕ → ℕ) → (n y : ℕ) → ℕ
count_below f zero y = 0
count_below f (suc n) y = count_below f n y + cond (eqb (f n) y) 1 0

-- RULES 5.3: how many colours have luma y
abbrev pub count_of : YuvRange → YuvStandardMatrix → (y : ℕ) → ℕ
count_of range matrix = count_below (luma_of_colour range matrix) colours

-- RULES 5.3: f 0 + f 1 + .. + f (n − 1)
unfoldable pub sum_below : (f : ℕ → ℕ) → (n : ℕ) → ℕ
sum_below f zero = 0
sum_below f (suc n) = sum_below f n + f n

-- RULES 5.3, 7.4: everything of a call: its answer, 4 for a matrix that is not accepted, and each of the 256 numbers lent to it
pub record CountsPost (range : YuvRange) (matrix : YuvStandardMatrix) (before : List ℕ) (answer : Result Unit YuvError) (after : List ℕ) : Type 0 where
  pub answered : numbers_of answer ≡ first_numbers (matrix_rules matrix)
  pub counts : Painted (taken answer 256) (count_of range matrix) before after

-- ---- what the counts come to

-- RULES 5.3: with an accepted matrix the counts of all luma bytes add to the number of colours
abbrev pub Total : Type 0
Total = (range : YuvRange) (matrix : YuvStandardMatrix) → T (accepted matrix) → sum_below (count_of range matrix) 256 ≡ colours

-- RULES 5.3: every colour has one of the numbers, from which its bytes are read back, and every number is a colour's: each is counted once
abbrev pub EveryColour : Type 0
EveryColour =
    ((r g b : ℕ) → r < 256 → g < 256 → b < 256 → let c = colour_number r g b in (c < colours) × (c / 65536 ≡ r) × (c / 256 % 256 ≡ g) × (c % 256 ≡ b))
    × ((c : ℕ) → c < colours → (c / 65536 < 256) × (c ≡ colour_number (c / 65536) (c / 256 % 256) (c % 256)))

-- RULES 5.3: whatever its other settings, a frame's luma is that of its range and matrix
abbrev pub ByRangeAndMatrix : Type 0
ByRangeAndMatrix = (s : YuvSettings) (r g b : ℕ) → luma_of s r g b ≡ luma_of (settings_of s.range s.matrix) r g b
