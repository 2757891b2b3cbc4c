-- A pair of pixels and its sums, as code holds them. This serves contracts: no meaning stands here.
-- Assumes nothing.
use Rattle.std.specs.Prelude.{◌≡◌, List, ℕ, zero, suc, ◌+◌, ◌*◌, ◌/◌, ◌%◌, ◌<◌, get_or}
use Rattle.definitions.specs.declared.FrameDescription.{FrameDescription}
use Rattle.definitions.specs.Pixel.{cb_of, cr_of}
use Rattle.definitions.specs.Row.{of_colour}
use Rattle.pixel_pairs.specs.declared.Bytes.{Bytes}
use Rattle.pixel_pairs.specs.declared.Colours.{Colours}
use Rattle.pixel_pairs.specs.declared.Sums.{Sums}

-- the first three bytes of a pixel, and back
abbrev pub first_three : (ℕ → ℕ) → Bytes
first_three f = record { b0 = f 0; b1 = f 1; b2 = f 2 }

abbrev pub byte_at : Bytes → ℕ → ℕ
byte_at b zero = b.b0
byte_at b (suc zero) = b.b1
byte_at b (suc (suc i)) = b.b2

abbrev pub sum_at : Sums → ℕ → ℕ
sum_at s zero = s.e0
sum_at s (suc zero) = s.e1
sum_at s (suc (suc i)) = s.e2

abbrev pub AreBytes : (ℕ → ℕ) → Type 0
AreBytes f = (i : ℕ) → i < 3 → f i < 256

-- the entries at place i of a pixel f and of g to its right, added
abbrev pub entries_at : List ℕ → (f g : ℕ → ℕ) → ℕ → ℕ
entries_at sums f g i = get_or sums (256 * i + f i) 0 + get_or sums (768 + 256 * i + g i) 0

pub record Paired (sums : List ℕ) (f g : ℕ → ℕ) (s : Sums) : Type 0 where
  pub left : AreBytes f
  pub right : AreBytes g
  pub e0 : s.e0 ≡ entries_at sums f g 0
  pub e1 : s.e1 ≡ entries_at sums f g 1
  pub e2 : s.e2 ≡ entries_at sums f g 2

-- entries of which two do not wrap
abbrev pub Light : List ℕ → Type 0
Light sums = (k : ℕ) → k < 1536 → get_or sums k 0 < 9223372036854775808

-- the three sums of a pair, added: the left pixel's luma in 21 bits, then the right one's
abbrev pub total : Sums → ℕ
total s = s.e0 + s.e1 + s.e2

abbrev pub left_luma : Sums → ℕ
left_luma s = total s / 8192 % 256

abbrev pub right_luma : Sums → ℕ
right_luma s = total s / 17179869184 % 256

-- linear values of a pair over another, from sixteenths, and of a pair alone, from quarters
abbrev pub sixteenths_of : (a b : Sums) → Sums
sixteenths_of a b = record {
  e0 = (3 * a.e0 + b.e0) / 281474976710656;
  e1 = (3 * a.e1 + b.e1) / 281474976710656;
  e2 = (3 * a.e2 + b.e2) / 281474976710656;
}

abbrev pub quarters_of : Sums → Sums
quarters_of a = record { e0 = a.e0 / 70368744177664; e1 = a.e1 / 70368744177664; e2 = a.e2 / 70368744177664 }

-- such sums do not wrap
pub record Over (a b : Sums) : Type 0 where
  pub e0 : 3 * a.e0 + b.e0 < 18446744073709551616
  pub e1 : 3 * a.e1 + b.e1 < 18446744073709551616
  pub e2 : 3 * a.e2 + b.e2 < 18446744073709551616

pub record Linears (l : Sums) : Type 0 where
  pub e0 : l.e0 < 65536
  pub e1 : l.e1 < 65536
  pub e2 : l.e2 < 65536

abbrev pub corrected_by : (gamma : List ℕ) → Sums → ℕ → ℕ
corrected_by gamma l i = get_or gamma (sum_at l i) 0

-- the colours of a chroma input, at j, and at j and its next
abbrev pub ColourAt : (input : ℕ → ℕ → ℕ) → (j : ℕ) → Bytes → Type 0
ColourAt input j b = b ≡ first_three (input j)

abbrev pub ColoursAt : (input : ℕ → ℕ → ℕ) → (j : ℕ) → Colours → Type 0
ColoursAt input j c = ColourAt input j c.first × ColourAt input (j + 1) c.second

-- the chroma of a colour
abbrev pub cb_byte : FrameDescription → Bytes → ℕ
cb_byte d b = of_colour d.settings (cb_of d.settings) (byte_at b)

abbrev pub cr_byte : FrameDescription → Bytes → ℕ
cr_byte d b = of_colour d.settings (cr_of d.settings) (byte_at b)
